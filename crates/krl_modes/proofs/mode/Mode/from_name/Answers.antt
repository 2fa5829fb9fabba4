use Rattle.std.proofs.Common.{◌≡◌, Option, Some, None, ◌∙◌, rules, tests}
use Rattle.std.specs.Option.{option_map}
use Rattle.std.specs.Str.{bytes_eq}
use Rattle.std.proofs.lemmas.Iterator.{YieldsList-from_slice}
use Rattle.std.proofs.lemmas.Iterator.Consumers.{YieldsList-from_copied}
use Rattle.std.proofs.lemmas.Iterator.Search.{find_from_yields_List}
use Rattle.krl_modes.specs.declared.mode.Mode.{Mode}
use Rattle.krl_modes.specs.Names.{mode_name, all_modes}
use Rattle.krl_modes.proofs.ModeLaws.{mode_named-only}
use Rattle.krl_modes.proofs.mode.Mode.from_name.Goals as goal

-- a map that changes nothing found what is there
unmapped : (found : Option Mode) (m : Mode) → option_map (λ x. x) found ≡ Some m → found ≡ Some m
unmapped None m e = e
unmapped (Some x) m e = e

pub returns-clause-found : goal.returns-clause-found
returns-clause-found c =
    let is_named = find_from_yields_List (λ m. bytes_eq c.args.text.now (mode_name m)) _ _ c.find.result c.find.ensures.ran (YieldsList-from_copied (YieldsList-from_slice all_modes cc)) (λ x b q k. search (rules, tests)) in
    λ m is_name. unmapped c.find.result m (is_named ∙ mode_named-only c.args.text.now m is_name)
