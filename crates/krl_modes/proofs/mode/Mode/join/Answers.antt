use Rattle.std.proofs.Common.{◌≡◌, rules}
use Rattle.krl_modes.specs.Modes.{join}
use Rattle.krl_modes.proofs.ModeLaws.{join_bound, join-parts}
use Rattle.krl_modes.proofs.mode.Mode.join.Goals as goal

pub returns-clause-least : goal.returns-clause-least
returns-clause-least c =
    let is_join : c.at_or_above.result ≡ join c.args.self c.args.other = search rules in
    rw is_join (join_bound c.args.self c.args.other)

pub returns-clause-parts : goal.returns-clause-parts
returns-clause-parts c =
    let is_join : c.at_or_above.result ≡ join c.args.self c.args.other = search rules in
    rw is_join (join-parts c.args.self c.args.other)
