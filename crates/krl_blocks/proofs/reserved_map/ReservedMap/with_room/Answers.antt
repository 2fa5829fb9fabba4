use Rattle.std.proofs.Common.{◌≡◌, List, [], ℕ, Some, None, sym, ap, subst, length, ◌∙◌}
use Rattle.std.specs.Prelude.{count_by, is_some}
use Rattle.krl_blocks.specs.Entries.{KeysRise}
use Rattle.std.specs.FinMap as map
use Rattle.std.specs.FinMap.Entries.{find}
use Rattle.std.specs.Ordering.{nat_cmp}
use Rattle.krl_blocks.specs.ReservedMaps.{kept}
use Rattle.krl_blocks.proofs.Reserved.Keeping.{same, kept_get}
use Rattle.krl_blocks.proofs.reserved_map.ReservedMap.with_room.Goals as goal

not_there : (es : List (ℕ × ℕ)) → es ≡ [] → (k p : ℕ) → find nat_cmp k es ≡ Some p → ⊥
not_there es e k p f = absurd (let bad : Some p ≡ None = sym f ∙ ap (find nat_cmp k) e in cc)

pub invariant_of-result : goal.invariant_of-result
invariant_of-result g c =
    let list = c.in_ok-reserve.ensures.list ∙ ap (λ b. b.list) c.new-places.ensures in
    record {
      rises = subst KeysRise (sym list) tt;
      full = λ k p f. absurd (not_there c.reserve.new.self.list list k p f);
      apart = λ j k p f e. absurd (not_there c.reserve.new.self.list list j p f);
      count = ap (λ xs. count_by is_some xs) c.in_ok-values.ensures.empty ∙ sym (ap length list);
      keys = c.in_ok-reserve.ensures.room;
      values = c.in_ok-values.ensures.capacity;
    }

pub returns : goal.returns
returns g c =
    let list = c.in_ok-reserve.ensures.list ∙ ap (λ b. b.list) c.new-places.ensures in
    ap (λ m. record { map = m; room = c.args.room }) (ap (kept c.in_ok-values.values) list ∙ same (kept c.in_ok-values.values []) map.empty (λ n. kept_get c.in_ok-values.values [] n tt ∙ sym (map.get-empty nat_cmp n)))
