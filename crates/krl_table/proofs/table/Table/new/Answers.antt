use Rattle.krl_table.proofs.Names.{◌≤◌, ℕ, sym, ap, subst, ◌∙◌, arith, get, get-empty, nat_cmp}
use Rattle.krl_table.proofs.Rows.Nothing.{nothing_sound, nothing_over, nothing_listed, nothing_rows}
use Rattle.krl_durable.proofs.Kept.{most_roomed}
use Rattle.krl_table.proofs.Invariant.Within.{none_within}
use Rattle.krl_table.proofs.table.Table.new.Goals as goal

pub invariant_of-result : goal.invariant_of-result
invariant_of-result c =
    let t = c.in_ok-rows.rows.map in let none = λ (n : ℕ). ap (λ s. get s.map n) c.in_ok-rows.ensures ∙ get-empty nat_cmp n in (
      nothing_sound t none,
      nothing_listed t none c.nobody.result.by_client c.nobody.ensures.full c.nobody.ensures.nobody,
      none_within c.nowhere.result.by_client t none,
    )

pub returns-clause-blank : goal.returns-clause-blank
returns-clause-blank c n = nothing_rows c.in_ok-rows.rows.map (λ n. ap (λ s. get s.map n) c.in_ok-rows.ensures ∙ get-empty nat_cmp n) n

pub returns-clause-slots : goal.returns-clause-slots
returns-clause-slots c m near = nothing_over c.in_ok-rows.rows.map (λ n. ap (λ s. get s.map n) c.in_ok-rows.ensures ∙ get-empty nat_cmp n) m near

pub overflow_add-get : goal.overflow_add-get
overflow_add-get c = let entries = c.get.ensures.in_range.1 in let most = most_roomed in omega (arith, entries, most)
