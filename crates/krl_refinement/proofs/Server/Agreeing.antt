-- Compatible modes agree by their small numbers, and a mode that fits agrees with those of all others.
use Rattle.krl_refinement.proofs.Names.{◌≡◌, ◌≢◌, ℕ, ◌≤◌, ◌<◌, true, ◌||◌, sym, subst, ⊎_elim, arith, nat_eq, ne_eqb, cases_lt, Mode, range_of, key_of, compatible, join, Rows, max_clients, mode_at}
use Rattle.krl_refinement.proofs.Names.{is_compatible_there, RangeAtMost, KeyAtMost, RangesAgree, KeysAgree, modes_by_table, modes_agree_by_table}
use Rattle.krl_modes.proofs.ModeLaws.{join_bound}
use Rattle.krl_modes.proofs.Weights.{reads_bound, inserts_bound, rank_bound}
use Rattle.krl_modes.specs.declared.mode.Mode.TheVariants as mode
use Rattle.krl_table.proofs.Invariant.Compatible.{or_true, all_below_at}

-- the join of two modes is above the first
pub join_above : (a b : Mode) → RangeAtMost (range_of a) (range_of (join a b)) × KeyAtMost (key_of a) (key_of (join a b))
join_above a b = (modes_by_table a (join a b)).0 (join_bound a b).above_first

pub modes_agree : (a b : Mode) → compatible a b ≡ true → RangesAgree (range_of a) (range_of b) × KeysAgree (key_of a) (key_of b)
modes_agree a b e = (modes_agree_by_table a b).0 e

agree_none : (a : Mode) → RangesAgree (range_of a) (range_of mode.N) × KeysAgree (key_of a) (key_of mode.N)
agree_none a = ((omega (arith, reads_bound (range_of a)), omega (arith, inserts_bound (range_of a))), omega (arith, rank_bound (key_of a)))

-- a mode that fits agrees with those of all others
pub compatible_agrees : (rows : Rows) (n c : ℕ) (g : Mode) → ((d : ℕ) → max_clients ≤ d → mode_at rows n d ≡ mode.N) → is_compatible_there rows n c g ≡ true → (d : ℕ) → d ≢ c → RangesAgree (range_of g) (range_of (mode_at rows n d)) × KeysAgree (key_of g) (key_of (mode_at rows n d))
compatible_agrees rows n c g strangers e d ne = ⊎_elim
    (λ (lt : d < max_clients). modes_agree g (mode_at rows n d) (or_true (nat_eq d c) (compatible g (mode_at rows n d)) (all_below_at max_clients (λ x. nat_eq x c || compatible g (mode_at rows n x)) d e lt) (ne_eqb d c ne)))
    (λ (ge : max_clients ≤ d). subst (λ m. RangesAgree (range_of g) (range_of m) × KeysAgree (key_of g) (key_of m)) (sym (strangers d ge)) (agree_none g))
    (cases_lt d max_clients)
