-- Modes that are not in each other's way.
use Rattle.krl_table.proofs.Names.{◌≡◌, ◌≢◌, ℕ, zero, suc, ◌≤◌, ◌<◌, Bool, true, false, ◌||◌, refl, sym, ap, subst, ◌∙◌, ⊎_elim, arith, nat_eq, eq-eqb, ne_eqb, cases_lt, and_parts, if◌then◌else◌}
use Rattle.krl_table.proofs.Names.{RangePart, Mode, lets_insert, range_of, at_or_above, compatible, meet, Row, max_clients, all_below, is_compatible_in_row, set_mode, mode_beside, split_modes}
use Rattle.krl_table.proofs.Names.{AreCompatible}
use Rattle.krl_modes.specs.declared.part.KeyPart.TheVariants as key
use Rattle.krl_modes.specs.declared.mode.Mode.TheVariants as mode
use Rattle.krl_modes.proofs.Tables.{implies, implies_use, by_table_2, by_table_3}
use Rattle.krl_modes.proofs.ModeLaws.{mode_compatibility}
use Rattle.krl_table.proofs.Rows.RowChanges.{eq_cases}

pub or_true : (a b : Bool) → (a || b) ≡ true → a ≡ false → b ≡ true
or_true true b e f = absurd (cc)
or_true false b e f = e

pub all_below_at : (n : ℕ) (f : ℕ → Bool) (d : ℕ) → all_below n f ≡ true → d < n → f d ≡ true
all_below_at zero f d e lt = absurd (omega (arith, lt))
all_below_at (suc n) f d e lt = let x = and_parts (f n) (all_below n f) e in
    eq_cases d n (λ g. ap f g ∙ x.0) (λ ne. all_below_at n f d x.1 (omega (arith, lt, ne)))

pub none_compatible : (g : Mode) → compatible g mode.N ≡ true
none_compatible g = grind arith

-- one client's mode next to another's
pub beside : (modes : ℕ → Mode) (c : ℕ) → AreCompatible modes → (d : ℕ) → d ≢ c → compatible (modes c) (modes d) ≡ true
beside modes c h d ne = h c d (λ e. ne (sym e))

pub turned : (a b : Mode) → compatible a b ≡ true → compatible b a ≡ true
turned a b e = sym (mode_compatibility.symmetric a b) ∙ e

-- another mode for one client, compatible with those of the others
pub other_compatible : (old new : ℕ → Mode) (c : ℕ) → AreCompatible old → ((d : ℕ) → d ≢ c → new d ≡ old d) → ((d : ℕ) → d ≢ c → compatible (new c) (old d) ≡ true) → AreCompatible new
other_compatible old new c h same fit d e ne = eq_cases d c
    (λ f. let ec : e ≢ c = λ k. ne (f ∙ sym k) in
    subst (λ x. compatible (new x) (new e) ≡ true) (sym f) (subst (λ y. compatible (new c) y ≡ true) (sym (same e ec)) (fit e ec)))
    (λ dc. eq_cases e c
    (λ f. subst (λ x. compatible (new d) (new x) ≡ true) (sym f) (subst (λ y. compatible y (new c) ≡ true) (sym (same d dc)) (turned (new c) (old d) (fit d dc))))
    (λ ec. subst (λ y. compatible y (new e) ≡ true) (sym (same d dc)) (subst (λ y. compatible (old d) y ≡ true) (sym (same e ec)) (h d e ne))))

pub mode_here : (modes : ℕ → Mode) (c : ℕ) (g : Mode) → set_mode modes c g c ≡ g
mode_here modes c g = ap (λ b. if b then g else modes c) (eq-eqb c c refl)

pub mode_other : (modes : ℕ → Mode) (c d : ℕ) (g : Mode) → d ≢ c → set_mode modes c g d ≡ modes d
mode_other modes c d g ne = ap (λ b. if b then g else modes d) (ne_eqb d c ne)

pub set_compatible : (modes : ℕ → Mode) (c : ℕ) (g : Mode) → AreCompatible modes → ((d : ℕ) → d ≢ c → compatible g (modes d) ≡ true) → AreCompatible (set_mode modes c g)
set_compatible modes c g h fit = other_compatible modes (set_mode modes c g) c h (λ d ne. mode_other modes c d g ne) (λ d ne. subst (λ x. compatible x (modes d) ≡ true) (sym (mode_here modes c g)) (fit d ne))

-- a compatible mode for one client leaves all compatible
pub compatible_row : (row : Row) (c : ℕ) (g : Mode) → ((d : ℕ) → max_clients ≤ d → row.modes d ≡ mode.N) → is_compatible_in_row row c g ≡ true → (d : ℕ) → d ≢ c → compatible g (row.modes d) ≡ true
compatible_row row c g strangers e d ne = ⊎_elim
    (λ (lt : d < max_clients). or_true (nat_eq d c) (compatible g (row.modes d)) (all_below_at max_clients (λ x. nat_eq x c || compatible g (row.modes x)) d e lt) (ne_eqb d c ne))
    (λ (ge : max_clients ≤ d). subst (λ x. compatible g x ≡ true) (sym (strangers d ge)) (none_compatible g))
    (cases_lt d max_clients)

-- a lower mode is compatible with what the mode was compatible with
pub meet_compatible : (a b keep : Mode) → compatible a b ≡ true → compatible (meet a keep) b ≡ true
meet_compatible a b keep e = implies_use (compatible a b) (compatible (meet a keep) b) (by_table_3 (λ a b keep. implies (compatible a b) (compatible (meet a keep) b)) refl a b keep) e

pub lowered_compatible : (modes : ℕ → Mode) (c : ℕ) (keep : Mode) → AreCompatible modes → AreCompatible (set_mode modes c (meet (modes c) keep))
lowered_compatible modes c keep h = set_compatible modes c (meet (modes c) keep) h (λ d ne. meet_compatible (modes c) (modes d) keep (beside modes c h d ne))

pub cleared_compatible : (modes : ℕ → Mode) (c : ℕ) → AreCompatible modes → AreCompatible (set_mode modes c mode.N)
cleared_compatible modes c h = set_compatible modes c mode.N h (λ d ne. turned (modes d) mode.N (none_compatible (modes d)))

-- The modes on a new slot

writer_compatible : (a b : Mode) → lets_insert (range_of a) ≡ true → compatible a b ≡ true → compatible (at_or_above (range_of a) key.X) (mode_beside (range_of b)) ≡ true
writer_compatible a b may e =
    implies_use (compatible a b) (compatible (at_or_above (range_of a) key.X) (mode_beside (range_of b)))
    (implies_use (lets_insert (range_of a)) (implies (compatible a b) (compatible (at_or_above (range_of a) key.X) (mode_beside (range_of b))))
    (by_table_2 (λ a b. implies (lets_insert (range_of a)) (implies (compatible a b) (compatible (at_or_above (range_of a) key.X) (mode_beside (range_of b))))) refl a b) may) e

others_compatible : (a b : RangePart) → compatible (mode_beside a) (mode_beside b) ≡ true
others_compatible a b = grind arith

pub split_compatible : (modes : ℕ → Mode) (c : ℕ) → lets_insert (range_of (modes c)) ≡ true → AreCompatible modes → AreCompatible (split_modes modes c)
split_compatible modes c may h d e ne = eq_cases d c
    (λ f. let ec : e ≢ c = λ k. ne (f ∙ sym k) in
    subst (λ x. compatible x (split_modes modes c e) ≡ true) (sym (writer d f)) (subst (λ x. compatible (at_or_above (range_of (modes c)) key.X) x ≡ true) (sym (other e ec)) (writer_compatible (modes c) (modes e) may (h c e (λ k. ec (sym k))))))
    (λ dc. subst (λ x. compatible x (split_modes modes c e) ≡ true) (sym (other d dc)) (eq_cases e c
    (λ f. subst (λ x. compatible (mode_beside (range_of (modes d))) x ≡ true) (sym (writer e f)) (turned (at_or_above (range_of (modes c)) key.X) (mode_beside (range_of (modes d))) (writer_compatible (modes c) (modes d) may (h c d (λ k. dc (sym k))))))
    (λ ec. subst (λ x. compatible (mode_beside (range_of (modes d))) x ≡ true) (sym (other e ec)) (others_compatible (range_of (modes d)) (range_of (modes e))))))
  where
    writer : (x : ℕ) → x ≡ c → split_modes modes c x ≡ at_or_above (range_of (modes c)) key.X
    writer x f = ap (λ b. if b then at_or_above (range_of (modes c)) key.X else mode_beside (range_of (modes x))) (eq-eqb x c f)

    other : (x : ℕ) → x ≢ c → split_modes modes c x ≡ mode_beside (range_of (modes x))
    other x f = ap (λ b. if b then at_or_above (range_of (modes c)) key.X else mode_beside (range_of (modes x))) (ne_eqb x c f)
