-- The modes on a new slot, one client after another.
use Rattle.krl_table.proofs.Names.{◌≡◌, ◌≢◌, ℕ, zero, suc, ◌+◌, ◌<◌, ◌≤◌, List, [], ◌∷◌, refl, ⊎_elim, length, set, sym, ap, subst, ◌∙◌, arith, eq-eqb, ne_eqb, cases_lt, fun_ext, get_or-set_same}
use Rattle.krl_table.proofs.Names.{get_or-set_other, if◌then◌else◌, RangePart, Mode, range_of, at_or_above, split_modes, mode_beside, mode_of}
use Rattle.krl_modes.specs.declared.part.KeyPart.TheVariants as key
use Rattle.krl_modes.specs.declared.mode.Mode.TheVariants as mode
use Rattle.krl_table.proofs.Rows.RowChanges.{eq_cases}

pub split_writer : (f : ℕ → Mode) (c k : ℕ) (r : RangePart) (x : Mode) → k ≡ c → r ≡ range_of (f k) → x ≡ at_or_above r key.X → x ≡ split_modes f c k
split_writer f c k r x e g h = h ∙ ap (λ y. at_or_above y key.X) (g ∙ ap (λ y. range_of (f y)) e) ∙ sym (ap (λ b. if b then at_or_above (range_of (f c)) key.X else mode_beside (range_of (f k))) (eq-eqb k c e))

pub split_other : (f : ℕ → Mode) (c k : ℕ) (r : RangePart) (x : Mode) → k ≢ c → r ≡ range_of (f k) → x ≡ mode_beside r → x ≡ split_modes f c k
split_other f c k r x ne g h = h ∙ ap mode_beside g ∙ sym (ap (λ b. if b then at_or_above (range_of (f c)) key.X else mode_beside (range_of (f k))) (ne_eqb k c ne))

pub split_more : (new : List Mode) (g : ℕ → Mode) (k : ℕ) (x : Mode) → k < length new → ((d : ℕ) → d < k → mode_of new d ≡ g d) → x ≡ g k → (d : ℕ) → d < k + 1 → mode_of (set new k x) d ≡ g d
split_more new g k x lt ih e d under = eq_cases d k
    (λ f. subst (λ y. mode_of (set new k x) y ≡ g y) (sym f) (get_or-set_same new k x mode.N lt ∙ e))
    (λ ne. get_or-set_other new k d x mode.N ne ∙ ih d (omega (arith, under, ne)))

-- past its end a list of modes gives N
pub modes_past : (modes : List Mode) (d : ℕ) → length modes ≤ d → mode_of modes d ≡ mode.N
modes_past [] d le = refl
modes_past (x ∷ xs) zero le = absurd (omega (arith, le))
modes_past (x ∷ xs) (suc d) le = modes_past xs d (omega (arith, le))

pub split_all : (old new : List Mode) (c : ℕ) → c < 64 → length old ≡ 64 → length new ≡ 64 → ((d : ℕ) → d < 64 → mode_of new d ≡ split_modes (mode_of old) c d) → mode_of new ≡ split_modes (mode_of old) c
split_all old new c client full full_new is = fun_ext (λ d. ⊎_elim (λ (a : d < 64). is d a)
    (λ (a : 64 ≤ d). modes_past new d (omega (arith, a, full_new)) ∙ sym (ap (λ b. if b then at_or_above (range_of (mode_of old c)) key.X else mode_beside (range_of (mode_of old d))) (ne_eqb d c (λ e. omega (arith, e, a, client)))
    ∙ ap (λ x. mode_beside (range_of x)) (modes_past old d (omega (arith, a, full))))) (cases_lt d 64))
