-- The parts of the modes on a new slot.
use Rattle.krl_table.proofs.Names.{◌≡◌, ◌≢◌, ℕ, true, refl, sym, ap, subst, ◌∙◌, eq-eqb, ne_eqb, if◌then◌else◌, RangePart, Mode, ranges_compatible, lets_insert, range_of, key_of}
use Rattle.krl_table.proofs.Names.{at_or_above, compatible, split_modes, mode_beside, key_off_slot}
use Rattle.krl_modes.specs.declared.part.RangePart.TheVariants as range
use Rattle.krl_modes.specs.declared.part.KeyPart.TheVariants as key
use Rattle.krl_table.proofs.Rows.RowChanges.{eq_cases}
use Rattle.std.specs.Cmp.{first_so}

own_range : (r : RangePart) → lets_insert r ≡ true → range_of (at_or_above r key.X) ≡ r
own_range range.N e = absurd (cc)
own_range range.S e = absurd (cc)
own_range range.I e = refl
own_range range.X e = refl

own_key : (r : RangePart) → key_of (at_or_above r key.X) ≡ key.X
own_key range.N = refl
own_key range.S = refl
own_key range.I = refl
own_key range.X = refl

beside_range : (r q : RangePart) → lets_insert r ≡ true → ranges_compatible r q ≡ true → range_of (mode_beside q) ≡ q
beside_range r range.N e f = refl
beside_range r range.I e f = refl
beside_range range.N range.S e f = absurd (cc)
beside_range range.S range.S e f = absurd (cc)
beside_range range.I range.S e f = absurd (cc)
beside_range range.X range.S e f = absurd (cc)
beside_range range.N range.X e f = absurd (cc)
beside_range range.S range.X e f = absurd (cc)
beside_range range.I range.X e f = absurd (cc)
beside_range range.X range.X e f = absurd (cc)

beside_key : (r q : RangePart) → lets_insert r ≡ true → ranges_compatible r q ≡ true → key_of (mode_beside q) ≡ key_off_slot q
beside_key r range.N e f = refl
beside_key r range.I e f = refl
beside_key r range.S e f = refl
beside_key range.N range.X e f = absurd (cc)
beside_key range.S range.X e f = absurd (cc)
beside_key range.I range.X e f = absurd (cc)
beside_key range.X range.X e f = absurd (cc)

module _ (modes : ℕ → Mode) (c : ℕ) where
  writer : split_modes modes c c ≡ at_or_above (range_of (modes c)) key.X
  writer = ap (λ b. if b then at_or_above (range_of (modes c)) key.X else mode_beside (range_of (modes c))) (eq-eqb c c refl)

  another : (d : ℕ) → d ≢ c → split_modes modes c d ≡ mode_beside (range_of (modes d))
  another d ne = ap (λ b. if b then at_or_above (range_of (modes c)) key.X else mode_beside (range_of (modes d))) (ne_eqb d c ne)

  pub writer_key : key_of (split_modes modes c c) ≡ key.X
  writer_key = ap key_of writer ∙ own_key (range_of (modes c))

  module _ (may : lets_insert (range_of (modes c)) ≡ true) (beside : (d : ℕ) → d ≢ c → compatible (modes c) (modes d) ≡ true) where
    pub same_range : (d : ℕ) → range_of (split_modes modes c d) ≡ range_of (modes d)
    same_range d = eq_cases d c
        (λ e. subst (λ x. range_of (split_modes modes c x) ≡ range_of (modes x)) (sym e) (ap range_of writer ∙ own_range (range_of (modes c)) may))
        (λ ne. ap range_of (another d ne) ∙ beside_range (range_of (modes c)) (range_of (modes d)) may (first_so _ _ (beside d ne)))

    pub other_key : (d : ℕ) → d ≢ c → key_of (split_modes modes c d) ≡ key_off_slot (range_of (modes d))
    other_key d ne = ap key_of (another d ne) ∙ beside_key (range_of (modes c)) (range_of (modes d)) may (first_so _ _ (beside d ne))
