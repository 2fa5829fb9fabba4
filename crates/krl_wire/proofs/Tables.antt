-- Tables of tags: what stands at each place has that place as its tag.
use Rattle.std.proofs.Common.{◌≡◌, ℕ, zero, suc, List, [], ◌∷◌, ◌++◌, Option, Some, None, Ok, refl, ap, subst, ◌∙◌}
use Rattle.std.specs.Prelude.{slice_get}
use Rattle.krl_modes.specs.Names.{all_modes}
use Rattle.krl_modes.specs.declared.mode.Mode.{Mode}
use Rattle.krl_modes.specs.declared.mode.Mode.TheVariants as mode
use Rattle.krl_modes.specs.declared.part.RangePart.{RangePart}
use Rattle.krl_modes.specs.declared.part.RangePart.TheVariants as range
use Rattle.krl_modes.specs.declared.part.KeyPart.{KeyPart}
use Rattle.krl_modes.specs.declared.part.KeyPart.TheVariants as key
use Rattle.krl_messages.specs.declared.outcome.Outcome.{Outcome}
use Rattle.krl_messages.specs.declared.outcome.Outcome.TheVariants as outcome
use Rattle.krl_wire.specs.declared.fault.Fault.{Fault}
use Rattle.krl_wire.specs.declared.fault.Fault.TheVariants as fault
use Rattle.krl_wire.specs.Spelling.{mode_tag, range_tag, key_tag, outcome_tag}
use Rattle.krl_wire.specs.Reading.{byte_at, of_place, tag_at, all_ranges, all_keys, all_outcomes}
use Rattle.krl_wire.proofs.Fields.{IsBytes, IsBytes-rest, ok_is, Takes, IsCodec}

record IsTable {X : Type 0} (table : List X) (tag : X → ℕ) : Type 0 where
  pub there : (x : X) → slice_get table (tag x) ≡ Some x
  pub place : (n : ℕ) (x : X) → slice_get table n ≡ Some x → n ≡ tag x

module _ {X : Type 0} (table : List X) (tag : X → ℕ) (f : Fault) (is : IsTable table tag) where
  abbrev tagged : X → List ℕ
  tagged x = tag x ∷ []

  place_ok : (o : Option X) (rest : List ℕ) (x : X × List ℕ) → of_place o f rest ≡ Ok x
      → (o ≡ Some x.0) × (rest ≡ x.1)
  place_ok None rest x e = absurd cc
  place_ok (Some y) rest x e = let p = ok_is (y, rest) x e in
      (ap (λ (q : X × List ℕ). Some q.0) p, ap (λ (q : X × List ℕ). q.1) p)

  tag_takes : (bytes : List ℕ) (x : X × List ℕ) → IsBytes bytes → tag_at table f bytes ≡ Ok x
      → Takes bytes (tagged x.0) x.1 × Unit {0}
  unfolding tag_at byte_at
  tag_takes [] x fits e = absurd cc
  tag_takes (t ∷ rest) x fits e =
      let p = place_ok (slice_get table t) rest x e in
      let n : t ≡ tag x.0 = is.place t x.0 p.0 in (
        record {
          parts = ap (λ (k : ℕ). k ∷ rest) n ∙ ap (λ (r : List ℕ). tag x.0 ∷ r) p.1;
          rest_fits = subst IsBytes p.1 (IsBytes-rest t rest fits);
        },
        tt,
      )

  tag_again : (x : X) (rest : List ℕ) → Unit {0} → tag_at table f (tagged x ++ rest) ≡ Ok (x, rest)
  unfolding tag_at byte_at
  tag_again x rest u = ap (λ (o : Option X). of_place o f rest) (is.there x)

  tag_codec : IsCodec tagged (tag_at table f) (λ x. Unit {0})
  tag_codec = record { takes = tag_takes; again = tag_again }

inj : {X : Type 0} (x y : X) → ◌≡◌ {A = Option X} (Some x) (Some y) → x ≡ y
inj x y e = cc

range_there : (x : RangePart) → slice_get all_ranges (range_tag x) ≡ Some x
range_there range.N = refl
range_there range.S = refl
range_there range.I = refl
range_there range.X = refl

range_place : (n : ℕ) (x : RangePart) → slice_get all_ranges n ≡ Some x → n ≡ range_tag x
range_place zero x e = ap range_tag (inj range.N x e)
range_place (suc zero) x e = ap range_tag (inj range.S x e)
range_place (suc (suc zero)) x e = ap range_tag (inj range.I x e)
range_place (suc (suc (suc zero))) x e = ap range_tag (inj range.X x e)
range_place (suc (suc (suc (suc n)))) x e = absurd cc

range_table : IsTable all_ranges range_tag
range_table = record { there = range_there; place = range_place }

key_there : (x : KeyPart) → slice_get all_keys (key_tag x) ≡ Some x
key_there key.N = refl
key_there key.S = refl
key_there key.U = refl
key_there key.X = refl

key_place : (n : ℕ) (x : KeyPart) → slice_get all_keys n ≡ Some x → n ≡ key_tag x
key_place zero x e = ap key_tag (inj key.N x e)
key_place (suc zero) x e = ap key_tag (inj key.S x e)
key_place (suc (suc zero)) x e = ap key_tag (inj key.U x e)
key_place (suc (suc (suc zero))) x e = ap key_tag (inj key.X x e)
key_place (suc (suc (suc (suc n)))) x e = absurd cc

key_table : IsTable all_keys key_tag
key_table = record { there = key_there; place = key_place }

outcome_there : (x : Outcome) → slice_get all_outcomes (outcome_tag x) ≡ Some x
outcome_there outcome.Applied = refl
outcome_there outcome.Exists = refl
outcome_there outcome.Absent = refl
outcome_there outcome.NotHeld = refl
outcome_there outcome.Full = refl

outcome_place : (n : ℕ) (x : Outcome) → slice_get all_outcomes n ≡ Some x → n ≡ outcome_tag x
outcome_place zero x e = ap outcome_tag (inj outcome.Applied x e)
outcome_place (suc zero) x e = ap outcome_tag (inj outcome.Exists x e)
outcome_place (suc (suc zero)) x e = ap outcome_tag (inj outcome.Absent x e)
outcome_place (suc (suc (suc zero))) x e = ap outcome_tag (inj outcome.NotHeld x e)
outcome_place (suc (suc (suc (suc zero)))) x e = ap outcome_tag (inj outcome.Full x e)
outcome_place (suc (suc (suc (suc (suc n))))) x e = absurd cc

outcome_table : IsTable all_outcomes outcome_tag
outcome_table = record { there = outcome_there; place = outcome_place }

mode_there : (x : Mode) → slice_get all_modes (mode_tag x) ≡ Some x
mode_there mode.N = refl
mode_there mode.S = refl
mode_there mode.U = refl
mode_there mode.X = refl
mode_there mode.RangeSS = refl
mode_there mode.RangeSU = refl
mode_there mode.RangeIN = refl
mode_there mode.RangeIS = refl
mode_there mode.RangeIU = refl
mode_there mode.RangeIX = refl
mode_there mode.RangeXS = refl
mode_there mode.RangeXU = refl
mode_there mode.RangeXX = refl

mode_place : (n : ℕ) (x : Mode) → slice_get all_modes n ≡ Some x → n ≡ mode_tag x
mode_place zero x e = ap mode_tag (inj mode.N x e)
mode_place (suc zero) x e = ap mode_tag (inj mode.S x e)
mode_place (suc (suc zero)) x e = ap mode_tag (inj mode.U x e)
mode_place (suc (suc (suc zero))) x e = ap mode_tag (inj mode.X x e)
mode_place (suc (suc (suc (suc zero)))) x e = ap mode_tag (inj mode.RangeSS x e)
mode_place (suc (suc (suc (suc (suc zero))))) x e = ap mode_tag (inj mode.RangeSU x e)
mode_place (suc (suc (suc (suc (suc (suc zero)))))) x e = ap mode_tag (inj mode.RangeIN x e)
mode_place (suc (suc (suc (suc (suc (suc (suc zero))))))) x e = ap mode_tag (inj mode.RangeIS x e)
mode_place (suc (suc (suc (suc (suc (suc (suc (suc zero)))))))) x e = ap mode_tag (inj mode.RangeIU x e)
mode_place (suc (suc (suc (suc (suc (suc (suc (suc (suc zero))))))))) x e = ap mode_tag (inj mode.RangeIX x e)
mode_place (suc (suc (suc (suc (suc (suc (suc (suc (suc (suc zero)))))))))) x e = ap mode_tag (inj mode.RangeXS x e)
mode_place (suc (suc (suc (suc (suc (suc (suc (suc (suc (suc (suc zero))))))))))) x e = ap mode_tag
    (inj mode.RangeXU x e)
mode_place (suc (suc (suc (suc (suc (suc (suc (suc (suc (suc (suc (suc zero)))))))))))) x e = ap mode_tag
    (inj mode.RangeXX x e)
mode_place (suc (suc (suc (suc (suc (suc (suc (suc (suc (suc (suc (suc (suc n))))))))))))) x e = absurd cc

mode_table : IsTable all_modes mode_tag
mode_table = record { there = mode_there; place = mode_place }

pub mode_codec : IsCodec (λ m. mode_tag m ∷ []) (tag_at all_modes fault.Mode) (λ m. Unit {0})
mode_codec = tag_codec all_modes mode_tag fault.Mode mode_table

pub range_codec : IsCodec (λ p. range_tag p ∷ []) (tag_at all_ranges fault.Part) (λ p. Unit {0})
range_codec = tag_codec all_ranges range_tag fault.Part range_table

pub key_codec : IsCodec (λ p. key_tag p ∷ []) (tag_at all_keys fault.Part) (λ p. Unit {0})
key_codec = tag_codec all_keys key_tag fault.Part key_table

pub outcome_codec : IsCodec (λ o. outcome_tag o ∷ []) (tag_at all_outcomes fault.Outcome) (λ o. Unit {0})
outcome_codec = tag_codec all_outcomes outcome_tag fault.Outcome outcome_table
