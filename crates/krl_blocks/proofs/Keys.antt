-- The keys of entries, as a list of numbers.
use Rattle.std.proofs.Common.{◌≡◌, ℕ, zero, suc, ◌-◌, ◌<◌, List, [], ◌∷◌, length, take, drop, Some, None, refl, sym, ap, ◌∙◌, arith}
use Rattle.std.specs.Prelude.{slice_index_or}
use Rattle.std.specs.List.{AllByRecursion, slice_get}
use Rattle.krl_blocks.specs.Laid.{Above, Rises, KeysAbove, KeysRise}
use Rattle.krl_blocks.specs.Near.{AreNear, AreKeysNear}
use Rattle.krl_blocks.proofs.Probes.{near_all}

module _ {V : Type 0} where
  abbrev pub keys : List (ℕ × V) → List ℕ
  keys [] = []
  keys (e ∷ es) = e.0 ∷ keys es

  pub keys_length : (es : List (ℕ × V)) → length (keys es) ≡ length es
  keys_length [] = refl
  keys_length (e ∷ es) = ap suc (keys_length es)

  keys_above : (k : ℕ) (es : List (ℕ × V)) → KeysAbove k es → Above k (keys es)
  keys_above k [] h = tt
  keys_above k (e ∷ es) h = (h.0, keys_above k es h.1)

  pub keys_rise : (es : List (ℕ × V)) → KeysRise es → Rises (keys es)
  keys_rise [] h = tt
  keys_rise (e ∷ es) h = (keys_above e.0 es h.0, keys_rise es h.1)

  pub keys_near : (es : List (ℕ × V)) → AreKeysNear es → AreNear (keys es)
  keys_near [] h = tt
  keys_near (e ∷ es) h = (h.0, keys_near es h.1)

  near_keys : (es : List (ℕ × V)) → AreNear (keys es) → AreKeysNear es
  near_keys [] h = tt
  near_keys (e ∷ es) h = (h.0, near_keys es h.1)

  -- the key that an index reads
  pub key_at : (es : List (ℕ × V)) (i d : ℕ) (e : ℕ × V) → i < length es → slice_index_or (keys es) i d ≡ (slice_index_or es i e).0
  key_at [] i d e l = absurd (omega (arith, l))
  key_at (x ∷ es) zero d e l = refl
  key_at (x ∷ es) (suc i) d e l = key_at es i d e (omega (arith, l))

  pub all_taken : (P : ℕ → Type 0) (es : List (ℕ × V)) (n : ℕ) → AllByRecursion P (take n (keys es)) → AllByRecursion (λ e. P e.0) (take n es)
  all_taken P [] zero h = tt
  all_taken P [] (suc n) h = tt
  all_taken P (e ∷ es) zero h = tt
  all_taken P (e ∷ es) (suc n) h = (h.0, all_taken P es n h.1)

  pub all_dropped : (P : ℕ → Type 0) (es : List (ℕ × V)) (n : ℕ) → AllByRecursion P (drop n (keys es)) → AllByRecursion (λ e. P e.0) (drop n es)
  all_dropped P [] zero h = tt
  all_dropped P [] (suc n) h = tt
  all_dropped P (e ∷ es) zero h = (h.0, all_dropped P es zero h.1)
  all_dropped P (e ∷ es) (suc n) h = all_dropped P es n h

  last_key_at : (es : List (ℕ × V)) (i : ℕ) (e : ℕ × V) → Some e ≡ slice_get es i → Some e.0 ≡ slice_get (keys es) i
  last_key_at [] i e h = absurd (let bad : Some e ≡ None = h in cc)
  last_key_at (x ∷ es) zero e h = let same : e ≡ x = cc in ap (λ (y : ℕ × V). Some y.0) same
  last_key_at (x ∷ es) (suc i) e h = last_key_at es i e h

  -- if the last key is near, all are
  pub keys_near_all : (es : List (ℕ × V)) (e : ℕ × V) → KeysRise es → Some e ≡ slice_get es (length es - 1) → e.0 < 9223372036854775808 → AreKeysNear es
  keys_near_all es e h last lt =
      near_keys es (near_all (keys es) e.0 (keys_rise es h) (last_key_at es (length es - 1) e last ∙ ap (λ n. slice_get (keys es) (n - 1)) (sym (keys_length es))) lt)
