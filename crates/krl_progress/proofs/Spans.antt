-- An insert or a put leaves each slot but that of its key where it is, with its span.
use Rattle.krl_progress.proofs.Names.{◌≡◌, ◌≢◌, ℕ, suc, ◌≤◌, ◌<◌, ◌∙◌, ◌||◌, true, None, is_some, sym, ap, subst, arith, nat_eq, END}
use Rattle.krl_progress.proofs.Names.{Index, Value, slot_of, span_of, is_slot, none-some}
use Rattle.std.specs.FinMap as map
use Rattle.krl_durable.specs.Index.{low_of}
use Rattle.krl_table.proofs.Rows.Slots.{low_under, slot_self}
use Rattle.krl_server.proofs.Grants.{slot_near}
use Rattle.krl_server.proofs.Slots.{InSpan, slot_unique, slot_here, span_here, is_slot_true}
use Rattle.krl_server.proofs.Updates.{get_here, get_other}

module _ (m : Index) (near : (q : ℕ) → END ≤ q → map.get m q ≡ None) (k : ℕ) (v : Value) (under : k < END) (n : ℕ) (slot : is_slot m n ≡ true) (other : n ≢ slot_of m k) where
  apart : n ≢ k
  apart e = other (e ∙ sym (slot_self m near k (subst (λ x. is_slot m x ≡ true) e slot)))

  pub slot_kept : is_slot (map.insert m k v) n ≡ true
  slot_kept = ap (λ o. nat_eq n END || is_some o) (get_other m k v n apart) ∙ slot

  near_later : (q : ℕ) → END ≤ q → map.get (map.insert m k v) q ≡ None
  near_later q le = get_other m k v q (λ e. omega (arith, e, le, under)) ∙ near q le

  -- the key lies in the span of its own slot
  outside : (q : ℕ) → InSpan m n q → q ≤ k → k < n → ⊥
  outside q span low high =
      let here = slot_here m near k (omega (arith, under)) in
      other (slot_unique m n (slot_of m k) k (is_slot_true m near n slot) here.0 (omega (arith, high), λ j a b. span.1 j (omega (arith, low, a)) b) here.1)

  to : (q : ℕ) → InSpan m n q → InSpan (map.insert m k v) n q
  to q span = (span.0, λ j a b. let x = span.1 j a b in (get_other m k v j (λ e. outside q span (omega (arith, e, a)) (omega (arith, e, b))) ∙ x.0, x.1))

  from : (q : ℕ) → InSpan (map.insert m k v) n q → InSpan m n q
  from q span = (span.0, λ j a b. let x = span.1 j a b in (sym (get_other m k v j (λ e. none-some v (sym (subst (λ y. map.get (map.insert m k v) y ≡ None) e x.0) ∙ get_here m k v))) ∙ x.0, x.1))

  low_kept : low_of (map.insert m k v) n ≡ low_of m n
  low_kept =
      let top = slot_near m near n slot in
      let old = low_of m n in
      let new = low_of (map.insert m k v) n in
      let a = ((span_here (map.insert m k v) near_later n old top).0 (to old ((span_here m near n old top).1 (omega arith, low_under m n)))).0 in
      let b = ((span_here m near n new top).0 (from new ((span_here (map.insert m k v) near_later n new top).1 (omega arith, low_under (map.insert m k v) n)))).0 in
      omega (arith, a, b)

  pub span_kept : span_of (map.insert m k v) n ≡ span_of m n
  span_kept i = record { lo = low_kept i; hi = suc n }
