-- Reading items one after the other, as a loop does.
use Rattle.std.proofs.Common.{◌≡◌, ℕ, suc, ◌-◌, ◌+◌, ◌≤◌, ◌<◌, cond, ltb, List, [], ◌∷◌, ◌++◌, Result, Ok, Err, refl, sym, ap, subst, ◌∙◌, append_assoc, arith}
use Rattle.std.proofs.lemmas.Bool.{ltb-false}
use Rattle.std.proofs.lemmas.List.{append-nil}
use Rattle.krl_messages.specs.declared.holding.Holding.{Holding}
use Rattle.krl_messages.specs.Ascending.{Ascend}
use Rattle.krl_wire.specs.declared.fault.Fault.{Fault}
use Rattle.krl_wire.specs.declared.fault.Fault.TheVariants as fault
use Rattle.krl_wire.specs.Reading.{◌>>=◌, items_at, holding_at, holding_from, holdings_from}
use Rattle.krl_wire.proofs.Fields.{bind_ok, passed, ok_is}

-- what was read before, and what is still read
abbrev pub with_front : {X : Type 0} → List X → Result (List X × List ℕ) Fault → Result (List X × List ℕ) Fault
with_front front read = read >>= λ x. Ok (front ++ x.0, x.1)

regroup : {X : Type 0} (front : List X) (n : X) (read : Result (List X × List ℕ) Fault)
    → with_front front (read >>= λ x. Ok (n ∷ x.0, x.1)) ≡ with_front (front ++ n ∷ []) read
regroup {X} front n (Ok x) = ap (λ (ns : List X). Ok (ns, x.1)) (simp append_assoc)
regroup front n (Err f) = refl

at_end : {X : Type 0} (front : List X) (bytes : List ℕ) → with_front front (Ok ([], bytes)) ≡ Ok (front, bytes)
at_end {X} front bytes = ap (λ (ns : List X). Ok (ns, bytes)) (append-nil front)

module _ {X : Type 0} (item : List ℕ → Result (X × List ℕ) Fault) where
  pub goes_on : (front : List X) (count i : ℕ) (bytes : List ℕ) (n : X) (after : List ℕ)
      (total : Result (List X × List ℕ) Fault) → i < count → item bytes ≡ Ok (n, after)
      → with_front front (items_at item (count - i) bytes) ≡ total
      → with_front (front ++ n ∷ []) (items_at item (count - (i + 1)) after) ≡ total
  unfolding items_at
  goes_on front count i bytes n after total lt h so_far =
      let k : count - i ≡ suc (count - (i + 1)) = omega arith in
      let one : with_front front (items_at item (count - i) bytes) ≡ with_front (front ++ n ∷ [])
      (items_at item (count - (i + 1)) after) = rw (k, h)
      (regroup front n (items_at item (count - (i + 1)) after)) in
      sym one ∙ so_far

  pub ends : (f : Fault) (front : List X) (count i : ℕ) (bytes : List ℕ) (total : Result (List X × List ℕ) Fault)
      → i < count → item bytes ≡ Err f
      → with_front front (items_at item (count - i) bytes) ≡ total → total ≡ Err f
  unfolding items_at
  ends f front count i bytes total lt h so_far =
      let k : count - i ≡ suc (count - (i + 1)) = omega arith in
      let one : with_front front (items_at item (count - i) bytes) ≡ Err f = rw (k, h) refl in
      sym so_far ∙ one

  pub is_done : (front : List X) (count i : ℕ) (bytes : List ℕ) (total : Result (List X × List ℕ) Fault) → count ≤ i
      → with_front front (items_at item (count - i) bytes) ≡ total → total ≡ Ok (front, bytes)
  unfolding items_at
  is_done front count i bytes total le so_far =
      let k : count - i ≡ 0 = omega arith in
      let one : with_front front (items_at item (count - i) bytes) ≡ Ok (front, bytes) = rw k (at_end front bytes) in
      sym so_far ∙ one

-- the same of holdings, each of which determines where the next may begin
pub holdings_fail : (f : Fault) (count : ℕ) (bytes : List ℕ) → 1 ≤ count → holding_from 0 bytes ≡ Err f
    → holdings_from count 0 bytes ≡ Err f
unfolding holdings_from
holdings_fail f count bytes some is =
    let k : count ≡ suc (count - 1) = omega arith in
    let one : holdings_from (suc (count - 1)) 0 bytes ≡ Err f = rw is refl in
    ap (λ (n : ℕ). holdings_from n 0 bytes) k ∙ one

pub holdings_begin : (count : ℕ) (bytes : List ℕ) (h : Holding) (after : List ℕ) → 1 ≤ count
    → holding_from 0 bytes ≡ Ok (h, after)
    → with_front (h ∷ []) (holdings_from (count - 1) h.span.hi after) ≡ holdings_from count 0 bytes
unfolding holdings_from
holdings_begin count bytes h after some is =
    let k : count ≡ suc (count - 1) = omega arith in
    let one : holdings_from (suc (count - 1)) 0 bytes ≡ with_front (h ∷ [])
    (holdings_from (count - 1) h.span.hi after) = rw is refl in
    sym one ∙ ap (λ (n : ℕ). holdings_from n 0 bytes) (sym k)

pub holdings_go_on : (front : List Holding) (count i least : ℕ) (bytes : List ℕ) (h : Holding) (after : List ℕ)
    (total : Result (List Holding × List ℕ) Fault) → i < count → holding_from least bytes ≡ Ok (h, after)
    → with_front front (holdings_from (count - i) least bytes) ≡ total
    → with_front (front ++ h ∷ []) (holdings_from (count - (i + 1)) h.span.hi after) ≡ total
unfolding holdings_from
holdings_go_on front count i least bytes h after total lt is so_far =
    let k : count - i ≡ suc (count - (i + 1)) = omega arith in
    let one : with_front front (holdings_from (count - i) least bytes) ≡ with_front (front ++ h ∷ [])
    (holdings_from (count - (i + 1)) h.span.hi after) = rw (k, is)
    (regroup front h (holdings_from (count - (i + 1)) h.span.hi after)) in
    sym one ∙ so_far

pub holdings_end : (f : Fault) (front : List Holding) (count i least : ℕ) (bytes : List ℕ)
    (total : Result (List Holding × List ℕ) Fault) → i < count → holding_from least bytes ≡ Err f
    → with_front front (holdings_from (count - i) least bytes) ≡ total → total ≡ Err f
unfolding holdings_from
holdings_end f front count i least bytes total lt is so_far =
    let k : count - i ≡ suc (count - (i + 1)) = omega arith in
    let one : with_front front (holdings_from (count - i) least bytes) ≡ Err f = rw (k, is) refl in
    sym so_far ∙ one

pub holdings_done : (front : List Holding) (count i least : ℕ) (bytes : List ℕ)
    (total : Result (List Holding × List ℕ) Fault) → count ≤ i → with_front front
    (holdings_from (count - i) least bytes) ≡ total → total ≡ Ok (front, bytes)
unfolding holdings_from
holdings_done front count i least bytes total le so_far =
    let k : count - i ≡ 0 = omega arith in
    let one : with_front front (holdings_from (count - i) least bytes) ≡ Ok (front, bytes) = rw k
    (at_end front bytes) in
    sym so_far ∙ one

-- a holding that may begin there is at that point or later
pub from_least : (least : ℕ) (bytes : List ℕ) (h : Holding) (after : List ℕ)
    → holding_from least bytes ≡ Ok (h, after) → least ≤ h.span.lo
unfolding holding_from
from_least least bytes h after e =
    let a = bind_ok (holding_at bytes) (λ h. cond (ltb h.0.span.lo least) (Err fault.Order) (Ok (h.0, h.1)))
    (h, after) e in
    let g = passed (ltb a.0.0.span.lo least) fault.Order (Ok a.0) (h, after) a.2 in
    let is : a.0.0 ≡ h = ap (λ (q : Holding × List ℕ). q.0) (ok_is a.0 (h, after) g.1) in
    subst (λ (x : Holding). least ≤ x.span.lo) is (ltb-false _ _ g.0)

-- what lies after the last holding lies after all
pub ascend_more : (hs : List Holding) (h k : Holding) → Ascend (hs ++ h ∷ []) → h.span.hi ≤ k.span.lo
    → Ascend ((hs ++ h ∷ []) ++ k ∷ [])
ascend_more [] h k up le = (le, (tt, tt))
ascend_more (g ∷ []) h k up le = (up.0, ascend_more [] h k up.1 le)
ascend_more (g ∷ f ∷ fs) h k up le = (up.0, ascend_more (f ∷ fs) h k up.1 le)
