-- Pieces in order, cut and lowered.
use Rattle.std.proofs.Common.{◌≡◌, ℕ, ◌≤◌, ◌<◌, Bool, true, false, cond, min, max, List, [], ◌∷◌, ◌++◌, None, Some, refl, sym, ap, subst, ◌∙◌, arith, ◌&&◌}
use Rattle.std.specs.Prelude.{nat_lt}
use Rattle.std.specs.List.{filter_map, find}
use Rattle.std.proofs.lemmas.Bool.Decides.{nat_tests}
use Rattle.krl_modes.specs.declared.part.RangePart.{RangePart}
use Rattle.krl_modes.specs.declared.part.RangePart.TheVariants as range
use Rattle.krl_modes.specs.Parts.{range_meet}
use Rattle.krl_modes.specs.Spans.{Bounds, contains}
use Rattle.krl_messages.specs.declared.range_pieces.RangePiece.{RangePiece}
use Rattle.krl_cache.specs.Kept.{first_range_at}
use Rattle.krl_cache.specs.Entries.{lies_in, StandWithin}
use Rattle.krl_cache_laws.specs.Lists.{clip}
use Rattle.krl_cache.proofs.Pieces.{said-append, said_after, stand-append}
use Rattle.krl_cache.proofs.Windows.{inside_window, past_window, in_window}

-- A window

in_both : (a b lo hi p : ℕ) → lies_in (max a lo) (min b hi) p ≡ (lies_in a b p && lies_in lo hi p)
in_both a b lo hi p = grind (arith, nat_tests)

in_none : (a b lo hi p : ℕ) → nat_lt (max a lo) (min b hi) ≡ false → (lies_in a b p && lies_in lo hi p) ≡ false
in_none a b lo hi p h = grind (arith, nat_tests)

clipped_here : (u w v : Bool) (part r keep : RangePart) → v ≡ (u && w) → cond v (range_meet part keep) (cond w (range_meet r keep) range.N) ≡ cond w (range_meet (cond u part r) keep) range.N
clipped_here true true v part r keep e = rw e refl
clipped_here true false v part r keep e = rw e refl
clipped_here false true v part r keep e = rw e refl
clipped_here false false v part r keep e = rw e refl

clipped_away : (u w : Bool) (part r keep : RangePart) → (u && w) ≡ false → cond w (range_meet r keep) range.N ≡ cond w (range_meet (cond u part r) keep) range.N
clipped_away true true part r keep e = absurd (let bad : true ≡ false = e in cc)
clipped_away true false part r keep e = refl
clipped_away false w part r keep e = refl

none : (b : Bool) (keep : RangePart) → range.N ≡ cond b (range_meet range.N keep) range.N
none true keep = refl
none false keep = refl

pub said-clip : (lo hi : ℕ) (keep : RangePart) (xs : List RangePiece) (p : ℕ) → first_range_at (filter_map (clip lo hi keep) xs) p ≡ cond (lies_in lo hi p) (range_meet (first_range_at xs p) keep) range.N
said-clip lo hi keep [] p = none (lies_in lo hi p) keep
said-clip lo hi keep (x ∷ xs) p =
    let rest = said-clip lo hi keep xs p in
    elim (nat_lt (max x.span.lo lo) (min x.span.hi hi)) as (λ (b : Bool). nat_lt (max x.span.lo lo) (min x.span.hi hi) ≡ b → first_range_at (filter_map (clip lo hi keep) (x ∷ xs)) p ≡ cond (lies_in lo hi p) (range_meet (first_range_at (x ∷ xs) p) keep) range.N) [
      | true ↦ λ t.
          rw t
          (ap (λ (r : RangePart). cond (lies_in (max x.span.lo lo) (min x.span.hi hi) p) (range_meet x.part keep) r) rest
          ∙ clipped_here (contains x.span p) (lies_in lo hi p) (lies_in (max x.span.lo lo) (min x.span.hi hi) p) x.part (first_range_at xs p) keep (in_both x.span.lo x.span.hi lo hi p))
      | false ↦ λ t. rw t (rest ∙ clipped_away (contains x.span p) (lies_in lo hi p) x.part (first_range_at xs p) keep (in_none x.span.lo x.span.hi lo hi p t))
    ] refl

pub stand-clip : (lo hi : ℕ) (keep : RangePart) (a b from : ℕ) (xs : List RangePiece) → StandWithin a b xs → from ≤ hi → from ≤ max a lo → StandWithin from hi (filter_map (clip lo hi keep) xs)
stand-clip lo hi keep a b from [] h l m = l
stand-clip lo hi keep a b from (x ∷ xs) h l m =
    elim (nat_lt (max x.span.lo lo) (min x.span.hi hi)) as (λ (t : Bool). nat_lt (max x.span.lo lo) (min x.span.hi hi) ≡ t → StandWithin from hi (filter_map (clip lo hi keep) (x ∷ xs))) [
      | true ↦ λ t.
          let some : max x.span.lo lo < min x.span.hi hi = grind (arith, nat_tests) in
          rw t (omega (arith, m, h.0), some, stand-clip lo hi keep x.span.hi b (min x.span.hi hi) xs h.2 (omega arith) (omega arith))
      | false ↦ λ t. rw t (stand-clip lo hi keep x.span.hi b from xs h.2 l (omega (arith, m, h.0, h.1)))
    ] refl

meet_all : (r : RangePart) → range_meet r range.X ≡ r
meet_all r = grind arith

within : (lo hi p : ℕ) (r : RangePart) → cond (lies_in lo hi p) (range_meet r range.X) range.N ≡ cond (lies_in lo hi p) r range.N
within lo hi p r = ap (λ (s : RangePart). cond (lies_in lo hi p) s range.N) (meet_all r)

-- Three windows side by side, the middle one changed

three : (lo hi top p : ℕ) (r m : RangePart) → lo < hi → (top ≤ p → r ≡ range.N) → hi ≤ top → cond (nat_lt p hi) (cond (nat_lt p lo) (cond (lies_in 0 lo p) r range.N) m) (cond (lies_in hi top p) r range.N) ≡ cond (lies_in lo hi p) m r
three lo hi top p r m l out t = grind (arith, nat_tests)

-- the pieces below the span and above it, and others on the span itself
pub said_in_place : (lo hi top : ℕ) (xs mid : List RangePiece) (p : ℕ) → StandWithin 0 top xs → StandWithin lo hi mid → lo < hi → hi ≤ top → first_range_at ((filter_map (clip 0 lo range.X) xs ++ mid) ++ filter_map (clip hi top range.X) xs) p ≡ cond (lies_in lo hi p) (first_range_at mid p) (first_range_at xs p)
said_in_place lo hi top xs mid p kept stand l t =
    let below = filter_map (clip 0 lo range.X) xs in
    let above = filter_map (clip hi top range.X) xs in
    let first : StandWithin 0 lo below = stand-clip 0 lo range.X 0 top 0 xs kept (omega arith) (omega arith) in
    let last : StandWithin hi top above = stand-clip hi top range.X 0 top hi xs kept t (omega arith) in
    said-append 0 hi top (below ++ mid) above p (stand-append 0 lo hi below mid first stand) last
    ∙ ap (λ (r : RangePart). cond (nat_lt p hi) r (first_range_at above p)) (said-append 0 lo hi below mid p first stand)
    ∙ ap (λ (r : RangePart). cond (nat_lt p hi) (cond (nat_lt p lo) r (first_range_at mid p)) (first_range_at above p)) (said-clip 0 lo range.X xs p ∙ within 0 lo p (first_range_at xs p))
    ∙ ap (λ (r : RangePart). cond (nat_lt p hi) (cond (nat_lt p lo) (cond (lies_in 0 lo p) (first_range_at xs p) range.N) (first_range_at mid p)) r) (said-clip hi top range.X xs p ∙ within hi top p (first_range_at xs p))
    ∙ three lo hi top p (first_range_at xs p) (first_range_at mid p) l (λ out. said_after 0 top xs p kept out) t

pub stand_in_place : (lo hi top : ℕ) (xs mid : List RangePiece) → StandWithin 0 top xs → StandWithin lo hi mid → hi ≤ top → StandWithin 0 top ((filter_map (clip 0 lo range.X) xs ++ mid) ++ filter_map (clip hi top range.X) xs)
stand_in_place lo hi top xs mid kept stand t =
    let below = filter_map (clip 0 lo range.X) xs in
    let above = filter_map (clip hi top range.X) xs in
    let first : StandWithin 0 lo below = stand-clip 0 lo range.X 0 top 0 xs kept (omega arith) (omega arith) in
    let last : StandWithin hi top above = stand-clip hi top range.X 0 top hi xs kept t (omega arith) in
    stand-append 0 hi top (below ++ mid) above (stand-append 0 lo hi below mid first stand) last

-- The piece over a point

found_from : (a b : ℕ) (xs : List RangePiece) (p : ℕ) (x : RangePiece) → StandWithin a b xs → find (λ y. contains y.span p) xs ≡ Some x → (a ≤ x.span.lo) × (contains x.span p ≡ true)
found_from a b [] p x h e = absurd (let bad : None ≡ Some x = e in cc)
found_from a b (y ∷ xs) p x h e =
    elim (contains y.span p) as (λ (t : Bool). contains y.span p ≡ t → cond t (Some y) (find (λ z. contains z.span p) xs) ≡ Some x → (a ≤ x.span.lo) × (contains x.span p ≡ true)) [
      | true ↦ λ t s.
          let same : y ≡ x = cc in
          subst (λ (z : RangePiece). (a ≤ z.span.lo) × (contains z.span p ≡ true)) same (h.0, t)
      | false ↦ λ t s.
          let rest = found_from y.span.hi b xs p x h.2 s in
          (omega (arith, h.0, h.1, rest.0), rest.1)
    ] refl e

pub found_over : (a b : ℕ) (xs : List RangePiece) (p : ℕ) (x : RangePiece) → StandWithin a b xs → find (λ y. contains y.span p) xs ≡ Some x → (x.span.lo ≤ p) × (p < x.span.hi)
found_over a b xs p x h e = inside_window x.span.lo x.span.hi p (found_from a b xs p x h e).1

-- the piece that is found over p holds from p to its end
pub found_said : (a b : ℕ) (xs : List RangePiece) (p q : ℕ) (x : RangePiece) → StandWithin a b xs → find (λ y. contains y.span p) xs ≡ Some x → p ≤ q → q < x.span.hi → first_range_at xs q ≡ x.part
found_said a b [] p q x h e l u = absurd (let bad : None ≡ Some x = e in cc)
found_said a b (y ∷ xs) p q x h e l u =
    elim (contains y.span p) as (λ (t : Bool). contains y.span p ≡ t → cond t (Some y) (find (λ z. contains z.span p) xs) ≡ Some x → first_range_at (y ∷ xs) q ≡ x.part) [
      | true ↦ λ t s.
          let same : y ≡ x = cc in
          let over : q < y.span.hi = subst (λ (z : RangePiece). q < z.span.hi) (sym same) u in
          let here : lies_in y.span.lo y.span.hi q ≡ true = in_window y.span.lo y.span.hi q (omega (arith, (inside_window y.span.lo y.span.hi p t).0)) over in
          rw here (ap (λ (z : RangePiece). z.part) same)
      | false ↦ λ t s.
          let rest = found_from y.span.hi b xs p x h.2 s in
          let at = inside_window x.span.lo x.span.hi p rest.1 in
          rw (past_window y.span.lo y.span.hi q (omega (arith, rest.0, at.0, l))) (found_said y.span.hi b xs p q x h.2 s l u)
    ] refl e

pub found_none : (xs : List RangePiece) (p : ℕ) → find (λ y. contains y.span p) xs ≡ None → first_range_at xs p ≡ range.N
found_none [] p e = refl
found_none (y ∷ xs) p e =
    elim (contains y.span p) as (λ (t : Bool). contains y.span p ≡ t → cond t (Some y) (find (λ z. contains z.span p) xs) ≡ None → cond t y.part (first_range_at xs p) ≡ range.N) [
      | true ↦ λ t s. absurd (let bad : Some y ≡ None = s in cc)
      | false ↦ λ t s. found_none xs p s
    ] refl e

pub found_part : (xs : List RangePiece) (p : ℕ) (x : RangePiece) → find (λ y. contains y.span p) xs ≡ Some x → x.part ≡ first_range_at xs p
found_part [] p x e = absurd (let bad : None ≡ Some x = e in cc)
found_part (y ∷ xs) p x e =
    elim (contains y.span p) as (λ (t : Bool). cond t (Some y) (find (λ z. contains z.span p) xs) ≡ Some x → x.part ≡ cond t y.part (first_range_at xs p)) [
      | true ↦ λ s. let same : y ≡ x = cc in ap (λ (z : RangePiece). z.part) (sym same)
      | false ↦ λ s. found_part xs p x s
    ] e

-- The list that is made: what lies below the span, the span's own pieces, and what lies above

pub record IsPlaced (s : Bounds) (top : ℕ) (xs mid list : List RangePiece) : Type 0 where
  pub stand : StandWithin 0 top list
  pub said : (p : ℕ) → first_range_at list p ≡ cond (contains s p) (first_range_at mid p) (first_range_at xs p)

pub placed : (s : Bounds) (top : ℕ) (xs mid l0 l1 l2 l3 : List RangePiece) (lo hi : ℕ) → StandWithin 0 top xs → StandWithin s.lo s.hi mid → s.lo < s.hi → s.hi ≤ top → lo ≡ s.lo → hi ≡ s.hi → l0 ≡ [] → l1 ≡ l0 ++ filter_map (clip 0 lo range.X) xs → l2 ≡ l1 ++ mid → l3 ≡ l2 ++ filter_map (clip hi top range.X) xs → IsPlaced s top xs mid l3
placed s top xs mid l0 l1 l2 l3 lo hi kept stand l t el eh e0 e1 e2 e3 =
    let first : l1 ≡ filter_map (clip 0 s.lo range.X) xs = e1 ∙ ap (λ (l : List RangePiece). l ++ filter_map (clip 0 lo range.X) xs) e0 ∙ ap (λ (n : ℕ). filter_map (clip 0 n range.X) xs) el in
    let whole : l3 ≡ (filter_map (clip 0 s.lo range.X) xs ++ mid) ++ filter_map (clip s.hi top range.X) xs =
    e3 ∙ ap (λ (l : List RangePiece). l ++ filter_map (clip hi top range.X) xs) (e2 ∙ ap (λ (l : List RangePiece). l ++ mid) first)
    ∙ ap (λ (n : ℕ). (filter_map (clip 0 s.lo range.X) xs ++ mid) ++ filter_map (clip n top range.X) xs) eh in
    record {
      stand = subst (λ (l : List RangePiece). StandWithin 0 top l) (sym whole) (stand_in_place s.lo s.hi top xs mid kept stand t);
      said = λ p. ap (λ (l : List RangePiece). first_range_at l p) whole ∙ said_in_place s.lo s.hi top xs mid p kept stand l t;
    }

pub twice : {A : Type 0} (w : Bool) (m a b r : A) → m ≡ cond w a b → cond w m r ≡ cond w a r
twice true m a b r h = h
twice false m a b r h = refl

pub own_stands : (s : Bounds) (part : RangePart) → s.lo < s.hi → StandWithin s.lo s.hi (record { span = s; part = part } ∷ [])
own_stands s part l = (omega arith, l, omega arith)

pub mid_stands : (s : Bounds) (keep : RangePart) (top : ℕ) (xs : List RangePiece) (lo hi : ℕ) → StandWithin 0 top xs → s.lo < s.hi → lo ≡ s.lo → hi ≡ s.hi → StandWithin s.lo s.hi (filter_map (clip lo hi keep) xs)
mid_stands s keep top xs lo hi kept l el eh =
    subst (λ (n : ℕ). StandWithin s.lo n (filter_map (clip lo hi keep) xs)) eh (stand-clip lo hi keep 0 top s.lo xs kept (omega (arith, l, eh)) (omega (arith, el)))

pub mid_says : (s : Bounds) (keep : RangePart) (xs : List RangePiece) (lo hi p : ℕ) → lo ≡ s.lo → hi ≡ s.hi → first_range_at (filter_map (clip lo hi keep) xs) p ≡ cond (contains s p) (range_meet (first_range_at xs p) keep) range.N
mid_says s keep xs lo hi p el eh =
    said-clip lo hi keep xs p ∙ ap (λ (n : ℕ). cond (lies_in n hi p) (range_meet (first_range_at xs p) keep) range.N) el ∙ ap (λ (n : ℕ). cond (lies_in s.lo n p) (range_meet (first_range_at xs p) keep) range.N) eh
