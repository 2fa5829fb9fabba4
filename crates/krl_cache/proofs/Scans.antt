-- A walk over the parts of a span, and over the entries where the part doesn't decide.
use Rattle.krl_cache.proofs.Names.{◌≡◌, ℕ, suc, ◌+◌, ◌≤◌, ◌<◌, inl, inr, Bool, true, false, List, [], ◌∷◌, Option, None, Some, MatchOption, sym, ap, subst, ◌∙◌, arith, leb_tells, RangePart, Entry}
use Rattle.krl_cache.proofs.Names.{is_covered, CoversAll, IsLeastUncovered, belief_by, part_at, IsFree, IsFirst, AreNext, is_known, AreKnown, IsGap}
use Rattle.krl_cache.proofs.Starts.{part_holds, part_begins}

-- how far a walk has come: what lies before p is known, and this part holds from p to where the next begins
pub record IsWalked (f : ℕ → Option RangePart) (g : ℕ → Option Entry) (lo hi p : ℕ) (part : RangePart) : Type 0 where
  pub from : lo ≤ p
  pub below : p < hi
  pub holds : part ≡ part_at f p
  pub known : CoversAll (belief_by (part_at f) g) (record { lo = lo; hi = p })

still : (f : ℕ → Option RangePart) (p stop q : ℕ) (part : RangePart) → part ≡ part_at f p → IsFree f (p + 1) stop → p ≤ q → q < stop → part_at f q ≡ part
still f p stop q part h free a b = part_holds f p q a (λ n x y. free n (omega (arith, x)) (omega (arith, y, b))) ∙ sym h

covered : (f : ℕ → Option RangePart) (g : ℕ → Option Entry) (p stop q : ℕ) (part : RangePart) (t : Bool) → part ≡ part_at f p → IsFree f (p + 1) stop → p ≤ q → q < stop → is_known part (g q) ≡ t → is_covered (belief_by (part_at f) g) q ≡ t
covered f g p stop q part t h free a b known = ap (λ (r : RangePart). is_known r (g q)) (still f p stop q part h free a b) ∙ known

pub walked_to : (f : ℕ → Option RangePart) (g : ℕ → Option Entry) (lo hi p stop : ℕ) (part : RangePart) → IsWalked f g lo hi p part → IsFree f (p + 1) stop → AreKnown part g p stop → CoversAll (belief_by (part_at f) g) (record { lo = lo; hi = stop })
walked_to f g lo hi p stop part w free known q i =
    elim (leb_tells p q) [
      | inl a ↦ covered f g p stop q part true w.holds free a.1 i.1 (known q a.1 i.1)
      | inr a ↦ w.known q (i.0, a.1)
    ]

pub gap_found : (f : ℕ → Option RangePart) (g : ℕ → Option Entry) (lo hi p stop gap : ℕ) (part : RangePart) → IsWalked f g lo hi p part → IsFree f (p + 1) stop → stop ≤ hi → IsGap part g p stop gap → IsLeastUncovered (belief_by (part_at f) g) (record { lo = lo; hi = hi }) gap
gap_found f g lo hi p stop gap part w free l h = record {
  point = (omega (arith, w.from, h.from), omega (arith, h.below, l));
  uncovered = covered f g p stop gap part false w.holds free h.from h.below h.unknown;
  least = λ q a b. walked_to f g lo hi p gap part w (λ n x y. free n x (omega (arith, y, h.below))) h.least q (a, b);
}

pub walk_on : (f : ℕ → Option RangePart) (g : ℕ → Option Entry) (lo hi p : ℕ) (part : RangePart) (e : ℕ × RangePart) → IsWalked f g lo hi p part → IsFirst f (p + 1) hi e → AreKnown part g p e.0 → IsWalked f g lo hi e.0 e.1
walk_on f g lo hi p part e w first known = record {
  from = omega (arith, w.from, first.from);
  below = first.below;
  holds = sym (part_begins f e.0 e.1 first.here);
  known = walked_to f g lo hi p e.0 part w first.free known;
}

pub walk_ends : (f : ℕ → Option RangePart) (g : ℕ → Option Entry) (lo hi p : ℕ) (part : RangePart) (rest : List (ℕ × Entry)) (o : Option ℕ) → IsWalked f g lo hi p part → IsFree f (p + 1) hi → MatchOption o (AreKnown part g p hi × AreNext g hi hi rest) (IsGap part g p hi) → MatchOption o (CoversAll (belief_by (part_at f) g) (record { lo = lo; hi = hi })) (IsLeastUncovered (belief_by (part_at f) g) (record { lo = lo; hi = hi }))
walk_ends f g lo hi p part rest None w free h = walked_to f g lo hi p hi part w free h.0
walk_ends f g lo hi p part rest (Some gap) w free h = gap_found f g lo hi p hi gap part w free (omega arith) h

pub next_head : {V : Type 0} (f : ℕ → Option V) (lo hi : ℕ) (r t : List (ℕ × V)) (e : ℕ × V) → AreNext f lo hi r → r ≡ e ∷ t → IsFirst f lo hi e × AreNext f (e.0 + 1) hi t
next_head {V} f lo hi r t e h is =
    let both = subst (λ (xs : List (ℕ × V)). AreNext f lo hi xs) is h in
    (both.0, later t (suc e.0) (e.0 + 1) (omega arith) both.1)
  where
    later : (xs : List (ℕ × V)) (m n : ℕ) → m ≡ n → AreNext f m hi xs → AreNext f n hi xs
    later xs m n same k = subst (λ (x : ℕ). AreNext f x hi xs) same k

pub next_none : {V : Type 0} (f : ℕ → Option V) (lo hi : ℕ) (r : List (ℕ × V)) → AreNext f lo hi r → r ≡ [] → IsFree f lo hi
next_none {V} f lo hi r h is = subst (λ (xs : List (ℕ × V)). AreNext f lo hi xs) is h
