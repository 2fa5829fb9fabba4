-- Links that grow; what a refusal that isn't due shows; points of a span.
use Rattle.std.proofs.Common.{◌≡◌, ℕ, ◌≤◌, ◌<◌, ◌-◌, Bool, true, false, Option, Some, None, ◌⊎◌, inl, inr, refl, arith, if◌then◌else◌}
use Rattle.krl_refinement.proofs.Names.{RangePart, KeyPart, Mode, range_meet, key_meet, range_of, key_of, Bounds, contains, Link, Lowered, untouched, lowered, inside_span, Grows}
use Rattle.krl_cache.proofs.Truths.{outside_span}
use Rattle.krl_client.specs.declared.refused.CommandRefused.{CommandRefused}

pub grows_not : (l : Link) → Grows l l
grows_not l = record { hellos = λ x h. h; byes = λ x h. h; heads = λ x h. h; releases = λ x h. h; writes = λ x h. h; reports = λ x h. h; notices = λ x h. h; pushes = λ x h. h }

pub grows_on : (l m n : Link) → Grows l m → Grows m n → Grows l n
grows_on l m n a b = record { hellos = λ x h. b.hellos x (a.hellos x h); byes = λ x h. b.byes x (a.byes x h); heads = λ x h. b.heads x (a.heads x h); releases = λ x h. b.releases x (a.releases x h); writes = λ x h. b.writes x (a.writes x h); reports = λ x h. b.reports x (a.reports x h); notices = λ x h. b.notices x (a.notices x h); pushes = λ x h. b.pushes x (a.pushes x h) }

-- a reason that isn't the refusal doesn't hold
pub passed : (b : Bool) (x : CommandRefused) (rest : Option CommandRefused) → (if b then Some x else rest) ≡ None → (b ≡ false) × (rest ≡ None)
passed true x rest e = absurd (cc)
passed false x rest e = (refl, e)

pub before_last : (lo hi q : ℕ) → lo < hi → (q < lo) ⊎ (hi ≤ q) → (q < lo) ⊎ (hi - 1 < q)
before_last lo hi q some (inl h) = inl h
before_last lo hi q some (inr h) = inr (omega arith)

-- one point before and after a lowering
pub lowered_at : (s : Bounds) (keep : Mode) (r r' : RangePart) (k k' : KeyPart) (q : ℕ) (t : Bool) → contains s q ≡ t → s.lo < s.hi → r' ≡ r → k' ≡ k → Lowered s.lo (s.hi - 1) (range_of keep) (key_of keep) r k (if t then range_meet r' (range_of keep) else r') (if t then key_meet k' (key_of keep) else k') q
lowered_at s keep r r' k k' q true e some x y = let p = inside_span s q e in lowered p.0 (omega arith) (cc) (cc)
lowered_at s keep r r' k k' q false e some x y = untouched (before_last s.lo s.hi q some (outside_span s q e)) x y
