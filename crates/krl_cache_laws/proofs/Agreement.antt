-- Two runs of the same calls agree.
use Rattle.std.proofs.Common.{◌≡◌, ◌≢◌, ℕ, ◌<◌, inl, inr, [], ◌∷◌, refl, sym, ap, subst, ◌∙◌, arith}
use Rattle.std.proofs.lemmas.Bool.Decides.{leb_tells}
use Rattle.krl_modes.proofs.Basics.{not_both}
use Rattle.krl_modes.specs.Spans.{Bounds}
use Rattle.krl_cache.specs.declared.scanned.Scanned.{Scanned}
use Rattle.krl_cache.specs.declared.scanned.Scanned.TheVariants as scanned
use Rattle.krl_cache_laws.specs.declared.run.CacheCall.{CacheCall}
use Rattle.krl_cache_laws.specs.declared.run.CacheCall.TheVariants as call
use Rattle.krl_cache_laws.specs.declared.run.CacheReply.{CacheReply}
use Rattle.krl_cache_laws.specs.declared.run.CacheReply.TheVariants as reply
use Rattle.krl_cache.specs.Beliefs.{Belief, Scans, is_covered, IsLeastUncovered}
use Rattle.krl_cache_laws.specs.Runs.{after, IsReply, IsStep, Runs, RunsAgree}
use Rattle.krl_messages.specs.declared.pieces.Pieces.{Pieces}
use Rattle.krl_cache.proofs.OneScan.{rows_are_determined}
use Rattle.krl_cache_laws.proofs.Determined.{pieces_are_determined}

not_less : (b : Belief) (s : Bounds) (p q : ℕ) → IsLeastUncovered b s p → IsLeastUncovered b s q → p < q → ⊥
not_less b s p q h k l = not_both (is_covered b p) (k.least p h.point.0 l) h.uncovered

one_least : (b : Belief) (s : Bounds) (p q : ℕ) → IsLeastUncovered b s p → IsLeastUncovered b s q → p ≡ q
one_least b s p q h k =
    elim (leb_tells p q) [
      | inl x ↦
          elim (leb_tells q p) [
            | inl y ↦ omega (arith, x.1, y.1)
            | inr y ↦ absurd (not_less b s p q h k y.1)
          ]
      | inr x ↦ absurd (not_less b s q p k h x.1)
    ]

pub one_find : (b : Belief) (s : Bounds) (x y : Scanned) → Scans b s x → Scans b s y → x ≡ y
one_find b s (scanned.Rows xs) (scanned.Rows ys) h k = ap (λ rows. scanned.Rows rows) (rows_are_determined b s xs ys h.1 k.1)
one_find b s (scanned.Rows xs) (scanned.Miss q) h k = absurd (not_both (is_covered b q) (h.0 q k.point) k.uncovered)
one_find b s (scanned.Miss p) (scanned.Rows ys) h k = absurd (not_both (is_covered b p) (k.0 p h.point) h.uncovered)
one_find b s (scanned.Miss p) (scanned.Miss q) h k = ap (λ n. scanned.Miss n) (one_least b s p q h k)

one_scan : (b : Belief) (s : Bounds) (r q : CacheReply) → IsReply b (call.Scan s) r → IsReply b (call.Scan s) q → r ≡ q
one_scan b s (reply.Found x) (reply.Found y) h k = ap (λ (z : Scanned). reply.Found z) (one_find b s x y h k)
one_scan b s (reply.Found x) (reply.Range p) h k = absurd k
one_scan b s (reply.Found x) (reply.Key p) h k = absurd k
one_scan b s (reply.Found x) (reply.Value p) h k = absurd k
one_scan b s (reply.Found x) reply.Done h k = absurd k
one_scan b s (reply.Found x) (reply.Told p) h k = absurd k
one_scan b s (reply.Found x) reply.OutOfMemory h k = absurd k
one_scan b s (reply.Range p) q h k = absurd h
one_scan b s (reply.Key p) q h k = absurd h
one_scan b s (reply.Value p) q h k = absurd h
one_scan b s reply.Done q h k = absurd h
one_scan b s (reply.Told p) q h k = absurd h
one_scan b s reply.OutOfMemory q h k = absurd h

same_pieces : (b : Belief) (r q : CacheReply) → IsReply b call.Pieces r → IsReply b call.Pieces q → r ≡ q
same_pieces b (reply.Told x) (reply.Told y) h k = ap (λ (ps : Pieces). reply.Told ps) (pieces_are_determined b x y h k)
same_pieces b (reply.Told x) (reply.Range p) h k = absurd k
same_pieces b (reply.Told x) (reply.Key p) h k = absurd k
same_pieces b (reply.Told x) (reply.Value p) h k = absurd k
same_pieces b (reply.Told x) reply.Done h k = absurd k
same_pieces b (reply.Told x) (reply.Found p) h k = absurd k
same_pieces b (reply.Told x) reply.OutOfMemory h k = absurd k
same_pieces b (reply.Range p) q h k = absurd h
same_pieces b (reply.Key p) q h k = absurd h
same_pieces b (reply.Value p) q h k = absurd h
same_pieces b reply.Done q h k = absurd h
same_pieces b (reply.Found p) q h k = absurd h
same_pieces b reply.OutOfMemory q h k = absurd h

pub replies_agree : (b : Belief) (c : CacheCall) (r s : CacheReply) → IsReply b c r → IsReply b c s → r ≡ s
replies_agree b (call.RangeAt p) r s h k = h ∙ sym k
replies_agree b (call.KeyAt p) r s h k = h ∙ sym k
replies_agree b (call.ValueAt p) r s h k = h ∙ sym k
replies_agree b (call.Adopt x) r s h k = h ∙ sym k
replies_agree b (call.AdoptAll xs) r s h k = h ∙ sym k
replies_agree b (call.Lower x keep) r s h k = h ∙ sym k
replies_agree b (call.Scan x) r s h k = one_scan b x r s h k
replies_agree b call.Pieces r s h k = same_pieces b r s h k

-- an answered call is answered as written, and has its effect
answered : (b n : Belief) (c : CacheCall) (r : CacheReply) → IsStep b c r n → r ≢ reply.OutOfMemory → IsReply b c r × (n ≡ after c b)
answered b n c r (inl h) ne = h
answered b n c r (inr h) ne = absurd (ne h.1)

pub runs_agree : RunsAgree
runs_agree b m n [] [] [] h k x y = (h ∙ sym k, refl)
runs_agree b m n [] [] (s ∷ ss) h k x y = absurd k
runs_agree b m n [] (r ∷ rs) ss h k x y = absurd h
runs_agree b m n (c ∷ cs) [] ss h k x y = absurd h
runs_agree b m n (c ∷ cs) (r ∷ rs) [] h k x y = absurd k
runs_agree b m n (c ∷ cs) (r ∷ rs) (s ∷ ss) h k x y =
    let one = answered b h.0 c r h.1 x.0 in
    let other = answered b k.0 c s k.1 y.0 in
    let rest = runs_agree k.0 m n cs rs ss (subst (λ (z : Belief). Runs z cs rs m) (one.1 ∙ sym other.1) h.2) k.2 x.1 y.1 in
    (rest.0, λ i. replies_agree b c r s one.0 other.0 i ∷ rest.1 i)
