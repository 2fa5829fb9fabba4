-- When a lease has ended, and until when a server may believe that it runs.
use Rattle.std.proofs.Common.{◌≡◌, ◌<◌, ◌≤◌, ℕ, ◌+◌, ◌⊎◌, inl, inr, arith}
use Rattle.krl_leases.specs.declared.length.TheConstants.{FOR_EVER}
use Rattle.krl_leases.specs.declared.until.Until.{Until}
use Rattle.krl_leases.specs.Lengths.{stretched, end_of}
use Rattle.krl_leases.specs.Clocks.{Clocks, Limits, Agree}
use Rattle.krl_leases.specs.Machine.{Grant}
use Rattle.krl_leases.proofs.Lengths.{longer, further, no_shorter, lt_or_ge}
use Rattle.krl_leases.proofs.Sound.{HasEnded, Covers}

-- a lease that began before has ended once a server's clock has gone by its length with the drift
pub ended : (limits : Limits) (clocks : Clocks) → Agree limits clocks → (g : Grant) (machine now drift length t : ℕ) → g.moment ≤ now → now ≤ t → limits.drift ≤ drift → g.length ≤ length →
    g.length ≤ limits.longest → clocks.server machine now + stretched drift length ≤ clocks.server machine t → HasEnded clocks g t
ended limits clocks agree g machine now drift length t past later d l short e = by (lt_or_ge (clocks.client t) (clocks.client g.moment + g.length))
  where
    by : ((clocks.client t < clocks.client g.moment + g.length) ⊎ (clocks.client g.moment + g.length ≤ clocks.client t)) → HasEnded clocks g t
    by (inr over) = over
    by (inl early) =
        let a : clocks.server machine g.moment ≤ clocks.server machine now = agree.rises machine g.moment now past in
        let b : stretched limits.drift g.length ≤ stretched limits.drift length = longer limits.drift g.length length l in
        let c : stretched limits.drift length ≤ stretched drift length = further limits.drift drift length d in
        let r : clocks.server machine t < clocks.server machine g.moment + stretched limits.drift g.length = agree.rates machine g.moment t g.length (omega arith) short early in
        absurd (omega arith)

-- a lease that ends is no longer than what the operator sees to
is_short : (limits : Limits) (n : ℕ) → (n ≤ limits.longest) ⊎ (n ≡ FOR_EVER) → n < FOR_EVER → n ≤ limits.longest
is_short limits n (inl s) f = s
is_short limits n (inr e) f = absurd (omega arith)

-- so the end of a lease of such a length, from now on, covers it
pub covered : (limits : Limits) (clocks : Clocks) → Agree limits clocks → (g : Grant) (machine now drift length : ℕ) (until : Until) → g.moment ≤ now → limits.drift ≤ drift → g.length ≤ length →
    (g.length ≤ limits.longest) ⊎ (g.length ≡ FOR_EVER) → end_of drift (clocks.server machine now) length ≤ until.moment → Covers clocks machine now until g
covered limits clocks agree g machine now drift length until past d l short e = record {
  endless = λ f. let n = no_shorter drift length in omega arith;
  ends = λ f u t later come. ended limits clocks agree g machine now drift length t past later d l (is_short limits g.length short f) (omega arith);
}
