-- Bytes that are written over the first of 32 zeros.
use Rattle.std.proofs.Common.{◌≡◌, ℕ, ◌+◌, ◌-◌, ◌≤◌, ◌∙◌, List, ◌++◌, length, drop, refl, sym, ap, arith, length-append, length-drop}
use Rattle.std.proofs.Math.ListN.{replicate}
use Rattle.std.proofs.Math.Seq.{drop-append_seam}
use Rattle.std.proofs.lemmas.List.{drop-replicate}
use Rattle.krl_messages.specs.Padded.{IsPadded}

pub written : (len : ℕ) (bytes : List ℕ) → length bytes ≡ len → len ≤ 32 → IsPadded len (bytes ++ drop len (replicate 32 0))
written len bytes e few = record {
  few = few;
  whole = let zs : List ℕ = replicate 32 0 in let n = length-append bytes (drop len zs) in
      let m = length-drop len zs in let l : length zs ≡ 32 = refl in omega (arith, n, m, l, e, few);
  zeros = ap (λ n. drop n (bytes ++ drop len (replicate 32 0))) (sym e) ∙ drop-append_seam bytes (drop len (replicate 32 0)) ∙ drop-replicate len 32 0;
}
