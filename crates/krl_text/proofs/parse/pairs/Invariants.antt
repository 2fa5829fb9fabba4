use Rattle.std.proofs.Common.{◌≡◌, drop, map}
use Rattle.krl_text.specs.Words.{pairs_of}
use Rattle.krl_text.proofs.PairsLemmas.{with_front}
use Rattle.krl_text.proofs.parse.pairs.Given as goal

abbrev pub invariant-loop-word : goal.invariant-loop-word
invariant-loop-word l =
    with_front l.entries.items (pairs_of (map (λ word. word.now) (drop l.word-index l.arguments))) ≡ pairs_of (map (λ word. word.now) l.arguments)
