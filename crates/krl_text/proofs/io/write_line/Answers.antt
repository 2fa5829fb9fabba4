use Rattle.std.proofs.Common.{rules, ◌≡◌, ◌+◌, arith, refl, take, drop, length-drop}
use Rattle.std.proofs.Math.Seq.{take-add}
use Rattle.std.specs.IoError.{error_kind}
use Rattle.std_io.specs.declared.io.kind.ErrorKind.TheVariants.{Interrupted}
use Rattle.std.proofs.KnownBytes.{Appends-trans, Appends-kept}
use Rattle.std.proofs.lemmas.List.{take-append-drop, take_rest}
use Rattle.krl_text.proofs.WritingLemmas.{left_took, only_interrupted}
use Rattle.krl_text.proofs.io.write_line.Goals as goal

pub loop-at-preserved-in-Ok : goal.loop-at-preserved-in-Ok
loop-at-preserved-in-Ok g c =
    record {
      inside = omega (arith, c.in-Ok.ensures.bound, length-drop c.loop-at.at c.args.bytes.now);
      bounded = c.loop-at.invariant.bounded;
      written = rw (take-add, ← take_rest c.args.bytes.now c.loop-at.at) (Appends-trans _ _ _ _ _ c.loop-at.invariant.written c.in-Ok.ensures.bytes);
      left = left_took _ _ _ _ _ _ c.loop-at.invariant.left c.in-Ok.ensures.steady;
    }

pub returns-then-n-eq0-clause-err : goal.returns-then-n-eq0-clause-err
returns-then-n-eq0-clause-err g c = (
  refl,
  take (c.loop-at.at + c.in-Ok.n) c.args.bytes.now,
  drop (c.loop-at.at + c.in-Ok.n) c.args.bytes.now,
  take-append-drop _ _,
  rw (take-add, ← take_rest c.args.bytes.now c.loop-at.at) (Appends-trans _ _ _ _ _ c.loop-at.invariant.written c.in-Ok.ensures.bytes),
)

pub returns-then-ne-clause-err : goal.returns-then-ne-clause-err
returns-then-ne-clause-err g c = (
  refl,
  take c.loop-at.at c.args.bytes.now,
  drop c.loop-at.at c.args.bytes.now,
  take-append-drop _ _,
  Appends-kept _ _ _ _ c.loop-at.invariant.written c.in-Err.ensures.bytes,
)

pub returns-then-interrupted-eq-MAX_TURNS-clause-err : goal.returns-then-interrupted-eq-MAX_TURNS-clause-err
returns-then-interrupted-eq-MAX_TURNS-clause-err g c = (
  refl,
  take c.loop-at.at c.args.bytes.now,
  drop c.loop-at.at c.args.bytes.now,
  take-append-drop _ _,
  Appends-kept _ _ _ _ c.loop-at.invariant.written c.in-Err.ensures.bytes,
)

pub returns-then-ne-clause-steady : goal.returns-then-ne-clause-steady
returns-then-ne-clause-steady g c = λ s. let kind : error_kind c.in-Err.failure ≡ Interrupted = only_interrupted _ _ _ _ _ _ c.loop-at.invariant.left s c.in-Err.ensures.steady in absurd (search rules)
