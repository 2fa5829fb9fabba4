use Rattle.std.proofs.Common.{◌≡◌, List, Option, None, Some, sym, subst, arith}
use Rattle.krl_modes.specs.Spans.{Bounds}
use Rattle.krl_cache.specs.Beliefs.{Belief}
use Rattle.krl_cache.specs.Laws.{IsBelief}
use Rattle.krl_cache.proofs.Calls.{calls_keep_belief}
use Rattle.krl_client.specs.Fields.{pins_of}
use Rattle.krl_client.proofs.client.Client.start.Goals as goal

pub invariant_of-client : goal.invariant_of-client
invariant_of-client c = record {
  number = omega (arith, c.if-number.false);
  incarnation = omega (arith, c.if-incarnation-gt-END.false);
  seen = omega arith;
  req = omega arith;
  writes = omega arith;
  asked = λ point hi mode e. absurd (cc);
  written = λ change e. absurd (cc);
  pins = λ id s e. absurd (let bad : None ≡ Some s = subst (λ (xs : List (Option Bounds)). pins_of xs id ≡ Some s) c.new-2.ensures e in cc);
  belief = subst (λ (b : Belief). IsBelief b) (sym c.new.ensures) calls_keep_belief.new;
}
