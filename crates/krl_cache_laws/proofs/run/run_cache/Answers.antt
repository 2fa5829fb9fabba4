use Rattle.std.proofs.Common.{◌≡◌, ℕ, ◌+◌, Bool, ◌∷◌, [], ◌++◌, cond, vec_len, ap, ◌∙◌, arith}
use Rattle.krl_cache_laws.proofs.RunsLemmas.{runs_step}
use Rattle.krl_cache_laws.proofs.run.run_cache.Goals as goal

pub loop-call-preserved : goal.loop-call-preserved
loop-call-preserved g c =
    let held = c.loop-call.replies in
    let reply = c.answer-reply.result in
    let ok = c.push.ensures.succeeds (omega (arith, c.loop-call.invariant.room, c.loop-call.invariant.count, c.loop-call-test.true)) in
    let items : c.push.new.self.items ≡ held.items ++ reply ∷ [] = c.push.ensures.items ∙ ap (λ (b : Bool). cond b (held.items ++ reply ∷ []) held.items) ok in
    let len : vec_len c.push.new.self ≡ vec_len held + 1 = c.push.ensures.len ∙ ap (λ (b : Bool). cond b (vec_len held + 1) (vec_len held)) ok in
    record {
      room = omega (arith, c.loop-call.invariant.room, c.push.ensures.capacity);
      count = len ∙ ap (λ (n : ℕ). n + 1) c.loop-call.invariant.count;
      run = runs_step (g.B.Belief.believed c.args.cache.now) (g.B.Belief.believed c.loop-call.cache) (g.B.Belief.believed c.answer-reply.new.cache) c.args.calls.now c.loop-call.call-index c.call-item.result reply held.items c.push.new.self.items c.loop-call.invariant.run c.answer-reply.ensures c.loop-call-test.true c.call-item.is items;
    }
