use Rattle.std.proofs.Common.{◌≡◌, ◌≤◌, length, take, vec_len, vec_capacity}
use Rattle.krl_cache_laws.specs.Runs.{Runs}
use Rattle.krl_cache_laws.proofs.run.run_cache.Given as goal

abbrev pub invariant-loop-call : goal.invariant-loop-call
invariant-loop-call g l = record {
  room : length l.calls ≤ vec_capacity l.replies;
  count : vec_len l.replies ≡ l.call-index;
  run : Runs (g.B.Belief.believed l.fn.cache) (take l.call-index l.calls) l.replies.items (g.B.Belief.believed l.cache);
}
