use Rattle.krl_table.proofs.Names.{◌≡◌, ℕ, ◌<◌, length, Lies, AreWider, extent_in}
use Rattle.krl_table.proofs.extents.Extents.follow.Given as goal

abbrev pub invariant-loop-client : goal.invariant-loop-client
invariant-loop-client l = record {
  full : length l.self.by_client ≡ 64;
  wider : AreWider l.fn.self.by_client l.self.by_client;
  there : (c : ℕ) → c < l.client → Lies (extent_in l.fn.self.by_client c) l.from → Lies (extent_in l.self.by_client c) l.to;
}
