-- A scan over several servers, part by part, while its clients accept no push.
use Rattle.std.specs.Prelude.{◌≡◌, ◌<◌, ℕ, List, [], ◌∷◌, ◌++◌, Option, Some, None}
use Rattle.krl_durable.specs.Index.{Index, range}
use Rattle.krl_client.specs.Clients.{Client}
use Rattle.krl_world.specs.States.{client_of}
use Rattle.krl_shards.specs.declared.part.Part.{Part}
use Rattle.krl_shards.specs.Parts.{Follow}
use Rattle.krl_world_laws.specs.Systems.{System}
use Rattle.krl_world_laws.specs.Readers.{Rows, AnswersScan}
use Rattle.krl_world_laws.specs.Shards.Scans.{views, AreReached, IsTogether}

-- the client has accepted a push: it runs as the same incarnation in the same epoch, and has accepted more than before
abbrev pub HasAccepted : Option Client → Option Client → Type 0
HasAccepted (Some j) (Some k) = (j.incarnation ≡ k.incarnation) × (j.epoch ≡ k.epoch) × (j.seen < k.seen)
HasAccepted before after = ⊥

-- Moves by which the client accepts no push. All else may happen to it: it obeys callbacks and commands, ticks, crashes
-- and starts
pub data RunsWithoutPush (s : System) (c : ℕ) (v : s.World) : s.World → Type 0 where
  begins : RunsWithoutPush s c v v
  goes_on : (u w : s.World) → RunsWithoutPush s c v u → s.Moves u w →
      (HasAccepted (client_of (s.view u) c) (client_of (s.view w) c) → ⊥) → RunsWithoutPush s c v w

-- each part's client answers it, in a world of its own to which the moment's led while the client accepted no push
abbrev pub AnswerSince : (s : System) → (ℕ → s.World) → (ℕ → ℕ) → List Part → Rows → Type 0
AnswerSince s x c [] rows = rows ≡ []
AnswerSince s x c (p ∷ ps) rows =
    (v : s.World) × (some : Rows) × (rest : Rows) × RunsWithoutPush s (c p.shard) (x p.shard) v
    × AnswersScan (s.view v) (c p.shard) p.lo p.hi some × AnswerSince s x c ps rest × (rows ≡ some ++ rest)

abbrev pub ScanWithoutPushes : System → Type 0
ScanWithoutPushes s =
    (bounds : List ℕ) (x : ℕ → s.World) (c : ℕ → ℕ) (m : Index) (lo hi : ℕ) (parts : List Part) (rows : Rows) →
    AreReached s bounds x → IsTogether bounds (views s x) m → Follow bounds hi lo hi parts →
    AnswerSince s x c parts rows → rows ≡ range m lo hi
