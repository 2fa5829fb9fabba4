-- An outstanding write.
use Rattle.std.specs.Prelude.{◌≡◌, ℕ, suc, ◌<◌, true, Some, None, length}
use Rattle.krl_modes.specs.declared.point.TheConstants.{END}
use Rattle.krl_messages.specs.declared.write_op.WriteOp.{WriteOp}
use Rattle.krl_client.specs.Clients.{Client, outstanding}
use Rattle.krl_world.specs.States.{State, client_of}
use Rattle.krl_world.specs.Shown.{is_serving}
use Rattle.krl_world.specs.Steps.{IsReachable}
use Rattle.krl_progress.specs.Rounds.{Rounds}
use Rattle.krl_progress.specs.Laws.{MissingRun}

-- a client whose write is outstanding accepts a further push within n good rounds, whatever was lost before them
abbrev pub WritesMoveOnIn : ℕ → Type 0
WritesMoveOnIn n =
    (w v : State) (c : ℕ) (k l : Client) (op : WriteOp) → IsReachable w → is_serving w.server ≡ true →
    client_of w c ≡ Some k → outstanding k.written ≡ Some op → k.seen < END → Rounds n (length w.sent) w v →
    client_of v c ≡ Some l → k.seen < l.seen

-- within n good rounds an outstanding write is answered, if its client has asked for no further lock by then and has
-- made no further write
abbrev pub WritesAreAnsweredIn : ℕ → Type 0
WritesAreAnsweredIn n =
    (w v : State) (c : ℕ) (k l : Client) (op : WriteOp) → IsReachable w → is_serving w.server ≡ true →
    client_of w c ≡ Some k → outstanding k.written ≡ Some op → suc k.seen < END → Rounds n (length w.sent) w v →
    client_of v c ≡ Some l → l.req ≡ k.req → l.writes ≡ k.writes → outstanding l.written ≡ None

-- the client has asked for no further lock in the epoch that it is in, if it counts again if it has joined it since
abbrev pub HasAskedNoMore : Client → Client → Type 0
HasAskedNoMore k l = (l.epoch ≡ k.epoch → l.req ≡ k.req) × (k.epoch < l.epoch → l.req ≡ 0)

-- If a server runs, and each client whose report it misses runs: within n good rounds no write is outstanding that was
-- made before them, if its client has asked for no further lock by then.
abbrev pub WritesOutlastRecoveriesIn : ℕ → Type 0
WritesOutlastRecoveriesIn n =
    (w v : State) (c : ℕ) (k l : Client) → IsReachable w → MissingRun w w.server → client_of w c ≡ Some k →
    Rounds n (length w.sent) w v → client_of v c ≡ Some l → suc l.seen < END → HasAskedNoMore k l →
    l.writes ≡ k.writes → outstanding l.written ≡ None
