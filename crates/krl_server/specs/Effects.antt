-- What each case makes of the server, and what it sends.
use Rattle.std.specs.Prelude.{ℕ, suc, Option, Some, None, List, [], ◌∷◌, nat_lt, if◌then◌else◌}
use Rattle.std.specs.FinMap as map
use Rattle.krl_modes.specs.declared.point.TheConstants.{END}
use Rattle.krl_modes.specs.declared.part.KeyPart.{KeyPart}
use Rattle.krl_modes.specs.declared.part.KeyPart.TheVariants as key
use Rattle.krl_modes.specs.declared.mode.Mode.{Mode}
use Rattle.krl_modes.specs.Modes.{key_of}
use Rattle.krl_modes.specs.Spans.{Bounds}
use Rattle.krl_messages.specs.Values.{Value}
use Rattle.krl_messages.specs.declared.holding.Holding.{Holding}
use Rattle.krl_messages.specs.declared.pieces.Pieces.{Pieces}
use Rattle.krl_messages.specs.declared.write_op.WriteOp.{WriteOp}
use Rattle.krl_messages.specs.declared.write_op.WriteOp.TheVariants as write
use Rattle.krl_messages.specs.declared.outcome.Outcome.{Outcome}
use Rattle.krl_messages.specs.declared.outcome.Outcome.TheVariants as outcome
use Rattle.krl_messages.specs.declared.to_server.ToServer.{ToServer}
use Rattle.krl_messages.specs.declared.to_client.ToClient.{ToClient}
use Rattle.krl_messages.specs.declared.to_client.ToClientBody.{ToClientBody}
use Rattle.krl_messages.specs.declared.to_client.ToClientBody.TheVariants as told
use Rattle.krl_messages.specs.declared.to_client.PushBody.{PushBody}
use Rattle.krl_messages.specs.declared.to_client.PushBody.TheVariants as push
use Rattle.krl_queue.specs.declared.waiter.Waiter.{Waiter}
use Rattle.krl_durable.specs.Index.{Index, slot_of, span_of}
use Rattle.krl_durable.specs.Registers.{registered, departed}
use Rattle.krl_messages.specs.Writes.{op_key, is_applied}
use Rattle.krl_durable.specs.Writes.{applied}
use Rattle.krl_table.specs.Rows.{Rows, mode_at}
use Rattle.krl_table.specs.Calls.{lowered, cleared, enqueued, split, merged, raised}
use Rattle.krl_table.specs.Reports.{adopted}
use Rattle.krl_server.specs.declared.session.Session.{Session}
use Rattle.krl_server.specs.Servers.{Server, blank_session, unlist, set_session, incarnation_of}
use Rattle.krl_server.specs.Seizing.{lock_for}
use Rattle.krl_server.specs.Cases.{Case, Ignored, Registers, Leaves, Tells, Alarms, Rebuilds, Repeats, Acknowledges, Lowers, Waits, Judges, SeizesLock, AnswersAgain}

-- the server after a call, and what it sends
pub record Done : Type 0 where
  pub server : Server
  pub outs : List ToClient  -- in the order in which they are sent

-- nothing is sent
abbrev pub silent : Server → Done
silent s = record { server = s; outs = [] }

-- Messages

-- a message to the client's registered incarnation
abbrev pub out_to : Server → ℕ → ToClientBody → ToClient
out_to s c body = record { client = c; incarnation = incarnation_of s c; body = body }

-- the epoch of the server
abbrev pub epoch_to : Server → ℕ → ToClient
epoch_to s c = out_to s c (told.Epoch s.durable.epoch)

-- the push of this number
abbrev pub push_to : Server → ℕ → ℕ → PushBody → ToClient
push_to s c number body = out_to s c (told.Push s.durable.epoch number body)

-- the callback of a span: the client is to keep at most this mode there
abbrev pub callback_to : Server → ℕ → Bounds → Mode → ToClient
callback_to s c span keep = out_to s c (told.Callback s.durable.epoch span keep)

-- a value goes with a key part that reads it
abbrev pub shown : KeyPart → Option Value → Option Value
shown key.N v = None
shown other v = v

-- what the client holds on the slot
abbrev pub holding : Server → ℕ → ℕ → Holding
holding s n c = record {
  span = span_of s.durable.index n;
  mode = mode_at s.rows n c;
  value = shown (key_of (mode_at s.rows n c)) (map.get s.durable.index n);
}

-- and on each of these slots, in their order
abbrev pub holdings : Server → ℕ → List ℕ → List Holding
holdings s c [] = []
holdings s c (n ∷ ns) = holding s n c ∷ holdings s c ns

-- Changes of the server

-- the server with another session of this client
abbrev pub with_session : Server → ℕ → Session → Server
with_session s c session = record s { sessions = set_session s.sessions c session }

-- with other rows
abbrev pub with_rows : Server → Rows → Server
with_rows s rows = record s { rows = rows }

-- Hello of a new incarnation
abbrev pub registers : Server → ℕ → ℕ → Server
registers s c incarnation = record s {
  durable = registered s.durable c incarnation;
  rows = cleared s.rows c;
  sessions = set_session s.sessions c blank_session;
  missing = unlist s.missing c;
}

-- Bye
abbrev pub departs : Server → ℕ → Server
departs s c = record s { durable = departed s.durable c; rows = cleared s.rows c; missing = unlist s.missing c }

-- a report is adopted
abbrev pub adopts : Server → ℕ → Pieces → Server
adopts s c pieces = record s { rows = adopted s.durable.index s.rows c pieces; missing = unlist s.missing c }

-- the last push counts as acknowledged
abbrev pub acknowledged : Server → ℕ → Server
acknowledged s c = with_session s c (record (s.sessions c) { unacked = None })

-- the client gives up what is more than this mode in the span
abbrev pub lowers : Server → ℕ → Bounds → Mode → Server
lowers s c span keep = with_rows s (lowered s.durable.index s.rows c span keep)

-- a lock request gets its place in the queue
abbrev pub queues : Server → Waiter → Server
queues s u = record s {
  rows = enqueued s.durable.index s.rows u;
  sessions = set_session s.sessions u.client (record (s.sessions u.client) { last_request = u.req });
}

-- what a write that is Applied makes of the rows
abbrev pub rows_written : Index → Rows → ℕ → WriteOp → Rows
rows_written m rows c (write.Insert k v) = split m rows k c
rows_written m rows c (write.Put k v) = rows
rows_written m rows c (write.Delete k) = merged m rows k

-- it does so only if it is Applied
abbrev pub rows_after : Index → Rows → ℕ → WriteOp → Outcome → Rows
rows_after m rows c op o = if is_applied o then rows_written m rows c op else rows

-- the client gets the lock that its write seizes: on the slot of the key its mode rises to what it wants there
abbrev pub seizes : Server → ℕ → WriteOp → Server
seizes s c op = with_rows s (raised s.rows (slot_of s.durable.index (op_key op)) (lock_for c op))

-- a new write is done and noted
abbrev pub writes : Server → ℕ → WriteOp → Outcome → Server
writes s c op o = record s { durable = applied s.durable c op o; rows = rows_after s.durable.index s.rows c op o }

-- the next push to the client. If its number is spent none is made
abbrev pub pushes : Server → ℕ → PushBody → Done
pushes s c body =
    if nat_lt (s.sessions c).last_push END
    then record {
      server = with_session s c (record (s.sessions c) {
        last_push = suc (s.sessions c).last_push;
        unacked = Some body;
      });
      outs = push_to s c (suc (s.sessions c).last_push) body ∷ [];
    }
    else silent s

-- a write is answered, with the client's present holding on the slot of its key
abbrev pub tells_outcome : Server → ℕ → ℕ → WriteOp → Outcome → Done
tells_outcome s c number op o = pushes s c (push.Answer number o (holding s (slot_of s.durable.index (op_key op)) c))

-- what each case makes of the server, and what it sends to the message's client
abbrev pub effect : Server → ToServer → Case → Done
effect s m Ignored = silent s
effect s m Registers =
    let t = registers s m.client m.incarnation in record { server = t; outs = epoch_to t m.client ∷ [] }
effect s m Leaves = silent (departs s m.client)
effect s m Tells = record { server = s; outs = epoch_to s m.client ∷ [] }
effect s m Alarms = silent s
effect s m (Rebuilds pieces) = silent (adopts s m.client pieces)
effect s m (Repeats body) = record { server = s; outs = push_to s m.client (s.sessions m.client).last_push body ∷ [] }
effect s m Acknowledges = silent (acknowledged s m.client)
effect s m (Lowers span keep) = silent (lowers (acknowledged s m.client) m.client span keep)
effect s m (Waits req point hi g) =
    silent (queues (acknowledged s m.client) (record {
      client = m.client;
      req = req;
      point = point;
      hi = hi;
      mode = g;
    }))
effect s m (Judges number op o) = tells_outcome (writes (acknowledged s m.client) m.client op o) m.client number op o
effect s m (SeizesLock number op) =
    tells_outcome (writes (acknowledged (seizes s m.client op) m.client) m.client op outcome.Applied) m.client number op
    outcome.Applied
effect s m (AnswersAgain number op o) = tells_outcome (acknowledged s m.client) m.client number op o
