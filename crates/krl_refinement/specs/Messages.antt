-- The messages as those of the machine, and that a message stands in a link.
use Rattle.std.specs.Prelude.{ℕ, ◌-◌, ◌≤◌, Bool, false, List, [], ◌∷◌}
use Rattle.std.specs.List.{AllByRecursion}
use Rattle.krl_modes.specs.Modes.{range_of, key_of}
use Rattle.krl_modes.specs.Spans.{Bounds}
use Rattle.krl_modes.specs.PointSets.{IsWhole}
use Rattle.krl_messages.specs.declared.holding.Holding.{Holding}
use Rattle.krl_messages.specs.Ascending.{Ascend}
use Rattle.krl_messages.specs.declared.pieces.Pieces.{Pieces}
use Rattle.krl_messages.specs.declared.write_op.WriteOp.{WriteOp}
use Rattle.krl_messages.specs.declared.write_op.WriteOp.TheVariants as write
use Rattle.krl_messages.specs.declared.to_server.ToServerBody.{ToServerBody}
use Rattle.krl_messages.specs.declared.to_server.ToServerBody.TheVariants as said
use Rattle.krl_messages.specs.declared.to_server.Request.{Request}
use Rattle.krl_messages.specs.declared.to_server.RequestBody.{RequestBody}
use Rattle.krl_messages.specs.declared.to_server.RequestBody.TheVariants as asked
use Rattle.krl_messages.specs.declared.to_client.ToClientBody.{ToClientBody}
use Rattle.krl_messages.specs.declared.to_client.ToClientBody.TheVariants as told
use Rattle.krl_messages.specs.declared.to_client.PushBody.{PushBody}
use Rattle.krl_messages.specs.declared.to_client.PushBody.TheVariants as push
use Rattle.krl_messages.specs.Members.{In}
use Rattle.krl_messages.specs.Writes.{is_applied}
use Rattle.krl_machine.specs.Links as links
use Rattle.krl_machine.specs.Links.{Op, Insert, Put, Delete, Head, Link}
use Rattle.krl_machine.specs.Holdings.{said_by}
use Rattle.krl_table.specs.Reports.{joined_range_at, greatest_key_at}

-- the last point of a span
abbrev pub last_of : Bounds → ℕ
last_of span = span.hi - 1

-- the machine's write
abbrev pub op_of : WriteOp → Op
op_of (write.Insert k v) = Insert k v
op_of (write.Put k v) = Put k v
op_of (write.Delete k) = Delete k

-- the machine has one push for an answer to a write, if applied states how it was judged, and for a grant, which
-- answers no write
abbrev pub push_with : ℕ → ℕ → ℕ → ℕ → Bool → List Holding → links.Push
push_with inc epoch number answers applied hs =
    record { inc = inc; epoch = epoch; number = number; answers = answers; applied = applied; says = said_by hs }

abbrev pub push_of : ℕ → ℕ → ℕ → PushBody → links.Push
push_of inc epoch number (push.Grant req hs) = push_with inc epoch number 0 false hs
push_of inc epoch number (push.Absent req point) = push_with inc epoch number 0 false []
push_of inc epoch number (push.Answer w o h) = push_with inc epoch number w (is_applied o) (h ∷ [])

-- the machine's report states of each point what the pieces state
abbrev pub report_of : ℕ → ℕ → Pieces → links.Report
report_of inc epoch pieces =
    record { inc = inc; epoch = epoch; range = joined_range_at pieces.ranges; key = greatest_key_at pieces.keys }

-- Messages in a link

-- next to its head, which stands in the link, the request of this head stands there
abbrev pub RequestStands : Link → Head → RequestBody → Type 0
RequestStands l a (asked.Lock req point hi g) = Unit {0}
RequestStands l a (asked.Write number op seizes) = In (record { head = a; number = number; op = op_of op }) l.writes
RequestStands l a (asked.Release span keep) =
    IsWhole span
    × In (record { head = a; lo = span.lo; last = last_of span; range = range_of keep; key = key_of keep }) l.releases
RequestStands l a asked.Ack = Unit {0}

-- the numbers that a request bears
abbrev pub head_of : ℕ → Request → Head
head_of inc request = record { inc = inc; epoch = request.epoch; seen = request.seen }

-- what this incarnation sent stands in the link
abbrev pub Stands : Link → ℕ → ToServerBody → Type 0
Stands l inc said.Hello = In inc l.hellos
Stands l inc said.Bye = In inc l.byes
Stands l inc (said.Report epoch pieces) =
    In (report_of inc epoch pieces) l.reports × AllByRecursion (λ x. IsWhole x.span) pieces.ranges
Stands l inc (said.Request request) =
    In (head_of inc request) l.heads × RequestStands l (head_of inc request) request.body

-- what a client may rely on in a push
abbrev pub IsTold : PushBody → Type 0
IsTold (push.Grant req hs) = Ascend hs × AllByRecursion (λ h. IsWhole h.span) hs
IsTold (push.Absent req point) = Unit {0}
IsTold (push.Answer number o h) = 1 ≤ number

-- what was sent to this incarnation stands in the link
abbrev pub WasSent : Link → ℕ → ToClientBody → Type 0
WasSent l inc (told.Epoch epoch) = In (record { inc = inc; epoch = epoch }) l.notices
WasSent l inc (told.Push epoch number body) = In (push_of inc epoch number body) l.pushes × (1 ≤ epoch) × IsTold body
WasSent l inc (told.Callback epoch span keep) = (1 ≤ epoch) × IsWhole span
