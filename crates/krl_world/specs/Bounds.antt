-- The bound table: the server's table while it serves; from a crash on, the table of the last moment at which a server
-- served, in which a client that has since been registered again, or marked left, holds N. And what lies within it.
use Rattle.std.specs.Prelude.{◌≡◌, ℕ, suc, ◌≤◌, ◌&&◌, Bool, true, false, nat_eq, List, [], ◌∷◌, Option, Some, None, if◌then◌else◌}
use Rattle.std.specs.List.{AllByRecursion}
use Rattle.krl_modes.specs.declared.part.RangePart.{RangePart}
use Rattle.krl_modes.specs.declared.part.RangePart.TheVariants as range
use Rattle.krl_modes.specs.declared.part.KeyPart.{KeyPart}
use Rattle.krl_modes.specs.declared.part.KeyPart.TheVariants as key
use Rattle.krl_modes.specs.Parts.{range_at_most, key_at_most}
use Rattle.krl_modes.specs.Modes.{range_of, key_of}
use Rattle.krl_modes.specs.Spans.{contains}
use Rattle.krl_messages.specs.declared.holding.Holding.{Holding}
use Rattle.krl_messages.specs.declared.pieces.Pieces.{Pieces}
use Rattle.krl_messages.specs.declared.to_server.ToServer.{ToServer}
use Rattle.krl_messages.specs.declared.to_server.ToServerBody.{ToServerBody}
use Rattle.krl_messages.specs.declared.to_server.ToServerBody.TheVariants as said
use Rattle.krl_messages.specs.declared.to_client.ToClient.{ToClient}
use Rattle.krl_messages.specs.declared.to_client.ToClientBody.{ToClientBody}
use Rattle.krl_messages.specs.declared.to_client.ToClientBody.TheVariants as told
use Rattle.krl_messages.specs.declared.to_client.PushBody.{PushBody}
use Rattle.krl_messages.specs.declared.to_client.PushBody.TheVariants as push
use Rattle.krl_messages.specs.Members.{In}
use Rattle.krl_durable.specs.Index.{Index}
use Rattle.krl_durable.specs.declared.limits.Limits.{Limits}
use Rattle.krl_durable.specs.Registers.{Durable, record_of}
use Rattle.krl_durable.specs.Limits.{Fits}
use Rattle.krl_durable.specs.declared.record.Record.{Record}
use Rattle.krl_table.specs.Points as table
use Rattle.krl_table.specs.Reports.{greatest_key_at, joined_range_at}
use Rattle.krl_server.specs.Servers.{Server, is_recovering, lists}
use Rattle.krl_server.specs.Cases.{case_of, clears}
use Rattle.krl_server.specs.Effects.{adopts}
use Rattle.krl_server.specs.Steps.{alarms, start}
use Rattle.krl_cache.specs.Beliefs.{is_last}
use Rattle.krl_client.specs.Clients.{Client}
use Rattle.krl_world.specs.declared.message.Message.{Message}
use Rattle.krl_world.specs.declared.message.Message.TheVariants as message
use Rattle.krl_steps.specs.declared.step.Step.{Step}
use Rattle.krl_steps.specs.declared.step.Step.TheVariants as step
use Rattle.krl_steps.specs.declared.answer.Answer.{Answer}
use Rattle.krl_world.specs.States.{ServerPlace, Up, Down, State, opened, durable_of, index_of, client_of, range_held, key_held}
use Rattle.krl_world.specs.Steps.{CanOpen, message_at, Takes, resized}

-- a range part and a key part for each client at each point, and the index of that moment
pub record Bound : Type 0 where
  pub range_at : ℕ → ℕ → RangePart
  pub key_at : ℕ → ℕ → KeyPart
  pub index : Index

-- The bound of a run

-- the server's table at each point
abbrev pub table_of : Server → Bound
table_of s = record {
  range_at = table.range_at s.durable.index s.rows;
  key_at = table.key_at s.durable.index s.rows;
  index = s.durable.index;
}

-- the bound of the first world, in which the server serves
abbrev pub first_bound : Durable → Bound
first_bound d = table_of (start d)

-- the message that arrives registers this client again, or marks it left
abbrev pub clears_in : ServerPlace → Option Message → ℕ → Bool
clears_in (Up s) (Some (message.ToServer m)) c = nat_eq c m.client && clears (case_of s m)
clears_in place arrived c = false

-- the step registers this client again, or marks it left
abbrev pub step_clears : State → Step → ℕ → Bool
step_clears w (step.Deliver i) c = clears_in w.server (message_at w.sent i) c
step_clears w other c = false

-- while nobody serves the bound stays, except for those clients
abbrev pub bound_cleared : (ℕ → Bool) → Bound → Bound
bound_cleared gone b = record {
  range_at = λ c p. if gone c then range.N else b.range_at c p;
  key_at = λ c p. if gone c then key.N else b.key_at c p;
  index = b.index;
}

-- the table of a server that serves, otherwise what was kept
abbrev pub bound_at : ServerPlace → Bound → Bound
bound_at (Up s) kept = if is_recovering s.missing then kept else table_of s
bound_at (Down d) kept = kept

-- the bound after a step from one world to the next
abbrev pub bound_after : State → Step → Bound → State → Bound
bound_after w s b w' = bound_at w'.server (bound_cleared (step_clears w s) b)

-- the world is reached, and this is the bound table of how it was. It stays if what a server left gets other limits
pub data HasBound : State → Bound → Type 0 where
  at_first : (d : Durable) → CanOpen d → HasBound (opened d) (first_bound d)
  after_step : (w v : State) (b : Bound) (s : Step) (answer : Answer) → HasBound w b → Takes w s answer v →
      HasBound v (bound_after w s b v)
  as_before : (w : State) (b : Bound) (d : Durable) (l : Limits) → HasBound w b → w.server ≡ Down d → Fits l d →
      HasBound (resized w d l) b

-- What lies within it

-- the range part is at most the other one
abbrev pub IsRangeWithin : RangePart → RangePart → Type 0
IsRangeWithin r top = range_at_most r top ≡ true

-- the key part is at most the other one
abbrev pub IsKeyWithin : KeyPart → KeyPart → Type 0
IsKeyWithin k top = key_at_most k top ≡ true

-- the table gives each client, at each point, at most what the bound does
abbrev pub IsTableWithin : Bound → Bound → Type 0
IsTableWithin t b =
    (c p : ℕ) → IsRangeWithin (t.range_at c p) (b.range_at c p) × IsKeyWithin (t.key_at c p) (b.key_at c p)

-- the table gives the client, at each point, at least what it believes
abbrev pub Covers : Bound → State → ℕ → Type 0
Covers t w c = (p : ℕ) → IsRangeWithin (range_held w c p) (t.range_at c p) × IsKeyWithin (key_held w c p) (t.key_at c p)

-- each part of the holding, at each point of its span
pub record IsHoldingWithin (b : Bound) (c : ℕ) (h : Holding) : Type 0 where
  pub range : (p : ℕ) → contains h.span p ≡ true → IsRangeWithin (range_of h.mode) (b.range_at c p)
  pub key : (p : ℕ) → contains h.span p ≡ true → is_last h.span p ≡ true → IsKeyWithin (key_of h.mode) (b.key_at c p)

-- each holding of a push to the client
abbrev pub IsPushWithin : Bound → ℕ → PushBody → Type 0
IsPushWithin b c (push.Grant req hs) = AllByRecursion (IsHoldingWithin b c) hs
IsPushWithin b c (push.Absent req point) = Unit {0}
IsPushWithin b c (push.Answer number o h) = IsHoldingWithin b c h

-- the push with this body
abbrev pub push_message : ℕ → ℕ → ℕ → ℕ → PushBody → Message
push_message c incarnation epoch number body =
    message.ToClient (record { client = c; incarnation = incarnation; body = told.Push epoch number body })

-- what clients believe, and the holdings of live pushes, are within the bound; and the index has stood still since
pub record IsBounded (w : State) (b : Bound) : Type 0 where
  pub index : b.index ≡ index_of w
  pub held_range : (c p : ℕ) → IsRangeWithin (range_held w c p) (b.range_at c p)
  pub held_key : (c p : ℕ) → IsKeyWithin (key_held w c p) (b.key_at c p)
  -- a push is live if its client is up, its incarnation and epoch are the client's own, and its number is the next
  pub live : (c : ℕ) (k : Client) (body : PushBody) → client_of w c ≡ Some k →
      In (push_message c k.incarnation k.epoch (suc k.seen) body) w.sent → IsPushWithin b c body

-- Over restarts

-- the epoch that a client names in a message, or 0
abbrev pub epoch_said : ToServerBody → ℕ
epoch_said (said.Report epoch pieces) = epoch
epoch_said (said.Request request) = request.epoch
epoch_said other = 0

-- the epoch that a server names in a message
abbrev pub epoch_told : ToClientBody → ℕ
epoch_told (told.Epoch epoch) = epoch
epoch_told (told.Push epoch number body) = epoch
epoch_told (told.Callback epoch s keep) = epoch

-- the report of these pieces
abbrev pub report_message : ℕ → ℕ → ℕ → Pieces → Message
report_message c incarnation epoch pieces =
    message.ToServer (record { client = c; incarnation = incarnation; body = said.Report epoch pieces })

-- a report that the server would adopt: its client is missing, and it is of the registered incarnation and this epoch
pub record IsAwaited (w : State) (s : Server) (c : ℕ) (r : Record) (pieces : Pieces) : Type 0 where
  pub missing : lists s.missing c ≡ true
  pub known : record_of s.durable.register c ≡ Some r
  pub sent : In (report_message c r.incarnation s.durable.epoch pieces) w.sent

-- the server's table once the client's report is adopted
abbrev pub table_with : Server → ℕ → Pieces → Bound
table_with s c pieces = table_of (adopts s c pieces)

-- what a server that recovers has heard, or may still hear, is within the bound
pub record IsRecoveryWithin (w : State) (b : Bound) (s : Server) : Type 0 where
  -- an awaited report is, and it is at least what its client believes
  pub report : (c : ℕ) (r : Record) (pieces : Pieces) → IsAwaited w s c r pieces → (p : ℕ) →
      IsRangeWithin (joined_range_at pieces.ranges p) (b.range_at c p)
      × IsKeyWithin (greatest_key_at pieces.keys p) (b.key_at c p)
  pub report_covers : (c : ℕ) (r : Record) (k : Client) (pieces : Pieces) → IsAwaited w s c r pieces →
      client_of w c ≡ Some k → k.incarnation ≡ r.incarnation → (p : ℕ) →
      IsRangeWithin (range_held w c p) (joined_range_at pieces.ranges p)
      × IsKeyWithin (key_held w c p) (greatest_key_at pieces.keys p)
  -- a row that was rebuilt is, and it is at least what its client believes
  pub row : IsTableWithin (table_of s) b
  pub row_covers : (c : ℕ) → lists s.missing c ≡ false → Covers (table_of s) w c
  -- so it is as soon as an awaited report is adopted, even if it is the last and the server serves from then on
  pub adopted : (c : ℕ) (r : Record) (pieces : Pieces) → IsAwaited w s c r pieces →
      IsTableWithin (table_with s c pieces) b
  pub adopted_covers : (c : ℕ) (r : Record) (pieces : Pieces) → IsAwaited w s c r pieces → (d : ℕ) →
      lists (adopts s c pieces).missing d ≡ false → Covers (table_with s c pieces) w d

-- what holds in each epoch, also while a server recovers
pub record HoldsOverRestarts (w : State) (b : Bound) : Type 0 where
  -- no message has an epoch above the durable one
  pub said : (m : ToServer) → In (message.ToServer m) w.sent → epoch_said m.body ≤ (durable_of w.server).epoch
  pub told : (m : ToClient) → In (message.ToClient m) w.sent → epoch_told m.body ≤ (durable_of w.server).epoch
  -- of a server that recovers
  pub recovery : (s : Server) → w.server ≡ Up s → is_recovering s.missing ≡ true → IsRecoveryWithin w b s
  -- the server's step on a message that was ever sent has no alarm
  pub no_alarm : (s : Server) (m : ToServer) → w.server ≡ Up s → In (message.ToServer m) w.sent → alarms s m ≡ false
