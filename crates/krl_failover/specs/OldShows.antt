-- How an old server, as its code is, shows in the machine of many servers.
use Rattle.std.specs.Prelude.{◌≡◌, ℕ, ◌<◌, Bool, true, false, not, Option, Some, None, is_some}
use Rattle.std.specs.FinMap as map
use Rattle.krl_modes.specs.declared.part.RangePart.{RangePart}
use Rattle.krl_modes.specs.declared.part.RangePart.TheVariants as range
use Rattle.krl_modes.specs.declared.part.KeyPart.{KeyPart}
use Rattle.krl_modes.specs.declared.part.KeyPart.TheVariants as key
use Rattle.krl_messages.specs.declared.outcome.Outcome.{Outcome}
use Rattle.krl_messages.specs.declared.to_client.ToClientBody.TheVariants as told
use Rattle.krl_messages.specs.declared.to_client.PushBody.{PushBody}
use Rattle.krl_messages.specs.Members.{In}
use Rattle.krl_messages.specs.Writes.{is_applied}
use Rattle.krl_queue.specs.declared.waiter.Waiter.{Waiter}
use Rattle.krl_machine.specs.Links.{Head, Link}
use Rattle.krl_durable.specs.declared.record.Record.{Record}
use Rattle.krl_durable.specs.Registers.{record_of}
use Rattle.krl_table.specs.Points.{range_at, key_at}
use Rattle.krl_server.specs.declared.session.Session.{Session}
use Rattle.krl_server.specs.Servers.{Server, is_recovering, lists}
use Rattle.krl_refinement.specs.Messages.{WasSent}
use Rattle.krl_failover.specs.Fenced.{Kept, Fenced, IsHere}

-- the client's record. Of one that has left nobody asks what its last write was
abbrev pub IsRecordKept : Option Record → Kept → Type 0
IsRecordKept None z = record { reg : z.reg ≡ 0; done : z.done ≡ 0 }
IsRecordKept (Some r) z = record {
  reg : z.reg ≡ r.incarnation;
  done : r.left ≡ false → z.done ≡ r.last;
  applied : (o : Outcome) → r.left ≡ false → r.outcome ≡ Some o → z.applied ≡ is_applied o;
}

-- its counts, by the client's record and session. A push that is not acknowledged stands in the link
pub record CountsAre (epoch : ℕ) (of : Option Record) (session : Session) (l : Link) (z : Kept) : Type 0 where
  pub known : IsRecordKept of z
  pub last : z.last ≡ session.last_push
  pub acked : z.acked ≡ not (is_some session.unacked)
  pub unacked : (body : PushBody) → session.unacked ≡ Some body →
      WasSent l z.reg (told.Push epoch session.last_push body)

-- a message of the incarnation that it knows, in its epoch, stands in the link
abbrev pub IsHeardBy : ℕ → Link → Kept → Type 0
IsHeardBy epoch l z = (a : Head) × In a l.heads × (a.inc ≡ z.reg) × (a.epoch ≡ epoch)

-- the bound is N at each point
abbrev pub IsBlankRow : Link → Type 0
IsBlankRow l = (q : ℕ) → (l.top_range q ≡ range.N) × (l.top_key q ≡ key.N)

-- a row of the latest server that ever served: the bound's; that of an incarnation that is gone only blocks others
pub record BoundIs (l : Link) (z : Kept) (range_part : ℕ → RangePart) (key_part : ℕ → KeyPart) : Type 0 where
  pub here : IsHere l z → (q : ℕ) → (l.top_range q ≡ range_part q) × (l.top_key q ≡ key_part q)
  pub gone : (IsHere l z → ⊥) → IsBlankRow l

-- a row that a later one rebuilds
pub record RebuiltIs (l : Link) (z : Kept) (is_missing : Bool) (range_part : ℕ → RangePart)
    (key_part : ℕ → KeyPart) : Type 0 where
  pub missing : z.missing ≡ is_missing
  pub new : (q : ℕ) → (z.new_range q ≡ range_part q) × (z.new_key q ≡ key_part q)
  pub gone : (IsHere l z → ⊥) → IsBlankRow l

-- the server s is the old one of its epoch. Of one below the bound there are only counts
pub record ShowsOld (s : Server) (f : Fenced) : Type 0 where
  pub old : s.durable.epoch < f.world.shared.epoch
  pub copy : f.copy s.durable.epoch ≡ map.get s.durable.index
  pub link : (c : ℕ) →
      CountsAre s.durable.epoch (record_of s.durable.register c) (s.sessions c) (f.world.links c)
      (f.old s.durable.epoch c)
  pub heard : (n : ℕ) (u : Waiter) → In u (s.rows n).queue →
      IsHeardBy s.durable.epoch (f.world.links u.client) (f.old s.durable.epoch u.client)
  -- the latest that ever served
  pub serves : s.durable.epoch ≡ f.bound → is_recovering s.missing ≡ false
  pub rows : s.durable.epoch ≡ f.bound → (c : ℕ) →
      BoundIs (f.world.links c) (f.old s.durable.epoch c) (range_at s.durable.index s.rows c)
      (key_at s.durable.index s.rows c)
  -- a later one, which waits for reports
  pub recovers : f.bound < s.durable.epoch → is_recovering s.missing ≡ true
  pub rebuilds : f.bound < s.durable.epoch → (c : ℕ) →
      RebuiltIs (f.world.links c) (f.old s.durable.epoch c) (lists s.missing c)
      (range_at s.durable.index s.rows c) (key_at s.durable.index s.rows c)
