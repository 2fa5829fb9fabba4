-- How a client, and the messages of its number, show in a link of the machine.
use Rattle.std.specs.Prelude.{◌≡◌, ◌≢◌, ℕ, ◌≤◌, ◌⊎◌, Bool, true, false, Option, Some, None, List, [], ◌∷◌}
use Rattle.krl_modes.specs.declared.point.TheConstants.{END}
use Rattle.krl_modes.specs.declared.part.RangePart.{RangePart}
use Rattle.krl_modes.specs.declared.part.KeyPart.{KeyPart}
use Rattle.krl_messages.specs.declared.holding.Holding.{Holding}
use Rattle.krl_messages.specs.declared.write_op.WriteOp.{WriteOp}
use Rattle.krl_messages.specs.declared.to_server.ToServer.{ToServer}
use Rattle.krl_messages.specs.declared.to_server.ToServerBody.{ToServerBody}
use Rattle.krl_messages.specs.declared.to_server.ToServerBody.TheVariants as said
use Rattle.krl_messages.specs.declared.to_client.ToClientBody.{ToClientBody}
use Rattle.krl_messages.specs.declared.to_client.ToClientBody.TheVariants as told
use Rattle.krl_messages.specs.declared.to_client.PushBody.{PushBody}
use Rattle.krl_messages.specs.declared.to_client.PushBody.TheVariants as push
use Rattle.krl_messages.specs.Members.{In}
use Rattle.krl_messages.specs.Writes.{is_applied}
use Rattle.krl_machine.specs.Links
use Rattle.krl_machine.specs.Links.{Op, Link, Shared, LinkSteps, Head}
use Rattle.krl_machine.specs.Holdings.{said_by}
use Rattle.krl_machine.specs.Worlds.{row_of}
use Rattle.krl_table.specs.Reports.{joined_range_at, greatest_key_at}
use Rattle.krl_cache.specs.Kept.{Describes}
use Rattle.krl_client.specs.Clients.{Client, outstanding}
use Rattle.krl_refinement.specs.Messages.{op_of, Stands, WasSent}

-- the machine's outstanding write
abbrev pub op_shown : Option WriteOp → Option Op
op_shown None = None
op_shown (Some change) = Some (op_of change)

-- Messages

-- the message from this incarnation stands in the link, and the pieces of a report are in order and merged
abbrev pub IsFrom : Link → ℕ → ToServerBody → Type 0
IsFrom l incarnation said.Hello = Stands l incarnation said.Hello
IsFrom l incarnation said.Bye = Stands l incarnation said.Bye
IsFrom l incarnation (said.Report epoch ps) =
    Stands l incarnation (said.Report epoch ps)
    × Describes ps (record {
      range_at = joined_range_at ps.ranges;
      key_at = greatest_key_at ps.keys;
      value_at = λ p. None;
    })
IsFrom l incarnation (said.Request r) = Stands l incarnation (said.Request r)

-- the machine's push states what these holdings state
abbrev pub Says : List Holding → Links.Push → Type 0
Says hs p = (q : ℕ) → p.says q ≡ said_by hs q

abbrev pub Tells : PushBody → Links.Push → Type 0
Tells (push.Grant req hs) p = (p.answers ≡ 0) × Says hs p
Tells (push.Absent req point) p = (p.answers ≡ 0) × Says [] p
Tells (push.Answer number o h) p = (p.answers ≡ number) × Says (h ∷ []) p × (p.applied ≡ is_applied o) × (1 ≤ number)

-- the message to this incarnation stands in the link. Of a push the client asks less than the server states by WasSent
abbrev pub IsTo : Link → ℕ → ToClientBody → Type 0
IsTo l incarnation (told.Epoch epoch) = WasSent l incarnation (told.Epoch epoch)
IsTo l incarnation (told.Push epoch number what) =
    (p : Links.Push) × In p l.pushes × (p.inc ≡ incarnation) × (p.epoch ≡ epoch) × (p.number ≡ number) × (1 ≤ epoch)
    × Tells what p
IsTo l incarnation (told.Callback epoch s keep) = WasSent l incarnation (told.Callback epoch s keep)

-- Clients

-- what the machine keeps of a client that runs
pub record ShowsClient (c : ℕ) (k : Client) (a : Links.Client) : Type 0 where
  pub number : k.number ≡ c
  pub up : a.up ≡ true
  pub inc : a.inc ≡ k.incarnation
  pub epoch : a.epoch ≡ k.epoch
  pub seen : a.seen ≡ k.seen
  pub issued : a.issued ≡ k.writes
  pub out : a.out ≡ op_shown (outstanding k.written)
  pub numbered : (1 ≤ k.writes) ⊎ (outstanding k.written ≡ None)
  pub range : (p : ℕ) → k.belief.range_at p ≡ a.range p
  pub key : (p : ℕ) → k.belief.key_at p ≡ a.key p
  pub value : (p : ℕ) → p ≢ END → k.belief.value_at p ≡ row_of (a.key p) (a.value p)
  pub at_end : k.belief.value_at END ≡ None

-- a client of this greatest incarnation, up or down
abbrev pub ShowsPlace : ℕ → ℕ → Option Client → Link → Type 0
ShowsPlace c greatest None l = (l.inc ≡ greatest) × (l.up ≡ false)
ShowsPlace c greatest (Some k) l = (l.inc ≡ greatest) × ShowsClient c k l.client

-- Steps

-- no message goes
pub record Grows (l m : Link) : Type 0 where
  pub hellos : (x : ℕ) → In x l.hellos → In x m.hellos
  pub byes : (x : ℕ) → In x l.byes → In x m.byes
  pub heads : (x : Head) → In x l.heads → In x m.heads
  pub releases : (x : Links.Release) → In x l.releases → In x m.releases
  pub writes : (x : Links.Write) → In x l.writes → In x m.writes
  pub reports : (x : Links.Report) → In x l.reports → In x m.reports
  pub notices : (x : Links.Notice) → In x l.notices → In x m.notices
  pub pushes : (x : Links.Push) → In x l.pushes → In x m.pushes

-- what the server keeps of a client's number
pub record ServerPart : Type 0 where
  pub reg : ℕ
  pub left : Bool
  pub done : ℕ
  pub applied : Bool
  pub wrote : List Links.Wrote
  pub missing : Bool
  pub last_push : ℕ
  pub acked : Bool
  pub new_range : ℕ → RangePart
  pub new_key : ℕ → KeyPart
  pub top_range : ℕ → RangePart
  pub top_key : ℕ → KeyPart

abbrev pub server_part : Link → ServerPart
server_part l = record {
  reg = l.reg;
  left = l.left;
  done = l.done;
  applied = l.applied;
  wrote = l.wrote;
  missing = l.missing;
  last_push = l.last_push;
  acked = l.acked;
  new_range = l.new_range;
  new_key = l.new_key;
  top_range = l.top_range;
  top_key = l.top_key;
}

-- some steps of the link of c lead to one that shows this place and holds these messages, and the server's part stays
pub record Leads (s : Shared) (l : Link) (c greatest : ℕ) (k : Option Client) (ms : List ToServer) : Type 0 where
  pub link : Link
  pub steps : LinkSteps s l link
  pub grows : Grows l link
  pub place : ShowsPlace c greatest k link
  pub told : (m : ToServer) → In m ms → IsFrom link m.incarnation m.body
  pub mine : (m : ToServer) → In m ms → m.client ≡ c
  pub same : server_part link ≡ server_part l
