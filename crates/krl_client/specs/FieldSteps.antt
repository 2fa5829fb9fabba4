-- What calls make of the fields of a client, and what they send.
use Rattle.std.specs.Prelude.{◌≡◌, ℕ, Bool, Option, None, Some, List, [], ◌∷◌, if◌then◌else◌, nat_eq}
use Rattle.krl_messages.specs.declared.outcome.Outcome.{Outcome}
use Rattle.krl_messages.specs.declared.pieces.Pieces.{Pieces}
use Rattle.krl_messages.specs.declared.to_server.ToServer.{ToServer}
use Rattle.krl_messages.specs.declared.to_server.ToServerBody.TheVariants as said
use Rattle.krl_cache.specs.Kept.{Describes}
use Rattle.krl_client.specs.declared.refused.CommandRefused.{CommandRefused}
use Rattle.krl_client.specs.declared.refused.CommandRefused.TheVariants.{OutOfMemory}
use Rattle.krl_client.specs.Clients.{Client, LastWrite, Unwritten, Outstanding, Judged, from}
use Rattle.krl_client.specs.Messages.{ClientCase, after, sends, says_report, says_ack}
use Rattle.krl_client.specs.Ticks.{tick}

-- the last write after an answer, which may be to an older one
abbrev pub judged_where : Bool → Outcome → LastWrite → LastWrite
judged_where is_to_it outcome Unwritten = Unwritten
judged_where is_to_it outcome (Outstanding change) =
    if is_to_it then Judged outcome else Outstanding change
judged_where is_to_it outcome (Judged old) = Judged old

-- the refusal is the one that is due, or, if none is due, want of memory
abbrev pub IsDue : Option CommandRefused → CommandRefused → Type 0
IsDue None r = r ≡ OutOfMemory
IsDue (Some due) r = r ≡ due

-- a Report of pieces that state what is believed
pub record IsReport (k : Client) (epoch : ℕ) (m : ToServer) : Type 0 where
  pub pieces : Pieces
  pub described : Describes pieces k.belief
  pub message : m ≡ from k (said.Report epoch pieces)

abbrev pub as_list : {A : Type 0} → Option A → List A
as_list None = []
as_list (Some a) = a ∷ []

-- what a client that has joined sends first in a tick
pub record IsOpening (k : Client) (m : ToServer) : Type 0 where
  pub pieces : Pieces
  pub described : Describes pieces k.belief
  pub message : m ≡ (if nat_eq k.seen 0 then says_report pieces k else says_ack k)

-- what a tick sends, if the pieces state what is believed
pub record IsTick (k : Client) (list : List ToServer) : Type 0 where
  pub pieces : Pieces
  pub described : Describes pieces k.belief
  pub says : list ≡ tick pieces k

-- the client after a message of this case, and what it sends, if the pieces state what is believed
pub record Follows (k : Client) (x : ClientCase) (next : Client) (list : List ToServer) : Type 0 where
  pub client : next ≡ after k x
  pub pieces : Pieces
  pub described : Describes pieces k.belief
  pub says : list ≡ sends pieces k x
