-- The host of a server: what it has to write down, and what waits until that is done.
use Rattle.std.specs.Prelude.{ℕ, ◌+◌, Option, Some, None, List, [], ◌∷◌, ◌++◌, length}
use Rattle.krl_messages.specs.declared.to_client.ToClient.{ToClient}
use Rattle.krl_messages.specs.Members.{In}
use Rattle.krl_durable.specs.declared.change.Change.{Change}
use Rattle.krl_durable.specs.Changes.{changed}
use Rattle.krl_durable.specs.declared.limits.Limits.{Limits}
use Rattle.krl_durable.specs.Registers.{Durable}
use Rattle.krl_durable.specs.Limits.{sized}
use Rattle.krl_server.specs.Servers.{Server}
use Rattle.krl_server.specs.Replays.{raised}

-- What is written down

-- a host writes down that a server has started, with these limits, and what each step has changed
pub data Note : Type 0 where
  Started : Limits → Note
  Changed : Change → Note

abbrev pub noted : Note → Durable → Durable
noted (Started l) d = raised (sized l d)
noted (Changed x) d = changed x d

-- what the notes make of what is on the disk, the oldest first
abbrev pub all_noted : List Note → Durable → Durable
all_noted [] d = d
all_noted (x ∷ xs) d = all_noted xs (noted x d)

-- what a step changed, as notes: one, or none
abbrev pub notes_of : Option Change → List Note
notes_of None = []
notes_of (Some x) = Changed x ∷ []

-- The server's host

-- what the server has produced and the host has not yet sent: so many notes of this start have to be on the disk first
pub record Said : Type 0 where
  pub after : ℕ
  pub message : ToClient

abbrev pub said_after : ℕ → List ToClient → List Said
said_after n [] = []
said_after n (m ∷ ms) = record { after = n; message = m } ∷ said_after n ms

-- a host whose server runs
pub record Host : Type 0 where
  pub memory : Server  -- as it is after all its steps
  pub kept : ℕ  -- so many notes of this start are on the disk
  pub unkept : List Note  -- these are not, the oldest first
  pub unsent : List Said

-- the server has taken a step: it is this one now, with these notes of the step, and has produced these messages
abbrev pub stepped : Host → Server → List Note → List ToClient → Host
stepped h t notes said =
    let unkept = h.unkept ++ notes in
    record {
      memory = t;
      kept = h.kept;
      unkept = unkept;
      unsent = h.unsent ++ said_after (h.kept + length unkept) said;
    }

-- each of the first is one of the second: the rest is lost
abbrev pub AreAmong : {A : Type 0} → List A → List A → Type 0
AreAmong {A} xs ys = (x : A) → In x xs → In x ys
