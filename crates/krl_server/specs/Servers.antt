-- What a server is made of.
use Rattle.std.specs.Prelude.{ℕ, Bool, true, false, not, nat_eq, List, [], ◌∷◌, Option, None, Some, if◌then◌else◌}
use Rattle.std.specs.List.{list_any, filter}
use Rattle.krl_durable.specs.declared.record.Record.{Record}
use Rattle.krl_durable.specs.Registers.{Durable, record_of}
use Rattle.krl_table.specs.Rows.{Rows}
use Rattle.krl_server.specs.declared.session.Session.{Session}

-- a server that runs
pub record Server : Type 0 where
  pub durable : Durable
  pub rows : Rows
  pub sessions : ℕ → Session  -- by client
  -- those that were registered at the start, and have since neither reported, nor registered again, nor left
  pub missing : List ℕ

-- the session of a client to which nothing was pushed in this epoch
abbrev pub blank_session : Session
blank_session = record { last_push = 0; unacked = None; last_request = 0 }

-- someone is missing
abbrev pub is_recovering : List ℕ → Bool
is_recovering [] = false
is_recovering (c ∷ cs) = true

-- the client stands in the list
abbrev pub lists : List ℕ → ℕ → Bool
lists clients c = list_any (λ d. nat_eq c d) clients

-- the list without the client
abbrev pub unlist : List ℕ → ℕ → List ℕ
unlist clients c = filter (λ d. not (nat_eq c d)) clients

-- the sessions with another one of this client
abbrev pub set_session : (ℕ → Session) → ℕ → Session → ℕ → Session
set_session sessions c session d = if nat_eq d c then session else sessions d

-- the incarnation of a record, or 0
abbrev pub incarnation_or_0 : Option Record → ℕ
incarnation_or_0 None = 0
incarnation_or_0 (Some r) = r.incarnation

-- the client's registered incarnation, or 0
abbrev pub incarnation_of : Server → ℕ → ℕ
incarnation_of s c = incarnation_or_0 (record_of s.durable.register c)
