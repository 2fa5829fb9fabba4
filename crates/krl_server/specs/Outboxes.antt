-- Messages on their way out.
use Rattle.std.specs.Prelude.{◌≡◌, ℕ, ◌≤◌, List, [], ◌∷◌, ◌++◌, Option, Some, None}
use Rattle.krl_messages.specs.declared.to_client.ToClient.{ToClient}
use Rattle.krl_messages.specs.declared.to_client.PushBody.{PushBody}
use Rattle.krl_server.specs.Servers.{Server}
use Rattle.krl_server.specs.Effects.{push_to}

-- what is to be sent, in order, and how many there is room for
pub record Sent : Type 0 where
  pub sent : List ToClient
  pub room : ℕ

-- a message, or none
abbrev pub as_list : Option ToClient → List ToClient
as_list None = []
as_list (Some o) = o ∷ []

-- these are sent after all others, and there is no less room
pub record Sends (old new : Sent) (outs : List ToClient) : Type 0 where
  pub sent : new.sent ≡ old.sent ++ outs
  pub room : old.room ≤ new.room

-- the push that is not acknowledged, again
abbrev pub pushed_again : Server → ℕ → Option PushBody → List ToClient
pushed_again s c None = []
pushed_again s c (Some body) = push_to s c (s.sessions c).last_push body ∷ []
