-- A run over a cut, in which a client wrote before it and is answered after it.
use Rattle.std.specs.Prelude.{◌≡◌, true, Some, None, []}
use Rattle.krl_messages.specs.Values.{Value}
use Rattle.krl_messages.specs.Members.{In}
use Rattle.krl_machine.specs.Links.{Down, Insert, Push}
use Rattle.krl_machine.specs.Worlds.{World, Steps, IsListed}
use Rattle.krl_split.specs.Parts.{part, Parted}

-- The laws on writes are not empty. Somewhere client 0 has inserted the key 5, and its server crashed before it
-- answered. The part of the key has the row and the applied write, and the part next to it has neither. The server of
-- the part comes to tell the client that its write was Applied
pub record AnsweredSomewhere : Type 0 where
  pub whole : World
  pub is_whole : Parted 9 (λ q. None) 0 10 whole
  pub is_down : whole.shared.phase ≡ Down
  pub value : Value
  pub outstanding : (whole.links 0).client.out ≡ Some (Insert 5 value)
  pub unanswered : (whole.links 0).pushes ≡ []
  pub row : (part 3 7 whole).shared.index 5 ≡ Some value
  pub listed : IsListed (part 3 7 whole) 0 1 1
  pub no_row : (part 7 10 whole).shared.index 5 ≡ None
  pub not_listed : (part 7 10 whole).log ≡ []
  pub after : World
  pub steps : Steps (part 3 7 whole) after
  pub push : Push
  pub sent : In push (after.links 0).pushes
  pub answers : push.answers ≡ 1
  pub applied : push.applied ≡ true
  pub told : (after.links 0).client.out ≡ None
