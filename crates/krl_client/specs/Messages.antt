-- What a client does with a message: which case it meets, what each case leaves, and what it sends.
use Rattle.std.specs.Prelude.{ℕ, suc, Bool, true, ◌&&◌, ◌||◌, not, List, [], ◌∷◌, if◌then◌else◌, nat_eq, nat_lt, nat_le}
use Rattle.krl_modes.specs.declared.point.TheConstants.{END}
use Rattle.krl_modes.specs.declared.mode.Mode.{Mode}
use Rattle.krl_modes.specs.Spans.{Bounds}
use Rattle.krl_messages.specs.declared.outcome.Outcome.{Outcome}
use Rattle.krl_messages.specs.declared.pieces.Pieces.{Pieces}
use Rattle.krl_messages.specs.declared.to_server.ToServer.{ToServer}
use Rattle.krl_messages.specs.declared.to_server.RequestBody.TheVariants as asked
use Rattle.krl_messages.specs.declared.to_server.ToServerBody.TheVariants as said
use Rattle.krl_messages.specs.declared.to_client.ToClient.{ToClient}
use Rattle.krl_messages.specs.declared.to_client.ToClientBody.{ToClientBody}
use Rattle.krl_messages.specs.declared.to_client.ToClientBody.TheVariants as told
use Rattle.krl_messages.specs.declared.to_client.PushBody.{PushBody}
use Rattle.krl_messages.specs.declared.to_client.PushBody.TheVariants as push
use Rattle.krl_messages.specs.Holdings.{has_its_value, have_values}
use Rattle.krl_cache.specs.Beliefs.{adopt, adopt_all}
use Rattle.krl_client.specs.Clients.{Client, LockRequest, NotAsked, Granted, Absent, Dropped, Waiting, LastWrite, Unwritten, Outstanding, Judged, is_waiting, is_writing_in, meets_pin, from, requests}
use Rattle.krl_client.specs.Commands.{belief_lowered, says_release}

-- what a message comes to
pub data ClientCase : Type 0 where
  Ignores AcksAgain : ClientCase
  Adopts : (epoch : ℕ) → ClientCase
  Accepts : (what : PushBody) → ClientCase
  Lowers : (span : Bounds) (keep : Mode) → ClientCase

-- each holding of a push has its value by the rule
abbrev pub fits : PushBody → Bool
fits (push.Grant req hs) = have_values hs
fits (push.Absent req point) = true
fits (push.Answer number outcome h) = has_its_value h

-- the case of a message to this incarnation
abbrev pub client_case_of_body : Client → ToClientBody → ClientCase
client_case_of_body k (told.Epoch epoch) = if nat_lt k.epoch epoch then Adopts epoch else Ignores
client_case_of_body k (told.Push epoch number what) =
    if nat_eq epoch k.epoch && fits what
    then (
    if nat_eq number (suc k.seen) && nat_le number END
    then Accepts what
    else (if nat_eq number k.seen then AcksAgain else Ignores)
    )
    else Ignores
client_case_of_body k (told.Callback epoch s keep) =
    if nat_eq epoch k.epoch && not (is_writing_in k s || meets_pin k s)
    then Lowers s keep
    else Ignores

-- a message of another client or incarnation is ignored
abbrev pub client_case_of : Client → ToClient → ClientCase
client_case_of k m =
    if nat_eq m.client k.number && nat_eq m.incarnation k.incarnation
    then client_case_of_body k m.body
    else Ignores

-- What a push makes of the client

-- the waiting request after a reply to the request of that number
abbrev pub asked_after : Client → ℕ → LockRequest → LockRequest → LockRequest
asked_after k req now reply = if is_waiting now && nat_eq req k.req then reply else now

-- the last write after an answer to the write of that number
abbrev pub judged_as : Client → ℕ → Outcome → LastWrite → LastWrite
judged_as k number outcome (Outstanding change) =
    if nat_eq number k.writes then Judged outcome else Outstanding change
judged_as k number outcome other = other

-- the client after a push that it accepts
abbrev pub accepted : Client → PushBody → Client
accepted k (push.Grant req hs) = record k {
  seen = suc k.seen;
  asked = asked_after k req k.asked Granted;
  belief = adopt_all hs k.belief;
}
accepted k (push.Absent req point) = record k {
  seen = suc k.seen;
  asked = asked_after k req k.asked Absent;
}
accepted k (push.Answer number outcome h) = record k {
  seen = suc k.seen;
  written = judged_as k number outcome k.written;
  belief = adopt h k.belief;
}

-- What an epoch makes of it

-- a waiting request is dropped
abbrev pub request_dropped : LockRequest → LockRequest
request_dropped (Waiting point hi mode) = Dropped
request_dropped other = other

-- the outstanding write, the cache and the pins stay
abbrev pub joined : Client → ℕ → Client
joined k epoch = record k { epoch = epoch; seen = 0; req = 0; asked = request_dropped k.asked }

-- Each case

-- its report of these pieces
abbrev pub says_report : Pieces → Client → ToServer
says_report ps k = from k (said.Report k.epoch ps)

-- it has accepted all pushes so far
abbrev pub says_ack : Client → ToServer
says_ack k = requests k asked.Ack

-- the client after a message of this case
abbrev pub after : Client → ClientCase → Client
after k (Adopts epoch) = joined k epoch
after k (Accepts what) = accepted k what
after k (Lowers s keep) = belief_lowered k s keep
after k other = k

-- and what it sends, if ps are its pieces
abbrev pub sends : Pieces → Client → ClientCase → List ToServer
sends ps k Ignores = []
sends ps k AcksAgain = says_ack k ∷ []
sends ps k (Adopts epoch) = says_report ps (joined k epoch) ∷ []
sends ps k (Accepts what) = says_ack (accepted k what) ∷ []
sends ps k (Lowers s keep) = says_release k s keep ∷ []
