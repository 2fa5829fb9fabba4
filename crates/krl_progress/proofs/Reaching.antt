-- Each client that waits for a lock asks for some points.
use Rattle.krl_progress.proofs.Names.{◌≡◌, ℕ, true, ◌&&◌, Some, None, List, sym, subst, nat_eq}
use Rattle.krl_progress.proofs.Names.{ToServer, Client, Durable, State, client_of, opened, IsReachable}
use Rattle.krl_world.proofs.Reaching.{by_reaching}
use Rattle.krl_messages.specs.declared.to_client.PushBody.{PushBody}
use Rattle.krl_messages.specs.declared.to_client.PushBody.TheVariants as push
use Rattle.krl_client.specs.Clients.{is_waiting, LockRequest, NotAsked, Granted, Absent, Dropped, Waiting}
use Rattle.krl_client.specs.Messages.{accepted, request_dropped}
use Rattle.krl_server.specs.Cases.{has_points}
use Rattle.krl_server.proofs.Tests.{if_both}
use Rattle.krl_progress.proofs.Moves.{some_is}
use Rattle.krl_progress.proofs.Doings.{Goes, same, locks, adopts, accepts, Does, rests, goes, starts, ends, reads, nudges, stops, begins, does}
use Rattle.krl_progress.proofs.Agreed.{by_place, new_place}

abbrev pub Reaches : LockRequest → Type 0
Reaches NotAsked = Unit {0}
Reaches Granted = Unit {0}
Reaches Absent = Unit {0}
Reaches Dropped = Unit {0}
Reaches (Waiting point hi g) = has_points point hi ≡ true

abbrev AllReach : State → Type 0
AllReach u = (c : ℕ) (k : Client) → client_of u c ≡ Some k → Reaches k.asked

dropped_reaches : (a : LockRequest) → Reaches (request_dropped a)
dropped_reaches NotAsked = tt
dropped_reaches Granted = tt
dropped_reaches Absent = tt
dropped_reaches Dropped = tt
dropped_reaches (Waiting point hi g) = tt

accepted_reaches : (k : Client) (b : PushBody) → Reaches k.asked → Reaches (accepted k b).asked
accepted_reaches k (push.Grant req hs) h = if_both Reaches (is_waiting k.asked && nat_eq req k.req) Granted k.asked tt h
accepted_reaches k (push.Absent req point) h = if_both Reaches (is_waiting k.asked && nat_eq req k.req) Absent k.asked tt h
accepted_reaches k (push.Answer number o y) h = h

goes_reaches : (u : State) (d : ℕ) (k l : Client) (ms : List ToServer) → Goes u d k l ms → Reaches k.asked → Reaches l.asked
goes_reaches u d k _ _ (same l ms inc epoch seen req asked most) h = subst Reaches (sym asked) h
goes_reaches u d k _ _ (locks point hi g free reach) h = reach
goes_reaches u d k _ _ (adopts e ms m at own inc is lt most) h = dropped_reaches k.asked
goes_reaches u d k _ _ (accepts b ms m at own inc is most) h = accepted_reaches k b h

does_reach : (u v : State) → Does u v → AllReach u → AllReach v
does_reach u _ rests h = h
does_reach u _ (goes d k l ms i g x) h = λ c k1. by_place u d _ c k1 (Reaches k1.asked)
    (λ e f. subst (λ (y : Client). Reaches y.asked) (some_is l k1 f) (goes_reaches u d k l ms g (h d k i)))
    (λ ne f. h c k1 f)
does_reach u _ (starts d down) h = λ c k1. by_place u d (new_place u d) c k1 (Reaches k1.asked)
    (λ e f. subst (λ (y : Client). Reaches y.asked) (some_is _ k1 f) tt)
    (λ ne f. h c k1 f)
does_reach u _ (ends d number ms most silent) h = λ c k1. by_place u d _ c k1 (Reaches k1.asked) (λ e f. absurd (let bad : None ≡ Some k1 = f in cc)) (λ ne f. h c k1 f)
does_reach u _ (reads old new m outs writes up at step) h = h
does_reach u _ (nudges s c up) h = h
does_reach u _ (stops s up) h = h
does_reach u _ (begins d up) h = h

opened_reach : (d : Durable) → AllReach (opened d)
unfolding opened
opened_reach d c k e = absurd (cc)

pub reach_of : (u : State) → IsReachable u → AllReach u
reach_of = by_reaching AllReach (λ d h. opened_reach d) (λ w v s answer r h t. does_reach w v (does w v s answer t) h) (λ w d l r h e fits. h)
