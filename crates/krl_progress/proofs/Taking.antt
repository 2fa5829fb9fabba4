-- A lock request is taken within two rounds in which its client has accepted every push: a tick repeats it, and the
-- server hears it.
use Rattle.krl_progress.proofs.Names.{◌≡◌, ℕ, suc, ◌≤◌, ◌∙◌, true, false, not, ◌&&◌, Some, is_some, length, refl, sym, ap, subst, arith, nat_eq, if◌then◌else◌, eq-eqb}
use Rattle.krl_progress.proofs.Names.{ToServer, Client, Server, is_recovering, Step, Answer, Up, State, message_at, Delivers, ServerReads, Takes, IsReachable, Waits, Acknowledges, case_of, effect, acknowledged, following}
use Rattle.krl_modes.specs.declared.mode.Mode.{Mode}
use Rattle.krl_modes.proofs.Basics.{not_both}
use Rattle.krl_messages.specs.declared.to_server.RequestBody.TheVariants as asked
use Rattle.krl_table.specs.Rows.{waits}
use Rattle.krl_server.specs.declared.session.Session.{Session}
use Rattle.krl_server.specs.Cases.{case_of_lock, has_points}
use Rattle.krl_server.proofs.Updates.{session_here}
use Rattle.krl_client.specs.Clients.{is_waiting}
use Rattle.krl_steps.specs.declared.step.Step.TheVariants as step
use Rattle.krl_progress.specs.Rounds.{loses_a_node}
use Rattle.krl_progress.specs.Blocks.{HasSeen, RoundsWhile}
use Rattle.krl_progress.proofs.Standings.{standing}
use Rattle.krl_progress.proofs.Recovers.{same_up, At, at_kept, within, again as at_again}
use Rattle.krl_progress.proofs.CallsBack.{in_order}
use Rattle.krl_progress.proofs.Arrivals.{request_from}
use Rattle.krl_progress.proofs.Knowing as know
use Rattle.krl_progress.proofs.Knowing.{Asks}
use Rattle.krl_progress.proofs.Agreed.{agrees, waits_not}
use Rattle.krl_progress.proofs.Reaching.{Reaches, reach_of}
use Rattle.krl_progress.proofs.Seen.{Sent, sent_still, still, heard_now}
use Rattle.krl_progress.proofs.Whiles.{hit}
use Rattle.krl_progress.proofs.Repeating.{lock_said, waiting_says}
use Rattle.krl_progress.proofs.Standstill.{ends_after}

-- the server has yet to take the client's lock request of this number, and the client has accepted every push
pub record IsUntaken (c seen req : ℕ) (u : State) : Type 0 where
  pub server : Server
  pub up : u.server ≡ Up server
  pub serves : is_recovering server.missing ≡ false
  pub has : HasSeen u server c seen
  pub waiting : is_waiting has.client.asked ≡ true
  pub number : has.client.req ≡ req
  pub late : req ≡ suc (server.sessions c).last_request

module _ (c seen req inc epoch : ℕ) (some : 1 ≤ epoch) (n : ℕ) where
  record Along (u : State) : Type 0 where
    untaken : IsUntaken c seen req u
    at : At c inc epoch n u

  along : (u v : State) (s : Step) (answer : Answer) → loses_a_node s ≡ false → Along u → IsUntaken c seen req v → Takes u s answer v → Along v
  along u v s answer safe h g t = record { untaken = g; at = at_kept c inc epoch n u v s answer safe h.at t }

  -- the client has sent it again
  record Repeated (u : State) : Type 0 where
    point : ℕ
    hi : ℕ
    mode : Mode
    reach : has_points point hi ≡ true
    sent : Sent n (lock_said c inc epoch seen some n req point hi mode) u

  repeated_still : (u v : State) (s : Step) (answer : Answer) → Repeated u → Takes u s answer v → Repeated v
  repeated_still u v s answer h t = record { point = h.point; hi = h.hi; mode = h.mode; reach = h.reach; sent = sent_still n (lock_said c inc epoch seen some n req h.point h.hi h.mode) u v s answer h.sent t }

  hit_tick : (u v : State) (answer : Answer) → Along u → Takes u (step.Tick c) answer v → Repeated v
  hit_tick u v answer h t =
      let a = h.untaken in
      let x = waiting_says c inc epoch seen some n u v answer a.server h.at a.up a.has a.waiting t in
      let y = x.said in record {
        point = y.point;
        hi = y.hi;
        mode = y.mode;
        reach = subst Reaches x.is (reach_of u h.at.reachable c a.has.client a.has.runs);
        sent = subst (λ z. Sent n (lock_said c inc epoch seen some n z y.point y.hi y.mode) v) (x.number ∙ a.number) y.sent;
      }

  hit_lock : (point hi : ℕ) (g : Mode) → has_points point hi ≡ true → (i : ℕ) (u v : State) (answer : Answer) → Along u → Along v → message_at u.sent i ≡ Some (lock_said c inc epoch seen some n req point hi g) → Takes u (step.Deliver i) answer v → ⊥
  hit_lock point hi g reach i u v answer h after sent t = let late = after.untaken.late in omega (arith, late, new)
    where
      s : Server
      s = h.untaken.server

      m : ToServer
      m = request_from c inc epoch seen (asked.Lock req point hi g)

      k : Client
      k = h.untaken.has.client

      d : ServerReads u (Up s) m v
      d = subst (λ y. ServerReads u y m v) h.untaken.up (subst (λ o. Delivers u o v) sent t.1.1)

      same : d.0 ≡ after.untaken.server
      same = same_up d.0 after.untaken.server (sym (ap (λ (y : State). y.server) d.3) ∙ after.untaken.up)

      away : waits s.durable.index s.rows c ≡ false
      away = by_request (((agrees u h.at.reachable).knows s c k h.untaken.up h.untaken.has.runs).now h.untaken.has.epoch).request
        where
          by_request : Asks (s.sessions c) s.rows c k → waits s.durable.index s.rows c ≡ false
          by_request (know.idle f r a q) = absurd (not_both (is_waiting k.asked) h.untaken.waiting f)
          by_request (know.untaken f r a q) = waits_not s c (in_order u s h.at.reachable h.untaken.up).1.table a
          by_request (know.stands f r w y all q) = absurd (let x = h.untaken.number in let z = h.untaken.late in omega (arith, r, x, z))
          by_request (know.comes f r a b e l y) = absurd (let x = h.untaken.number in let z = h.untaken.late in omega (arith, r, x, z))

      new_number : nat_eq req (suc (s.sessions c).last_request) ≡ true
      new_number = eq-eqb req (suc (s.sessions c).last_request) h.untaken.late

      takes : case_of_lock s c req point hi g ≡ Waits req point hi g
      takes j = if new_number j && (not (away j) && reach j) then Waits req point hi g else Acknowledges

      case : case_of s m ≡ Waits req point hi g
      case = (heard_now epoch some n u s c inc seen h.at h.untaken.up h.untaken.has (asked.Lock req point hi g) h.untaken.serves).1 ∙ takes

      taken : ((effect s m (case_of s m)).server.sessions c).last_request ≡ req
      taken = ap (λ x. ((effect s m x).server.sessions c).last_request) case ∙ ap (λ (z : Session). z.last_request) (session_here (acknowledged s c).sessions c (record ((acknowledged s c).sessions c) { last_request = req }))

      new : (after.untaken.server.sessions c).last_request ≡ req
      new = ap (λ (y : Server). (y.sessions c).last_request) (sym same) ∙ (ends_after (effect s m (case_of s m)) (following (case_of s m)) d.0 d.1 d.2).requests c ∙ taken

pub taken_in_two : (c seen req : ℕ) (w v : State) → IsReachable w → IsUntaken c seen req w → RoundsWhile (IsUntaken c seen req) 2 (length w.sent) w v → ⊥
taken_in_two c seen req w v rw h r1 =
    let k = h.has.client in
    let epoch = h.server.durable.epoch in
    let some = (standing w h.server c k rw h.up h.has.runs).begun in
    let n1 = length w.sent in
    let start : Along c seen req k.incarnation epoch some n1 w = record { untaken = h; at = record { reachable = rw; server = h.server; up = h.up; now = refl; client = k; runs = h.has.runs; same = refl; long = omega arith } } in
    let f1 = hit (IsUntaken c seen req) (Along c seen req k.incarnation epoch some n1) (along c seen req k.incarnation epoch some n1) (λ u. Unit {0}) (Repeated c seen req k.incarnation epoch some n1) (step.Tick c)
    (λ u x s a g after e t. tt) (λ u x s a g after e t. repeated_still c seen req k.incarnation epoch some n1 u x s a e t)
    (λ u x a g after e t. hit_tick c seen req k.incarnation epoch some n1 u x a g t)
    r1.0 w r1.1 r1.2.stays (r1.2.ticked c (ap is_some h.has.runs)) start tt r1.3 r1.4 in
    let r2 = r1.5 in
    let n2 = length r1.1.sent in
    let x = f1.1 in
    let said = lock_said c k.incarnation epoch seen some n1 req x.point x.hi x.mode in
    let now : Along c seen req k.incarnation epoch some n2 r1.1 = record { untaken = f1.0.untaken; at = at_again c k.incarnation epoch n1 r1.1 f1.0.at } in
    let hand = r2.2.handed x.sent.index x.sent.above (within r1.1.sent x.sent.index said x.sent.sent) in
    let sent : message_at r1.1.sent hand.copy ≡ Some said = hand.same ∙ x.sent.sent in
    let f2 = hit (IsUntaken c seen req) (Along c seen req k.incarnation epoch some n2) (along c seen req k.incarnation epoch some n2) (λ u. message_at u.sent hand.copy ≡ Some said) (λ u. ⊥) (step.Deliver hand.copy)
    (λ u y s a g after e t. still hand.copy said u y s a e t) (λ u y s a g after e t. e)
    (λ u y a g after e t. hit_lock c seen req k.incarnation epoch some n2 x.point x.hi x.mode x.reach hand.copy u y a g after e t)
    r2.0 r1.1 r2.1 r2.2.stays hand.delivers now sent r2.3 r2.4 in
    f2.1
