-- What the messages of a reachable world show of a client that runs, and of the server.
use Rattle.krl_progress.proofs.Names.{◌≡◌, ℕ, ◌≤◌, ◌∙◌, Option, Some, None, refl, sym, subst, arith, END, all_follow, In}
use Rattle.krl_progress.proofs.Names.{ToServer, ToClient, Client, Link, Up, Down, State, ServerPlace, client_of, IsReachable, Server, durable_of, record_of, IsRecord, view, ShowsClient, ShowsPlace, Stands, WasSent, push_of}
use Rattle.krl_messages.specs.declared.to_server.ToServerBody.TheVariants as said
use Rattle.krl_messages.specs.declared.to_server.Request.{Request}
use Rattle.krl_messages.specs.declared.to_client.ToClientBody.TheVariants as told
use Rattle.krl_messages.specs.declared.to_client.PushBody.{PushBody}
use Rattle.krl_messages.specs.declared.to_client.PushBody.TheVariants as push
use Rattle.krl_machine.proofs.Basics.{Inv}
use Rattle.krl_machine.proofs.Runs.{reachable_inv}
use Rattle.krl_modes.proofs.Basics.{not_both}
use Rattle.krl_server.specs.Servers.{incarnation_of}
use Rattle.krl_world.specs.declared.message.Message.TheVariants as message
use Rattle.krl_world.proofs.Refinement.Mirrors.{machine_of, shared_of, ServerShows}
use Rattle.krl_world.proofs.Refinement.Openings.{first_of}
use Rattle.krl_world.proofs.Refinement.Reached.{world_reached}
use Rattle.krl_progress.proofs.Standings.{reg_is}

-- what was sent under a client's number, if it runs as k
pub record HasSaid (u : State) (c : ℕ) (k : Client) : Type 0 where
  pub number : k.number ≡ c
  pub epoch : k.epoch ≤ (durable_of u.server).epoch
  pub hellos : (m : ToServer) → m.client ≡ c → In (message.ToServer m) u.sent → m.body ≡ said.Hello → m.incarnation ≤ k.incarnation
  pub byes : (m : ToServer) → m.client ≡ c → In (message.ToServer m) u.sent → m.body ≡ said.Bye → m.incarnation ≡ k.incarnation → ⊥
  pub requests : (m : ToServer) → m.client ≡ c → In (message.ToServer m) u.sent → m.incarnation ≡ k.incarnation → (r : Request) → m.body ≡ said.Request r → (r.epoch ≤ k.epoch) × (r.epoch ≡ k.epoch → r.seen ≤ k.seen)

said_so : (u : State) (c : ℕ) (k : Client) (l : Link) → Inv (shared_of u.server) l → (shared_of u.server).epoch ≡ (durable_of u.server).epoch → ShowsClient c k l.client → ((m : ToServer) → m.client ≡ c → In (message.ToServer m) u.sent → Stands l m.incarnation m.body) → HasSaid u c k
said_so u c k l i same h from = record {
  number = h.number;
  epoch = let x = i.standing.epoch in omega (arith, x, h.epoch, same);
  hellos = λ m e at is. let x : Stands l m.incarnation said.Hello = subst (Stands l m.incarnation) is (from m e at) in let y = i.standing.hellos m.incarnation x in omega (arith, y, h.inc);
  byes = λ m e at is own. let x : Stands l m.incarnation said.Bye = subst (Stands l m.incarnation) is (from m e at) in let y = (i.standing.byes m.incarnation x).1 (own ∙ sym h.inc) in not_both l.up h.up y;
  requests = λ m e at own r is. let x : Stands l m.incarnation (said.Request r) = subst (Stands l m.incarnation) is (from m e at) in
      let y = (i.counting.heads _ x.0).1 (own ∙ sym h.inc) in
      (let z = y.0 in omega (arith, z, h.epoch), λ f. let z = y.1 (f ∙ sym h.epoch) in omega (arith, z, h.seen));
}

shared_epoch : (n : ServerPlace) → (shared_of n).epoch ≡ (durable_of n).epoch
shared_epoch (Up s) = refl
shared_epoch (Down d) = refl

pub has_said : (u : State) (c : ℕ) (k : Client) → IsReachable u → client_of u c ≡ Some k → HasSaid u c k
has_said u c k h runs =
    let r = (world_reached all_follow u h).1 in
    let i = (reachable_inv (first_of u.opening) END (machine_of u.server r.of r.log) r.reach).links c in
    let place : ShowsPlace c (u.places c).last_incarnation (Some k) (r.of c) = subst (λ o. ShowsPlace c (u.places c).last_incarnation o (r.of c)) runs (r.mirrors.places c) in
    said_so u c k (r.of c) i (shared_epoch u.server) place.1 (λ m e at. subst (λ d. Stands (r.of d) m.incarnation m.body) e (r.mirrors.from m at))

-- what a server that runs has sent to a client's number
pub record HasTold (u : State) (s : Server) (c : ℕ) : Type 0 where
  pub place : incarnation_of s c ≤ (u.places c).last_incarnation
  pub epochs : (m : ToClient) → m.client ≡ c → In (message.ToClient m) u.sent → (e : ℕ) → m.body ≡ told.Epoch e → (m.incarnation ≤ incarnation_of s c) × (e ≤ s.durable.epoch)
  pub pushes : (m : ToClient) → m.client ≡ c → In (message.ToClient m) u.sent → (e n : ℕ) (b : PushBody) → m.body ≡ told.Push e n b → (m.incarnation ≤ incarnation_of s c) × (e ≤ s.durable.epoch) × (m.incarnation ≡ incarnation_of s c → e ≡ s.durable.epoch → n ≤ (s.sessions c).last_push)

push_parts : (inc e n : ℕ) (b : PushBody) → ((push_of inc e n b).inc ≡ inc) × ((push_of inc e n b).epoch ≡ e) × ((push_of inc e n b).number ≡ n)
push_parts inc e n (push.Grant req hs) = (refl, refl, refl)
push_parts inc e n (push.Absent req point) = (refl, refl, refl)
push_parts inc e n (push.Answer w o h) = (refl, refl, refl)

told_so : (u : State) (s : Server) (c : ℕ) (l : Link) → Inv (view s) l → IsRecord (record_of s.durable.register c) l → l.last_push ≡ (s.sessions c).last_push → l.inc ≡ (u.places c).last_incarnation → ((m : ToClient) → m.client ≡ c → In (message.ToClient m) u.sent → WasSent l m.incarnation m.body) → HasTold u s c
told_so u s c l i known pushed inc to = let reg = reg_is (record_of s.durable.register c) l known in record {
  place = let x = i.standing.reg in omega (arith, x, inc, reg);
  epochs = λ m e at n is. let x : WasSent l m.incarnation (told.Epoch n) = subst (WasSent l m.incarnation) is (to m e at) in
      let y = i.standing.notices _ x in (let z = y.0 in omega (arith, z, reg), y.1);
  pushes = λ m e at n number b is. let x : WasSent l m.incarnation (told.Push n number b) = subst (WasSent l m.incarnation) is (to m e at) in
      let y = i.counting.pushes _ x.0 in let p = push_parts m.incarnation n number b in let p0 = p.0 in let p1 = p.1 in let p2 = p.2 in
      (let z = y.reg in omega (arith, z, reg, p0), let z = y.epoch in omega (arith, z, p1), λ f g. let z = y.last_push (p0 ∙ f ∙ sym reg) (p1 ∙ g) in omega (arith, z, p2, pushed));
}

place_inc : (c n : ℕ) (o : Option Client) (l : Link) → ShowsPlace c n o l → l.inc ≡ n
place_inc c n None l h = h.0
place_inc c n (Some k) l h = h.0

pub has_told : (u : State) (s : Server) (c : ℕ) → IsReachable u → u.server ≡ Up s → HasTold u s c
has_told u s c h up =
    let r = (world_reached all_follow u h).1 in
    let i = (reachable_inv (first_of u.opening) END (machine_of u.server r.of r.log) r.reach).links c in
    let shown : ServerShows (Up s) r.of = subst (λ n. ServerShows n r.of) up r.mirrors.server in
    told_so u s c (r.of c) (subst (λ n. Inv (shared_of n) (r.of c)) up i) (shown.0.link c).known (shown.0.link c).last_push (place_inc c _ (u.places c).client (r.of c) (r.mirrors.places c))
    (λ m e at. subst (λ d. WasSent (r.of d) m.incarnation m.body) e (r.mirrors.to m at))
