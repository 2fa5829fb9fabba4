-- What a client sends that has accepted every push, and how the server hears it.
use Rattle.krl_progress.proofs.Names.{◌≡◌, ℕ, suc, ◌≤◌, ◌<◌, ◌∙◌, false, Some, List, ◌++◌, length, slice_get, sym, ap, subst, arith}
use Rattle.krl_progress.proofs.Names.{In, Client, Message, Record, Server, is_recovering, Step, Answer, Up, State, message_at, Takes, case_of}
use Rattle.krl_messages.specs.declared.to_server.ToServerBody.TheVariants as said
use Rattle.krl_messages.specs.declared.to_server.RequestBody.{RequestBody}
use Rattle.krl_server.specs.Servers.{incarnation_of}
use Rattle.krl_server.specs.Cases.{case_of_request}
use Rattle.krl_client.specs.Clients.{requests}
use Rattle.krl_progress.specs.Rounds.{loses_a_node}
use Rattle.krl_progress.specs.Blocks.{HasSeen}
use Rattle.krl_progress.proofs.Moves.{moves, still_sent, some_is}
use Rattle.krl_progress.proofs.Standings.{HasStanding, standing}
use Rattle.krl_progress.proofs.Recovers.{same_up, At, near}
use Rattle.krl_progress.proofs.WriteSteps.{position_in}
use Rattle.krl_progress.proofs.Arrivals.{request_from, Hears, hears, again, request_hears}

-- Messages after number n

pub record Sent (n : ℕ) (m : Message) (u : State) : Type 0 where
  pub index : ℕ
  pub above : n < index
  pub sent : message_at u.sent index ≡ Some m

pub sent_now : (n : ℕ) (u v : State) (m : Message) (more : List Message) → n ≤ length u.sent → v.sent ≡ u.sent ++ more → In m more → Sent n m v
sent_now n u v m more long e at = let p = position_in u.sent more m at in record { index = suc p.0; above = (let a = p.1 in omega (arith, a, long)); sent = subst (λ xs. slice_get xs p.0 ≡ Some m) (sym e) p.2 }

pub still : (i : ℕ) (m : Message) (u v : State) (s : Step) (answer : Answer) → message_at u.sent i ≡ Some m → Takes u s answer v → message_at v.sent i ≡ Some m
still i m u v s answer e t = still_sent (loses_a_node s) u v i m (moves u v s answer t) e

pub sent_still : (n : ℕ) (m : Message) (u v : State) (s : Step) (answer : Answer) → Sent n m u → Takes u s answer v → Sent n m v
sent_still n m u v s answer h t = record { index = h.index; above = h.above; sent = still h.index m u v s answer h.sent t }

-- A client and the server

module _ (epoch : ℕ) (some : 1 ≤ epoch) (n : ℕ) (u : State) (s : Server) (c inc seen : ℕ) (at : At c inc epoch n u) (up : u.server ≡ Up s) (h : HasSeen u s c seen) where
  pub same_inc : h.client.incarnation ≡ inc
  same_inc = ap (λ (y : Client). y.incarnation) (some_is h.client at.client (sym h.runs ∙ at.runs)) ∙ at.same

  pub same_server : s ≡ at.server
  same_server = same_up s at.server (sym up ∙ at.up)

  pub same_epoch : h.client.epoch ≡ epoch
  same_epoch = h.epoch ∙ ap (λ (y : Server). y.durable.epoch) same_server ∙ at.now

  pub st : HasStanding u s c h.client
  st = standing u s c h.client at.reachable up h.runs

  pub own_inc : incarnation_of s c ≡ inc
  own_inc = st.joined (omega (arith, same_epoch, some)) ∙ same_inc

  pub own_request : (body : RequestBody) → requests h.client body ≡ request_from c inc epoch seen body
  own_request body j = record { client = st.number j; incarnation = same_inc j; body = said.Request (record { epoch = same_epoch j; seen = h.accepted j; body = body }) }

  heard : (body : RequestBody) → is_recovering s.missing ≡ false → Hears s c h.client body (case_of s (request_from c inc epoch seen body))
  heard body serves = subst (λ m. Hears s c h.client body (case_of s m)) (λ j. request_from c (same_inc j) (same_epoch j) (h.accepted j) body)
      (request_hears u s c h.client at.reachable up h.runs h.epoch serves (near c inc epoch n u at) body)

  -- it is heard, and is no late one
  pub heard_now : (body : RequestBody) → is_recovering s.missing ≡ false → (r : Record) × (case_of s (request_from c inc epoch seen body) ≡ case_of_request s c r body)
  heard_now body serves = by_case (heard body serves)
    where
      by_case : Hears s c h.client body (case_of s (request_from c inc epoch seen body)) → (r : Record) × (case_of s (request_from c inc epoch seen body) ≡ case_of_request s c r body)
      by_case (hears r e x l) = (r, x)
      by_case (again p x e l) = absurd (let a = h.accepted in let z = h.last in omega (arith, l, a, z))
