-- While nobody serves, the index stands still.
use Rattle.krl_world.proofs.Names.{◌≡◌, ℕ, ◌∙◌, Bool, true, false, Option, Some, None, List, ◌⊎◌, inl, inr, refl, sym, ap, subst, ⊎_elim, if◌then◌else◌, END, ToServer, ToClient, PushBody, Record}
use Rattle.krl_world.proofs.Names.{slot_of, Durable, record_of, left_by, op_key, Server, is_recovering, Case, case_of, Done, holding, acknowledged, seizes, writes, pushes, effect, Following, Nothing, following, Ends}
use Rattle.krl_world.proofs.Names.{at_once, recovers, serves, ServerStep, pushes_missing, answered_up, Step, ServerPlace, Up, Down, State, durable_of, index_of, is_serving}
use Rattle.std.specs.Prelude.{nat_lt}
use Rattle.krl_modes.proofs.Basics.{not_both}
use Rattle.krl_messages.specs.declared.to_client.PushBody.TheVariants as push
use Rattle.krl_messages.specs.declared.outcome.Outcome.TheVariants as outcome
use Rattle.krl_server.proofs.Cased.{by_case}
use Rattle.krl_world.proofs.Refinement.Serves.{not_serving}
use Rattle.krl_world.proofs.Refinement.ServerMoves.{Way, stays, reads, stops, begins}

done_by : (t : Bool) (x y : Done) (s : Server) → x.server.durable.index ≡ s.durable.index → y.server.durable.index ≡ s.durable.index → (if t then x else y).server.durable.index ≡ s.durable.index
done_by true x y s a b = a
done_by false x y s a b = b

pushes_index : (s : Server) (c : ℕ) (b : PushBody) → (pushes s c b).server.durable.index ≡ s.durable.index
pushes_index s c b = done_by (nat_lt (s.sessions c).last_push END) _ _ s refl refl

left_index : (d : Durable) (c : ℕ) (o : Option Record) → (left_by d c o).index ≡ d.index
left_index d c None = refl
left_index d c (Some r) = refl

-- the index stays if a step ends with its effect: nobody serves after it, or it has not acted
abbrev Stays : Server → ToServer → Case → Type 0
Stays s m k = (is_recovering (effect s m k).server.missing ≡ true) ⊎ (following k ≡ Nothing) → (effect s m k).server.durable.index ≡ s.durable.index

case_stays : (s : Server) (m : ToServer) → Stays s m (case_of s m)
case_stays s m = by_case s m (Stays s m) (record {
  ignored = λ e. refl;
  registers = λ a b c e. refl;
  leaves = λ r a e. left_index s.durable m.client (record_of s.durable.register m.client);
  tells = λ e. refl;
  alarms = λ e. refl;
  rebuilds = λ r epoch pieces a b c d e. refl;
  repeats = λ r body a b e. refl;
  acknowledges = λ r a e. refl;
  lowers = λ r span keep a e. refl;
  waits = λ r req point hi g a b c d e. refl;
  judges = λ r number op o a b c d f e. ⊎_elim
      (λ (g : _). let t = writes (acknowledged s m.client) m.client op o in absurd (not_both (is_recovering s.missing) (ap is_recovering (sym (pushes_missing t m.client (push.Answer number o (holding t (slot_of t.durable.index (op_key op)) m.client)))) ∙ g) a.serves))
      (λ (i : _). absurd (cc)) e;
  seizes = λ r number op a b c d f e. ⊎_elim
      (λ (g : _). let t = writes (acknowledged (seizes s m.client op) m.client) m.client op outcome.Applied in absurd (not_both (is_recovering s.missing) (ap is_recovering (sym (pushes_missing t m.client (push.Answer number outcome.Applied (holding t (slot_of t.durable.index (op_key op)) m.client)))) ∙ g) a.serves))
      (λ (i : _). absurd (cc)) e;
  answers_again = λ r number op o a b c d f e. let t = acknowledged s m.client in pushes_index t m.client (push.Answer number o (holding t (slot_of t.durable.index (op_key op)) m.client));
})

ends_index : (s : Server) (done : Done) (kind : Following) (t : Server) (outs : List ToClient) → ((is_recovering done.server.missing ≡ true) ⊎ (kind ≡ Nothing) → done.server.durable.index ≡ s.durable.index) → Ends done kind t outs → is_recovering t.missing ≡ true → t.durable.index ≡ s.durable.index
ends_index s done kind _ _ h (at_once k) e = h (inr k)
ends_index s done kind _ _ h (recovers g) e = h (inl g)
ends_index s done kind _ _ h (serves t said acts up rest) e = absurd (not_both (is_recovering t.missing) e (answered_up done.server t said rest up))

step_index : (s t : Server) (m : ToServer) (outs : List ToClient) → ServerStep s m t outs → is_recovering t.missing ≡ true → t.durable.index ≡ s.durable.index
step_index s t m outs h e = ends_index s (effect s m (case_of s m)) (following (case_of s m)) t outs (case_stays s m) h e

-- Steps of the world

server_is : (w v : State) (n m : ServerPlace) → w.server ≡ n → v.server ≡ m → (is_serving m ≡ false → (durable_of m).index ≡ (durable_of n).index) → is_serving v.server ≡ false → index_of v ≡ index_of w
server_is w v n m a b h e = ap (λ x. (durable_of x).index) b ∙ h (subst (λ x. is_serving x ≡ false) b e) ∙ sym (ap (λ x. (durable_of x).index) a)

-- a step after which nobody serves leaves the index
pub index_stands : (w v : State) (s : Step) → Way w v s → is_serving v.server ≡ false → index_of v ≡ index_of w
index_stands w v s (stays e) n = ap (λ x. (durable_of x).index) e
index_stands w v s (reads old new m outs a b at t) n = server_is w v (Up old) (Up new) a b (λ e. step_index old new m outs t (not_serving new e)) n
index_stands w v s (stops old e a b) n = server_is w v (Up old) _ a b (λ x. refl) n
index_stands w v s (begins d a b) n = server_is w v (Down d) _ a b (λ x. refl) n
