-- A server that starts, and one that has taken a step.
use Rattle.krl_server.proofs.Names.{Session, ◌≡◌, ℕ, zero, suc, ◌≤◌, ◌<◌, List, [], ◌∷◌, ◌++◌, length, refl, sym, ap, subst, ◌∙◌, fun_ext, lt-ltb, END, ToServer, ToClient, Durable, not_left, IsKept}
use Rattle.krl_server.proofs.Names.{blank_row, rows_of, IsOver, State, ServerOut, Server, blank_session, meaning, sessions_of, IsFormed, ServerStep, start, IsSettled, IsSound, Result, Ok, Err, IfOk}
use Rattle.krl_server.proofs.Names.{OnOk, OnErr, max_messages, IsServer, IsStarted, HasStepped, IsWithin, AreRegistered}
use Rattle.krl_server.specs.Invariant.{IsOrdered}
use Rattle.krl_server.proofs.Outputs.Numbers.{all_end}
use Rattle.krl_server.proofs.Invariant.Kept.{server_keeps}
use Rattle.krl_server.proofs.Invariant.Within.{all_within}
use Rattle.krl_server.proofs.Functions.Known.{durable_within}

module _ (d : Durable) (st : State) (lt : d.epoch < END) (durable : st.durable ≡ record d { epoch = suc d.epoch }) (rows : (n : ℕ) → rows_of st.table.map n ≡ blank_row) (over : IsOver d.index st.table.map) (room : d.room < st.table.room) (full : length st.sessions ≡ 64) (sessions : (c : ℕ) → sessions_of st.sessions c ≡ blank_session) (missing : st.missing ≡ not_left d.register) where
  means_start : meaning st ≡ start d
  means_start =
      ap (λ x. record (meaning st) { durable = x }) durable
      ∙ ap (λ r. record (meaning st) { durable = record d { epoch = suc d.epoch }; rows = r }) (fun_ext rows)
      ∙ ap (λ l. let s : Server = record { durable = record d { epoch = suc d.epoch }; rows = λ n. blank_row; sessions = l; missing = st.missing } in s) (fun_ext sessions)
      ∙ ap (λ m. let s : Server = record { durable = record d { epoch = suc d.epoch }; rows = λ n. blank_row; sessions = λ c. blank_session; missing = m } in s) missing

  pub is_started : IsStarted d (meaning st)
  is_started = record { epoch = lt-ltb d.epoch END lt; server = means_start }

  pub is_server : IsKept d → IsServer st
  is_server kept =
      let x = server_keeps.ordered_start d kept.outcomes in
      record {
        formed = record { full = full; over = subst (λ y. IsOver y.index st.table.map) (sym durable) over; rows = subst (λ y. y.room < st.table.room) (sym durable) room };
        sound = subst IsSound (sym means_start) (server_keeps.sound_start d over.near);
        ordered = subst IsOrdered (sym means_start) x.0;
        settled = subst IsSettled (sym means_start) x.1;
        within = subst IsWithin (sym means_start) (all_within.start d (lt-ltb d.epoch END lt) (durable_within d kept));
        here = subst AreRegistered (sym means_start) (all_within.registered_start d);
      }

-- a step keeps it
pub server_after : (old new : State) (m : ToServer) (outs : List ToClient) → IsServer old → IsFormed new → ServerStep (meaning old) m (meaning new) outs → IsServer new
server_after old new m outs i formed step = record {
  formed = formed;
  sound = server_keeps.sound_step (meaning old) (meaning new) m outs i.sound step;
  ordered = server_keeps.ordered_step (meaning old) (meaning new) m outs i.sound i.ordered step;
  settled = server_keeps.settled_step (meaning old) (meaning new) m outs i.settled step;
  within = all_within.step (meaning old) (meaning new) m outs i.within step;
  here = all_within.registered_step (meaning old) (meaning new) m outs i.sound i.here step;
}

-- whatever comes of it
pub server_kept : {E : Type 0} (old new : State) (m : ToServer) (r : Result ServerOut E) → IsServer old → IfOk r (λ out. HasStepped (meaning old) m (meaning new) out) → OnOk r (IsFormed new) → OnErr r (new ≡ old) → IsServer new
server_kept old new m (Ok out) i stepped formed refused = server_after old new m out.messages i formed stepped.step
server_kept old new m (Err e) i stepped formed refused = subst IsServer (sym refused) i

pub few_sent : {E : Type 0} (old new : State) (m : ToServer) (r : Result ServerOut E) → IsServer old → IfOk r (λ out. HasStepped (meaning old) m (meaning new) out) → IfOk r (λ out. length out.messages ≤ max_messages)
few_sent old new m (Ok out) i stepped = all_end.few (meaning old) (meaning new) m out.messages i.sound i.ordered.table stepped.step
few_sent old new m (Err e) i stepped = tt

-- one blank session more
pub blank_push : (xs : List Session) (x : Session) → x ≡ blank_session → ((c : ℕ) → sessions_of xs c ≡ blank_session) → (c : ℕ) → sessions_of (xs ++ x ∷ []) c ≡ blank_session
blank_push [] x e h zero = e
blank_push [] x e h (suc c) = refl
blank_push (y ∷ ys) x e h zero = h zero
blank_push (y ∷ ys) x e h (suc c) = blank_push ys x e (λ d. h (suc d)) c
