-- A step: there is room for it, and it ends as it should.
use Rattle.std.proofs.Common.{◌≡◌, ◌≢◌, ℕ, suc, ◌+◌, ◌*◌, ◌≤◌, ◌⊎◌, ⊎_elim, Bool, true, false, Option, Some, None, List, [], ◌++◌, length, refl, sym, ap, subst, ◌∙◌, arith}
use Rattle.krl_server.proofs.Names.{In, Waiter, append-nil, if◌then◌else◌, ToClient, ToServer, conflicts, IsTable, Server, Case, Ignored, Registers, Leaves, Tells, Alarms, Rebuilds, Repeats, Acknowledges}
use Rattle.krl_server.proofs.Names.{Lowers, Waits, Judges, SeizesLock, AnswersAgain, WriteOp, case_of_new_write, may_seize, seizes, case_of, is_alarm, judged, Done, effect, acknowledged, writes, Nothing, following, callbacks_after, Ends, at_once}
use Rattle.krl_server.proofs.Names.{PushBody, case_of_unacked, recovers, serves, meant, case_of_pieces, after_of, waiting, IsSound, Sent, Sends, own_of, room_for, waiting_clients, calls_after, Finished, rests}
use Rattle.krl_server.proofs.Names.{still_recovering, served, HasRoom, alarm_of}
use Rattle.krl_messages.specs.declared.to_server.ToServerBody.{ToServerBody}
use Rattle.krl_messages.specs.declared.to_server.ToServerBody.TheVariants as said
use Rattle.krl_messages.specs.declared.outcome.Outcome.TheVariants as outcome
use Rattle.krl_server.specs.declared.case.Case.{Case as Found}
use Rattle.krl_server.specs.declared.case.Case.TheVariants as found
use Rattle.krl_server.specs.declared.case.After.{After}
use Rattle.krl_server.specs.GrantRooms.{slots_asked, room_of, HasGrantRooms, HasRoomFor}
use Rattle.krl_server.proofs.Functions.Reaching.{effect_reach}
use Rattle.krl_server.specs.Afters.{does_answer, does_call, does_alarm}
use Rattle.krl_server.proofs.Outputs.Numbers.{answers_few}
use Rattle.krl_server.proofs.Functions.Boxes.{sends_length}
use Rattle.krl_server.proofs.Invariant.WaitersAfter.{asks, IsAsked, all_came}
use Rattle.krl_server.proofs.Functions.Rooms.{few_waiting, no_more_clients, one_more_client}
use Rattle.krl_server.proofs.Invariant.Sounds.{effect_sound}
use Rattle.krl_server.proofs.Invariant.Kept.{effect_table}
use Rattle.krl_server.proofs.Tests.{if_both}

-- Room

module _ (s : Server) (m : ToServer) where
  pieces_few : (b : ToServerBody) → length (effect s m (case_of_pieces s m.client b)).outs ≤ 0
  pieces_few said.Hello = omega arith
  pieces_few said.Bye = omega arith
  pieces_few (said.Report epoch pieces) = by_conflict (conflicts s.durable.index s.rows m.client pieces)
    where
      by_conflict : (b : Bool) → length (effect s m (if b then Alarms else Rebuilds pieces)).outs ≤ 0
      by_conflict true = omega arith
      by_conflict false = omega arith
  pieces_few (said.Request request) = omega arith

  pieces_ask : (b : ToServerBody) → asks (case_of_pieces s m.client b) ≡ false
  pieces_ask said.Hello = refl
  pieces_ask said.Bye = refl
  pieces_ask (said.Report epoch pieces) = by_conflict (conflicts s.durable.index s.rows m.client pieces)
    where
      by_conflict : (b : Bool) → asks (if b then Alarms else Rebuilds pieces) ≡ false
      by_conflict true = refl
      by_conflict false = refl
  pieces_ask (said.Request request) = refl

  again_few : (o : Option PushBody) → length (effect s m (case_of_unacked o)).outs ≤ 1
  again_few None = omega arith
  again_few (Some body) = omega arith

  -- a write that asks for its lock
  new_few : (number : ℕ) (op : WriteOp) → length (effect s m (case_of_new_write s m.client number op true)).outs ≤ 1
  new_few number op = if_both (λ k. length (effect s m k).outs ≤ 1) (may_seize s m.client op) (SeizesLock number op) (Judges number op (judged s m.client op))
      (answers_few (writes (acknowledged (seizes s m.client op) m.client) m.client op outcome.Applied) m.client number op outcome.Applied)
      (answers_few (writes (acknowledged s m.client) m.client op (judged s m.client op)) m.client number op (judged s m.client op))

  new_asks : (number : ℕ) (op : WriteOp) → asks (case_of_new_write s m.client number op true) ≡ false
  new_asks number op = if_both (λ k. asks k ≡ false) (may_seize s m.client op) (SeizesLock number op) (Judges number op (judged s m.client op)) refl refl

  new_asked : (number : ℕ) (op : WriteOp) (u : Waiter) → IsAsked m u (case_of_new_write s m.client number op true) → ⊥
  new_asked number op u = if_both (λ k. IsAsked m u k → ⊥) (may_seize s m.client op) (SeizesLock number op) (Judges number op (judged s m.client op)) (λ e. e) (λ e. e)

  again_idle : {A : Type 0} (o : Option PushBody) → does_answer (after_of (case_of_unacked o)) ≡ true → A
  again_idle None e = absurd (cc)
  again_idle (Some body) e = absurd (cc)

  again_calls : {A : Type 0} (o : Option PushBody) → does_call (after_of (case_of_unacked o)) ≡ true → A
  again_calls None e = absurd (cc)
  again_calls (Some body) e = absurd (cc)

  -- a case sends no more itself than it may
  own_few : (f : Found) → length (effect s m (meant s m.client m.body f)).outs ≤ own_of f
  own_few found.Ignored = omega arith
  own_few found.Registers = omega arith
  own_few found.Leaves = omega arith
  own_few found.Tells = omega arith
  own_few found.Reports = pieces_few m.body
  own_few found.Repeats = again_few (s.sessions m.client).unacked
  own_few found.Acknowledges = omega arith
  own_few (found.Lowers span keep) = omega arith
  own_few (found.Waits req point hi g) = omega arith
  own_few (found.Judges number op) = answers_few (writes (acknowledged s m.client) m.client op (judged s m.client op)) m.client number op (judged s m.client op)
  own_few (found.SeizesLock number op) = new_few number op
  own_few (found.AnswersAgain number op o) = answers_few (acknowledged s m.client) m.client number op o

  pub own_room : (f : Found) (w : ℕ) → own_of f ≤ room_for w f
  own_room found.Ignored w = omega arith
  own_room found.Registers w = omega arith
  own_room found.Leaves w = omega arith
  own_room found.Tells w = omega arith
  own_room found.Reports w = omega arith
  own_room found.Repeats w = omega arith
  own_room found.Acknowledges w = omega arith
  own_room (found.Lowers span keep) w = omega arith
  own_room (found.Waits req point hi g) w = omega arith
  own_room (found.Judges number op) w = omega arith
  own_room (found.SeizesLock number op) w = omega arith
  own_room (found.AnswersAgain number op o) w = omega arith

  answers_room : (f : Found) (w u : ℕ) → (asks (meant s m.client m.body f) ≡ false → u ≤ w) → u ≤ suc w → does_answer (after_of (meant s m.client m.body f)) ≡ true → own_of f + u ≤ room_for w f
  answers_room found.Ignored w u few more e = absurd (cc)
  answers_room found.Registers w u few more e = let x = few refl in omega (arith, x)
  answers_room found.Leaves w u few more e = let x = few refl in omega (arith, x)
  answers_room found.Tells w u few more e = absurd (cc)
  answers_room found.Reports w u few more e = let x = few (pieces_ask m.body) in omega (arith, x)
  answers_room found.Repeats w u few more e = again_idle (s.sessions m.client).unacked e
  answers_room found.Acknowledges w u few more e = let x = few refl in omega (arith, x)
  answers_room (found.Lowers span keep) w u few more e = let x = few refl in omega (arith, x)
  answers_room (found.Waits req point hi g) w u few more e = omega (arith, more)
  answers_room (found.Judges number op) w u few more e = let x = few refl in omega (arith, x)
  answers_room (found.SeizesLock number op) w u few more e = let x = few (new_asks number op) in omega (arith, x)
  answers_room (found.AnswersAgain number op o) w u few more e = let x = few refl in omega (arith, x)

  calls_room : (f : Found) (w u : ℕ) → (asks (meant s m.client m.body f) ≡ false → u ≤ w) → u ≤ suc w → does_call (after_of (meant s m.client m.body f)) ≡ true → own_of f + 64 * u ≤ room_for w f
  calls_room found.Ignored w u few more e = absurd (cc)
  calls_room found.Registers w u few more e = let x = few refl in omega (arith, x)
  calls_room found.Leaves w u few more e = let x = few refl in omega (arith, x)
  calls_room found.Tells w u few more e = absurd (cc)
  calls_room found.Reports w u few more e = let x = few (pieces_ask m.body) in omega (arith, x)
  calls_room found.Repeats w u few more e = again_calls (s.sessions m.client).unacked e
  calls_room found.Acknowledges w u few more e = let x = few refl in omega (arith, x)
  calls_room (found.Lowers span keep) w u few more e = absurd (cc)
  calls_room (found.Waits req point hi g) w u few more e = omega (arith, more)
  calls_room (found.Judges number op) w u few more e = let x = few refl in omega (arith, x)
  calls_room (found.SeizesLock number op) w u few more e = let x = few (new_asks number op) in omega (arith, x)
  calls_room (found.AnswersAgain number op o) w u few more e = let x = few refl in omega (arith, x)

  reports_ask : (b : ToServerBody) (u : Waiter) → IsAsked m u (case_of_pieces s m.client b) → ⊥
  reports_ask said.Hello u e = e
  reports_ask said.Bye u e = e
  reports_ask (said.Report epoch pieces) u e = by_conflict (conflicts s.durable.index s.rows m.client pieces) e
    where
      by_conflict : (b : Bool) → IsAsked m u (if b then Alarms else Rebuilds pieces) → ⊥
      by_conflict true e = e
      by_conflict false e = e
  reports_ask (said.Request request) u e = e

  again_asks : (o : Option PushBody) (u : Waiter) → IsAsked m u (case_of_unacked o) → ⊥
  again_asks None u e = e
  again_asks (Some body) u e = e

  -- there is room for the client that asks
  asked_room : (f : Found) (rooms : List (Option ℕ)) (u : Waiter) → HasRoomFor s m.client f rooms → IsAsked m u (meant s m.client m.body f) → slots_asked s.durable.reach u.point u.hi ≤ room_of rooms u.client
  asked_room found.Ignored rooms u room e = absurd e
  asked_room found.Registers rooms u room e = absurd e
  asked_room found.Leaves rooms u room e = absurd e
  asked_room found.Tells rooms u room e = absurd e
  asked_room found.Reports rooms u room e = absurd (reports_ask m.body u e)
  asked_room found.Repeats rooms u room e = absurd (again_asks (s.sessions m.client).unacked u e)
  asked_room found.Acknowledges rooms u room e = absurd e
  asked_room (found.Lowers span keep) rooms u room e = absurd e
  asked_room (found.Waits req point hi g) rooms u room e = subst (λ (w : Waiter). slots_asked s.durable.reach w.point w.hi ≤ room_of rooms w.client) (sym e) room
  asked_room (found.Judges number op) rooms u room e = absurd e
  asked_room (found.SeizesLock number op) rooms u room e = absurd (new_asked number op u e)
  asked_room (found.AnswersAgain number op o) rooms u room e = absurd e

  module _ (sound : IsSound s) (table : IsTable s.durable.index s.rows) (f : Found) (is : meant s m.client m.body f ≡ case_of s m) where
    u : Server
    u = (effect s m (case_of s m)).server

    all_wait : waiting (effect s m (case_of s m)).server ≤ waiting_clients (effect s m (case_of s m)).server
    all_wait = few_waiting (effect s m (case_of s m)).server (effect_sound s m sound) (effect_table s m sound table)

    few : asks (meant s m.client m.body f) ≡ false → waiting (effect s m (case_of s m)).server ≤ waiting_clients s
    few e = let x = all_wait in let y = no_more_clients s m (case_of s m) (all_came s m sound) table (sym (ap asks is) ∙ e) in omega (arith, x, y)

    more : waiting (effect s m (case_of s m)).server ≤ suc (waiting_clients s)
    more = let x = all_wait in let y = one_more_client s m (case_of s m) (all_came s m sound) table in omega (arith, x, y)

    -- there is room for the grants of all that wait then
    pub rooms_left : (t : Server) (rooms : List (Option ℕ)) → t ≡ (effect s m (case_of s m)).server → HasGrantRooms s rooms → HasRoomFor s m.client f rooms → HasGrantRooms t rooms
    rooms_left t rooms server h room = subst (λ x. HasGrantRooms x rooms) (sym server) (record {
      full = h.full;
      each = λ n v at. subst (λ r. slots_asked r v.point v.hi ≤ room_of rooms v.client) (sym (effect_reach s m (case_of s m))) (⊎_elim
          (λ (old : (j : ℕ) × In v (s.rows j).queue). h.each old.0 v old.1)
          (λ (new : (asks (case_of s m) ≡ true) × (v.client ≡ m.client) × IsAsked m v (case_of s m)). asked_room f rooms v room (subst (IsAsked m v) (sym is) new.2))
          (all_came s m sound n v at));
    })

    -- there is room for what is left, after the case's own messages
    pub room_left : (t : Server) (left : After) (outs : List ToClient) (old new : Sent) → t ≡ (effect s m (case_of s m)).server → outs ≡ (effect s m (case_of s m)).outs → left ≡ after_of (case_of s m) → Sends old new outs → old ≡ (record { sent = []; room = room_for (waiting_clients s) f }) → HasRoom t left new
    room_left t left outs old new server own e sends empty =
        let long = sends_length old new outs sends in
        let none = ap (λ b. length b.sent) empty in
        let all = ap (λ b. b.room) empty in
        let room = sends.room in
        let mine = own_few f in
        let same = ap (λ k. length (effect s m k).outs) is in
        let is_own = ap (λ l. length l) own in
        let wait = ap waiting server in
        record {
          answers = λ yes. let x = answers_room f (waiting_clients s) (waiting (effect s m (case_of s m)).server) few more (ap (λ k. does_answer (after_of k)) is ∙ sym (ap does_answer e) ∙ yes) in omega (arith, long, none, all, room, mine, same, is_own, wait, x);
          calls = λ yes. let x = calls_room f (waiting_clients s) (waiting (effect s m (case_of s m)).server) few more (ap (λ k. does_call (after_of k)) is ∙ sym (ap does_call e) ∙ yes) in omega (arith, long, none, all, room, mine, same, is_own, wait, x);
        }

-- Ends

idle_of : (k : Case) → does_answer (after_of k) ≡ false → following k ≡ Nothing
idle_of Ignored e = refl
idle_of Registers e = absurd (cc)
idle_of Leaves e = absurd (cc)
idle_of Tells e = refl
idle_of Alarms e = refl
idle_of (Rebuilds pieces) e = absurd (cc)
idle_of (Repeats body) e = refl
idle_of Acknowledges e = absurd (cc)
idle_of (Lowers span keep) e = absurd (cc)
idle_of (Waits req point hi g) e = absurd (cc)
idle_of (Judges number op o) e = absurd (cc)
idle_of (SeizesLock number op) e = absurd (cc)
idle_of (AnswersAgain number op o) e = absurd (cc)

acts_of : (k : Case) → does_answer (after_of k) ≡ true → following k ≢ Nothing
acts_of Ignored e f = absurd (cc)
acts_of Registers e f = absurd (cc)
acts_of Leaves e f = absurd (cc)
acts_of Tells e f = absurd (cc)
acts_of Alarms e f = absurd (cc)
acts_of (Rebuilds pieces) e f = absurd (cc)
acts_of (Repeats body) e f = absurd (cc)
acts_of Acknowledges e f = absurd (cc)
acts_of (Lowers span keep) e f = absurd (cc)
acts_of (Waits req point hi g) e f = absurd (cc)
acts_of (Judges number op o) e f = absurd (cc)
acts_of (SeizesLock number op) e f = absurd (cc)
acts_of (AnswersAgain number op o) e f = absurd (cc)

calls_are : (k : Case) (t : Server) → calls_after (after_of k) t ≡ callbacks_after (following k) t
calls_are Ignored t = refl
calls_are Registers t = refl
calls_are Leaves t = refl
calls_are Tells t = refl
calls_are Alarms t = refl
calls_are (Rebuilds pieces) t = refl
calls_are (Repeats body) t = refl
calls_are Acknowledges t = refl
calls_are (Lowers span keep) t = refl
calls_are (Waits req point hi g) t = refl
calls_are (Judges number op o) t = refl
calls_are (SeizesLock number op) t = refl
calls_are (AnswersAgain number op o) t = refl

alarm_is : (k : Case) → does_alarm (after_of k) ≡ is_alarm k
alarm_is Ignored = refl
alarm_is Registers = refl
alarm_is Leaves = refl
alarm_is Tells = refl
alarm_is Alarms = refl
alarm_is (Rebuilds pieces) = refl
alarm_is (Repeats body) = refl
alarm_is Acknowledges = refl
alarm_is (Lowers span keep) = refl
alarm_is (Waits req point hi g) = refl
alarm_is (Judges number op o) = refl
alarm_is (SeizesLock number op) = refl
alarm_is (AnswersAgain number op o) = refl

finished_ends : (k : Case) (done : Done) (t : Server) (outs : List ToClient) → Finished done.server (after_of k) t outs → Ends done (following k) t (done.outs ++ outs)
finished_ends k done t outs (rests e) = subst (Ends done (following k) done.server) (sym (append-nil done.outs)) (at_once (idle_of k e))
finished_ends k done t outs (still_recovering e) = subst (Ends done (following k) done.server) (sym (append-nil done.outs)) (recovers e)
finished_ends k done t outs (served t' answers e f a) = subst (λ l. Ends done (following k) t' (done.outs ++ (answers ++ l))) (sym (calls_are k t')) (serves t' answers (acts_of k e) f a)

-- the message was taken
pub step_is : (s : Server) (m : ToServer) (mid t : Server) (left : After) (own outs : List ToClient) → mid ≡ (effect s m (case_of s m)).server → own ≡ (effect s m (case_of s m)).outs → left ≡ after_of (case_of s m) → Finished mid left t outs → Rattle.krl_server.specs.Steps.ServerStep s m t (own ++ outs)
step_is s m mid t left own outs server sent e h =
    let done = effect s m (case_of s m) in
    subst (λ l. Ends done (following (case_of s m)) t (l ++ outs)) (sym sent)
    (finished_ends (case_of s m) done t outs (subst (λ x. Finished x (after_of (case_of s m)) t outs) server (subst (λ x. Finished mid x t outs) e h)))

pub alarm_said : (s : Server) (m : ToServer) (left : After) → left ≡ after_of (case_of s m) → (if does_alarm left then Some m.client else None) ≡ alarm_of s m
alarm_said s m left e = ap (λ b. if b then Some m.client else None) (ap does_alarm e ∙ alarm_is (case_of s m))
