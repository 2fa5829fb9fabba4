use Rattle.krl_server.proofs.Names.{◌≡◌, ◌≤◌, ◌<◌, ℕ, List, [], ◌∷◌, ◌++◌, Option, None, Some, arith, sym, subst, ◌∙◌, ap, Waiter, front_of, rows_of, meaning, IsSound, State, can_push}
use Rattle.std.specs.Prelude.{true, false, set, slice_index_or}
use Rattle.krl_server.specs.GrantRooms.{slots_asked, slots_in, room_of, HasGrantRooms}
use Rattle.krl_server.proofs.Functions.Roomed.{granted_rooms, absent_rooms}
use Rattle.krl_server.proofs.Outputs.Numbers.{sixty_four}
use Rattle.krl_server.proofs.Functions.FirstTurn.{front_in, front_waits, not_answerable, answered_grant, answered_absent}
use Rattle.krl_server.proofs.state.State.answer_first.Goals as goal

own : (st : State) (n : _) (u : Waiter) → IsSound (meaning st) → front_of (rows_of st.table.map n).queue ≡ Some u → u.client < 64
own st n u sound first = subst (λ k. u.client < k) sixty_four (sound.clients n u (front_in (rows_of st.table.map n).queue u first))

pub session-requires-clause-client : goal.session-requires-clause-client
session-requires-clause-client c = own c.args.self.now c.args.slot c.in-Some.waiter c.requires.sound (sym c.front.ensures.front ∙ c.in-Some.is)

pub grant-requires-clause-client : goal.grant-requires-clause-client
grant-requires-clause-client c = own c.args.self.now c.args.slot c.in-Some.waiter c.requires.sound (sym c.front.ensures.front ∙ c.in-Some.is)

pub tell_absent-requires-clause-client : goal.tell_absent-requires-clause-client
tell_absent-requires-clause-client c = own c.args.self.now c.args.slot c.in-Some.waiter c.requires.sound (sym c.front.ensures.front ∙ c.in-Some.is)

pub grant-requires-clause-room : goal.grant-requires-clause-room
grant-requires-clause-room c =
    let some = front_waits (meaning c.args.self.now) c.args.slot c.in-Some.waiter c.requires.slot (sym c.front.ensures.front ∙ c.in-Some.is) in
    let room = c.requires.room in omega (arith, some, room)

pub tell_absent-requires-clause-room : goal.tell_absent-requires-clause-room
tell_absent-requires-clause-room c =
    let some = front_waits (meaning c.args.self.now) c.args.slot c.in-Some.waiter c.requires.slot (sym c.front.ensures.front ∙ c.in-Some.is) in
    let room = c.requires.room in omega (arith, some, room)

pub take-requires : goal.take-requires
take-requires c =
    let client = own c.args.self.now c.args.slot c.in-Some.waiter c.requires.sound (sym c.front.ensures.front ∙ c.in-Some.is) in
    let full = c.requires.rooms.full in
    omega (arith, client, full)

-- the room that was taken
taken_room : (rooms : List (Option ℕ)) (c : ℕ) (o : Option ℕ) (n room : ℕ) → o ≡ slice_index_or rooms c None → o ≡ Some room → n ≤ room_of rooms c → n ≤ room
taken_room rooms c o n room e f h = subst (λ x. n ≤ slots_in x) (sym e ∙ f) h

pub grant-requires-clause-holdings : goal.grant-requires-clause-holdings
grant-requires-clause-holdings c =
    let u = c.in-Some.waiter in
    taken_room c.args.rooms.now u.client c.take.result (slots_asked c.args.self.now.durable.reach u.point u.hi) c.in-Some-take.room c.take.ensures.room c.in-Some-take.is
    (c.requires.rooms.each c.args.slot u (front_in (rows_of c.args.self.now.table.map c.args.slot).queue u (sym c.front.ensures.front ∙ c.in-Some.is)))

pub returns-in-Some-take-clause-answered : goal.returns-in-Some-take-clause-answered
returns-in-Some-take-clause-answered c is_true =
    answered_grant (meaning c.args.self.now) c.args.slot c.in-Some.waiter (sym c.front.ensures.front ∙ c.in-Some.is) c.can_push-acked.result (c.can_push-acked.ensures ∙ ap can_push c.session.ensures) (meaning c.grant.new.self) c.args.outbox.now c.grant.new.outbox
    (sym (ap (λ r. Some r) c.in-Some-Grant.field-0-is) ∙ sym c.in-Some-Grant.is ∙ c.answerable.ensures.answer c.args.self.now.durable.index c.requires.formed.over) c.grant.ensures.server c.grant.ensures.sent

pub returns-in-Some-Absent-clause-answered : goal.returns-in-Some-Absent-clause-answered
returns-in-Some-Absent-clause-answered c is_true =
    answered_absent (meaning c.args.self.now) c.args.slot c.in-Some.waiter (sym c.front.ensures.front ∙ c.in-Some.is) c.can_push-acked.result (c.can_push-acked.ensures ∙ ap can_push c.session.ensures) (meaning c.tell_absent.new.self) c.args.outbox.now c.tell_absent.new.outbox
    (sym (ap (λ r. Some r) c.in-Some-Absent.field-0-is) ∙ sym c.in-Some-Absent.is ∙ c.answerable.ensures.answer c.args.self.now.durable.index c.requires.formed.over) c.tell_absent.ensures.server c.tell_absent.ensures.sent

pub returns-in-None-clause-blocked : goal.returns-in-None-clause-blocked
returns-in-None-clause-blocked c is_false = not_answerable (meaning c.args.self.now) c.args.slot c.in-Some.waiter (sym c.front.ensures.front ∙ c.in-Some.is) c.can_push-acked.result (c.can_push-acked.ensures ∙ ap can_push c.session.ensures)
    (sym c.in-None.is ∙ c.answerable.ensures.answer c.args.self.now.durable.index c.requires.formed.over)

-- there is a room for each waiter
no_room : (rooms : List (Option ℕ)) (c reach point hi : ℕ) → 1 ≤ reach → slice_index_or rooms c None ≡ None → slots_asked reach point hi ≤ room_of rooms c → ⊥
no_room rooms c reach point hi some e h = let none = ap slots_in e in omega (arith, some, h, none)

pub returns-in_default-take-clause-blocked : goal.returns-in_default-take-clause-blocked
returns-in_default-take-clause-blocked c is_false = absurd (
    let u = c.in-Some.waiter in
    no_room c.args.rooms.now u.client c.args.self.now.durable.reach u.point u.hi c.epoch-kept.ensures.kept.reach.0 (sym c.take.ensures.room ∙ c.in_default-take.is)
    (c.requires.rooms.each c.args.slot u (front_in (rows_of c.args.self.now.table.map c.args.slot).queue u (sym c.front.ensures.front ∙ c.in-Some.is))))

pub returns-in-Some-take-clause-rooms : goal.returns-in-Some-take-clause-rooms
returns-in-Some-take-clause-rooms c =
    let s = meaning c.args.self.now in
    let u = c.in-Some.waiter in
    subst (HasGrantRooms (meaning c.grant.new.self)) (sym c.take.ensures.left)
    (subst (λ x. HasGrantRooms x (set c.args.rooms.now u.client None)) (sym c.grant.ensures.server)
    (granted_rooms s c.args.slot u (sym c.front.ensures.front ∙ c.in-Some.is) c.requires.table c.args.rooms.now c.requires.rooms))

pub returns-in-Some-Absent-clause-rooms : goal.returns-in-Some-Absent-clause-rooms
returns-in-Some-Absent-clause-rooms c =
    let s = meaning c.args.self.now in
    let u = c.in-Some.waiter in
    subst (λ x. HasGrantRooms x c.args.rooms.now) (sym c.tell_absent.ensures.server)
    (absent_rooms s c.args.slot u (sym c.front.ensures.front ∙ c.in-Some.is) c.args.rooms.now c.requires.rooms)
