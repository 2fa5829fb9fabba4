use Rattle.krl_table.proofs.Names.{◌<◌, ◌≡◌, ◌≤◌, ℕ, Some, None, sym, ap, subst, ◌∙◌, arith, END, first_of, rows_of, IsOver, AreListed, extent_in, Lies}
use Rattle.krl_table.proofs.Invariant.Rooms.{room_at}
use Rattle.krl_table.proofs.Rows.Slots.{slot_end}
use Rattle.krl_table.proofs.Calls.Fronts.{more_sound, more_listed, more_over}
use Rattle.krl_table.proofs.Invariant.Within.{within_one, free_queue_with}
use Rattle.krl_table.proofs.table.Table.enqueue.Goals as goal

pub enqueue-requires-clause-room : goal.enqueue-requires-clause-room
enqueue-requires-clause-room c none =
    let m = c.args.durable.now.index in let t = c.self.inside.rows.map in let over = subst (IsOver m) (sym (ap (λ s. s.map) c.self.view_is)) c.requires.over in
    room_at m t over c.args.durable.now.room c.self.inside.rows.room c.slot_of-slot.result (subst (λ s. c.args.durable.now.room < s.room) (sym c.self.view_is) c.requires.rows) c.epoch-kept.ensures.kept.few
    (c.slot_of-slot.ensures.least c.get.ensures.in_range).slot none

pub invariant_of-self : goal.invariant_of-self
invariant_of-self c =
    let m = c.args.durable.now.index in let t = c.self.inside.rows.map in let u = c.enqueue.new.rows.map in let w = c.args.node in let k = c.slot_of-slot.result in
    let free = λ (n : ℕ). subst (λ x. first_of w.client (rows_of x n).queue ≡ None) (sym (ap (λ s. s.map) c.self.view_is)) (c.requires.free n) in
    let le = slot_end m c.requires.over.near k (c.slot_of-slot.ensures.least c.get.ensures.in_range).slot in (
      more_sound t u k w c.self.invariant.0 c.enqueue.ensures.set c.requires.client free le,
      subst (λ l. AreListed l u) (sym (c.note.ensures ∙ ap (λ x. Rattle.std.proofs.Common.set c.self.inside.waiting.by_client x.client (Some x)) c.waiter-waiter.ensures))
          (more_listed t u k w c.self.invariant.0 c.enqueue.ensures.set c.requires.client free c.self.inside.waiting.by_client c.self.invariant.1),
      within_one c.self.inside.extents.by_client c.note-2.new.self.by_client t u k _ c.enqueue.ensures.set c.note-2.ensures.wider c.self.invariant.2 w.client (subst (λ x. Lies (extent_in c.note-2.new.self.by_client x) k) (ap (λ x. x.client) c.waiter-waiter.ensures) c.note-2.ensures.there) (λ d. free_queue_with (rows_of t k) w d),
    )

pub returns-clause-slots : goal.returns-clause-slots
returns-clause-slots c =
    let m = c.args.durable.now.index in let t = c.self.inside.rows.map in let u = c.enqueue.new.rows.map in let w = c.args.node in let k = c.slot_of-slot.result in
    let free = λ (n : ℕ). subst (λ x. first_of w.client (rows_of x n).queue ≡ None) (sym (ap (λ s. s.map) c.self.view_is)) (c.requires.free n) in
    let over = subst (IsOver m) (sym (ap (λ s. s.map) c.self.view_is)) c.requires.over in
    let at : c.get.result ≡ w.point = c.get.ensures.number ∙ ap (λ x. x.point) c.waiter-waiter.ensures in
    more_over t u k w c.self.invariant.0 c.enqueue.ensures.set c.requires.client free m over (c.slot_of-slot.ensures.least c.get.ensures.in_range).slot
    (subst (λ n. n ≤ END) at c.get.ensures.in_range) (ap (Rattle.krl_durable.specs.Index.slot_of m) (sym at) ∙ sym c.slot_of-slot.ensures.slot)
