use Rattle.krl_table.proofs.Names.{◌<◌, ◌≡◌, ◌≤◌, true, sym, ap, subst, ◌∙◌, arith, raised, is_wanted_compatible, rows_of, IsOver}
use Rattle.krl_table.proofs.Rows.RowChanges.{set_rows}
use Rattle.krl_table.proofs.Invariant.Rooms.{room_at}
use Rattle.krl_table.proofs.Rows.Slots.{slot_end}
use Rattle.krl_table.proofs.Calls.Raises.{raised_sound, raised_listed, raised_over}
use Rattle.krl_table.proofs.Invariant.Within.{within_one, free_mode}
use Rattle.krl_table.proofs.table.Table.raise.Goals as goal

pub raise-requires : goal.raise-requires
raise-requires c =
    let m = c.args.durable.now.index in let t = c.self.inside.rows.map in record {
      room = λ none. room_at m t (subst (IsOver m) (sym (ap (λ s. s.map) c.self.view_is)) c.requires.over) c.args.durable.now.room c.self.inside.rows.room c.args.slot (subst (λ s. c.args.durable.now.room < s.room) (sym c.self.view_is) c.requires.rows) c.epoch-kept.ensures.kept.few c.requires.slot none;
      client = c.requires.client;
    }

pub invariant_of-self : goal.invariant_of-self
invariant_of-self c =
    let m = c.args.durable.now.index in let t = c.self.inside.rows.map in let u = c.raise.new.rows.map in let k = c.args.slot in let w = c.args.waiter.now in
    let le = slot_end m c.requires.over.near k c.requires.slot in (
      raised_sound t u k w c.self.invariant.0 c.requires.client c.raise.ensures.set le (subst (λ x. is_wanted_compatible (rows_of x) k w ≡ true) (sym (ap (λ s. s.map) c.self.view_is)) c.requires.is_compatible_there),
      raised_listed t u k w c.self.invariant.0 c.requires.client c.raise.ensures.set c.self.inside.waiting.by_client c.self.invariant.1,
      within_one c.self.inside.extents.by_client c.note.new.self.by_client t u k _ c.raise.ensures.set c.note.ensures.wider c.self.invariant.2 w.client c.note.ensures.there (λ d. free_mode (rows_of t k) w.client d _),
    )

pub returns-clause-raised : goal.returns-clause-raised
returns-clause-raised c n = set_rows c.self.inside.rows.map c.raise.new.rows.map c.args.slot _ c.raise.ensures.set n
    ∙ ap (λ x. raised (rows_of x) c.args.slot c.args.waiter.now n) (ap (λ s. s.map) c.self.view_is)

pub returns-clause-slots : goal.returns-clause-slots
returns-clause-slots c =
    let m = c.args.durable.now.index in
    raised_over c.self.inside.rows.map c.raise.new.rows.map c.args.slot c.args.waiter.now c.self.invariant.0 c.requires.client c.raise.ensures.set m (subst (IsOver m) (sym (ap (λ s. s.map) c.self.view_is)) c.requires.over) c.requires.slot
