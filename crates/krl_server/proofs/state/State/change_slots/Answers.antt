use Rattle.std.proofs.Common.{◌≡◌, ◌≤◌, ℕ, suc, Option, Some, None, IfSome, sym, ap, subst, ◌∙◌, arith}
use Rattle.krl_server.proofs.Names.{fun_ext, END, rows_of, IsOver, MayInsert, split, slot_of, index_after, written, rows_written, rows_after}
use Rattle.krl_server.proofs.Functions.Changed.{insert_asks, delete_asks, put_after}
use Rattle.krl_server.proofs.state.State.change_slots.Goals as goal

-- the point of the key
unwrapped : (o : Option ℕ) (x k : ℕ) → o ≡ Some x → IfSome o (λ p. p ≡ k) → x ≡ k
unwrapped None x k e h = absurd (cc)
unwrapped (Some y) x k e h = let same : y ≡ x = cc in sym same ∙ h

pub unwrap-key-requires : goal.unwrap-key-requires
unwrap-key-requires c = let asks = insert_asks c.args.self.now.durable.room c.args.self.now.durable.index c.args.self.now.table.map c.args.client c.args.op c.args.outcome c.in-Insert.key c.in-Insert.value c.in-Insert.is c.in-Applied.is c.requires.key c.requires.judged in
    c.new.ensures.in_range.1 (let lt = asks.key in omega (arith, lt))

pub split-requires : goal.split-requires
split-requires c =
    let m = c.args.self.now.durable.index in
    let asks = insert_asks c.args.self.now.durable.room m c.args.self.now.table.map c.args.client c.args.op c.args.outcome c.in-Insert.key c.in-Insert.value c.in-Insert.is c.in-Applied.is c.requires.key c.requires.judged in
    let same = unwrapped c.new.result c.unwrap-key.result c.in-Insert.key c.unwrap-key.ensures c.new.ensures.point in
    record {
      over = c.requires.formed.over;
      client = c.requires.client;
      key = subst (λ k. suc k ≤ END) (sym same) asks.key;
      free = ap (Rattle.std.specs.FinMap.get m) same ∙ asks.free;
      room = asks.room;
      rows = c.requires.formed.rows;
      may = subst (λ k. MayInsert (rows_of c.args.self.now.table.map) (slot_of m k) c.args.client) (sym same) asks.may;
    }

pub merge-requires : goal.merge-requires
merge-requires c =
    let asks = delete_asks c.args.self.now.durable.room c.args.self.now.durable.index c.args.self.now.table.map c.args.client c.args.op c.args.outcome c.in-Delete.key c.in-Delete.is c.in-Applied.is c.requires.key c.requires.judged in
    record { over = c.requires.formed.over; there = asks.there; key = asks.key; may = (c.args.client, asks.may) }

pub returns-in-Insert-clause-rows : goal.returns-in-Insert-clause-rows
returns-in-Insert-clause-rows c =
    let m = c.args.self.now.durable.index in
    let rows = rows_of c.args.self.now.table.map in
    let same = unwrapped c.new.result c.unwrap-key.result c.in-Insert.key c.unwrap-key.ensures c.new.ensures.point in
    fun_ext c.split.ensures.split ∙ ap (λ k. split m rows k c.args.client) same
    ∙ sym (ap (λ o. rows_after m rows c.args.client c.args.op o) c.in-Applied.is ∙ ap (λ op. rows_written m rows c.args.client op) c.in-Insert.is)

pub returns-in-Insert-clause-slots : goal.returns-in-Insert-clause-slots
returns-in-Insert-clause-slots c =
    let m = c.args.self.now.durable.index in
    let same = unwrapped c.new.result c.unwrap-key.result c.in-Insert.key c.unwrap-key.ensures c.new.ensures.point in
    subst (λ o. IsOver (index_after m c.args.op o) c.split.new.self.map) (sym c.in-Applied.is)
    (subst (λ op. IsOver (written m op) c.split.new.self.map) (sym c.in-Insert.is)
    (subst (λ k. IsOver (Rattle.std.specs.FinMap.insert m k c.in-Insert.value) c.split.new.self.map) same (c.split.ensures.slots c.in-Insert.value)))

pub returns-in-Put-clause-slots : goal.returns-in-Put-clause-slots
returns-in-Put-clause-slots c = put_after c.args.self.now.durable.room c.args.self.now.durable.index c.args.self.now.table.map c.args.op c.args.outcome c.in-Put.key c.in-Put.value _ c.in-Put.is c.in-Applied.is c.requires.key c.requires.judged c.requires.formed.over

pub returns-in-Delete-clause-rows : goal.returns-in-Delete-clause-rows
returns-in-Delete-clause-rows c =
    let m = c.args.self.now.durable.index in
    let rows = rows_of c.args.self.now.table.map in
    fun_ext c.merge.ensures.merged
    ∙ sym (ap (λ o. rows_after m rows c.args.client c.args.op o) c.in-Applied.is ∙ ap (λ op. rows_written m rows c.args.client op) c.in-Delete.is)

pub returns-in-Delete-clause-slots : goal.returns-in-Delete-clause-slots
returns-in-Delete-clause-slots c =
    let m = c.args.self.now.durable.index in
    subst (λ o. IsOver (index_after m c.args.op o) c.merge.new.self.map) (sym c.in-Applied.is)
    (subst (λ op. IsOver (written m op) c.merge.new.self.map) (sym c.in-Delete.is) c.merge.ensures.slots)
