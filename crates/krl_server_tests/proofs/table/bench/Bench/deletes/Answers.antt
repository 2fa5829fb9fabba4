use Rattle.std.proofs.Common.{◌≡◌, ◌<◌, true, sym, subst, ◌∙◌, arith}
use Rattle.krl_messages.specs.declared.write_op.WriteOp.TheVariants as write
use Rattle.krl_table.specs.KeptRows.{IsOver}
use Rattle.krl_server_tests.proofs.Applied.{applied_index, applied_room}
use Rattle.krl_server_tests.proofs.table.bench.Bench.deletes.Goals as goal

pub invariant_of-self : goal.invariant_of-self
invariant_of-self c =
    let m = c.self.inside.durable.index in let known : c.has_number.result ≡ true = grind (arith, c.if-not-has_number.false) in (
      subst (λ i. IsOver i c.merge.new.self.map)
          (sym (applied_index c.self.inside.durable c.apply.new.self 0 (write.Delete c.args.key) c.apply.result (c.has_number.ensures known) (c.apply.ensures.outcome ∙ sym c.in-Applied.ensures) c.apply.ensures.applied))
          (c.merge.ensures.slots),
      subst (λ n. n < c.merge.new.self.room) (sym (applied_room c.self.inside.durable c.apply.new.self 0 (write.Delete c.args.key) c.apply.result c.apply.ensures.applied))
          (subst (λ n. c.self.inside.durable.room < n) (sym c.merge.ensures.room) c.self.invariant.1),
    )
