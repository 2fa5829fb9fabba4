use Rattle.std.proofs.Common.{true, sym, ◌∙◌, arith}
use Rattle.std.proofs.lemmas.Result.{IfOk-weaker}
use Rattle.krl_script.specs.Fields.{meaning}
use Rattle.krl_script.specs.contracts.interpreter.Interpreter.{the_view}
use Rattle.krl_script.proofs.Interpreting.{settles_idle, settles_refused, settles_at_bound, settles_unsettled, delivers_more}
use Rattle.krl_script.proofs.interpreter.Interpreter.settle.Goals as goal

pub returns-in-Idle : goal.returns-in-Idle
returns-in-Idle c =
    settles_idle c.args.most c.args.unsettled.now (meaning c.args.self.now) (meaning c.deliveries.self) (meaning c.deliver_oldest.new.self) c.deliveries.counter c.new.result.bytes.items c.in_ok-deliver_oldest.field-0 (omega arith)
    c.deliveries.invariant.many c.in_ok-deliver_oldest.ensures c.in-Idle.is c.new.ensures.bytes

pub returns-in-Refused : goal.returns-in-Refused
returns-in-Refused c =
    IfOk-weaker c.refused.result _ _ (λ line e.
    settles_refused c.args.most c.args.unsettled.now (meaning c.args.self.now) (meaning c.deliveries.self) (meaning c.deliver_oldest.new.self) c.deliveries.counter line.bytes.items c.in_ok-deliver_oldest.field-0 c.in-Refused.refused (omega arith)
    c.deliveries.invariant.many c.in_ok-deliver_oldest.ensures c.in-Refused.is e)
    c.refused.ensures

pub deliveries-preserved : goal.deliveries-preserved
deliveries-preserved c =
    record {
      many = delivers_more (record (meaning c.args.self.now) { begun = true }) (meaning c.deliveries.self) (meaning c.deliver_oldest.new.self) c.deliveries.counter c.in_ok-deliver_oldest.field-0 c.deliveries.invariant.many c.in_ok-deliver_oldest.ensures c.in-Delivered.is;
    }

pub returns-then-is_some : goal.returns-then-is_some
returns-then-is_some c =
    IfOk-weaker c.text.result _ _ (λ line e.
    settles_unsettled c.args.most c.args.unsettled.now (meaning c.args.self.now) (the_view c.self-2.inside) c.deliveries.self c.oldest.new.self c.deliveries.counter line.bytes.items c.oldest.result c.self-2.view_is c.oldest.ensures.same (omega arith)
    c.deliveries.invariant.many c.oldest.ensures.oldest (sym c.is_some.ensures ∙ c.if-is_some.true) e)
    c.text.ensures

pub returns : goal.returns
returns c =
    settles_at_bound c.args.most c.args.unsettled.now (meaning c.args.self.now) (the_view c.self-2.inside) c.deliveries.self c.oldest.new.self c.deliveries.counter c.new-2.result.bytes.items c.oldest.result c.self-2.view_is c.oldest.ensures.same (omega arith)
    c.deliveries.invariant.many c.oldest.ensures.oldest (sym c.is_some.ensures ∙ c.if-is_some.false) c.new-2.ensures.bytes
