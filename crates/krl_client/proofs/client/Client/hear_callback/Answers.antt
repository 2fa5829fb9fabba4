use Rattle.std.proofs.Common.{sym, rules}
use Rattle.krl_client.specs.Fields.{meaning}
use Rattle.krl_client.specs.contracts.client.Client.{the_view}
use Rattle.krl_client.proofs.Cases.{ignores, callback_elsewhere, callback_written, callback_pinned}
use Rattle.krl_client.proofs.client.Client.hear_callback.Goals as goal

pub returns-then-epoch-self-clause-follows : goal.returns-then-epoch-self-clause-follows
returns-then-epoch-self-clause-follows c = rw (← c.self.view_is) (let k = meaning (the_view c.self.inside) in ignores k _ _ c.self.invariant.belief (callback_elsewhere k c.args.epoch c.args.span c.args.keep c.if-epoch-self.true) (search rules))

pub returns-then-is_writing_in-clause-follows : goal.returns-then-is_writing_in-clause-follows
returns-then-is_writing_in-clause-follows c = rw (← c.self.view_is) (let k = meaning (the_view c.self.inside) in
    ignores k _ _ c.self.invariant.belief (callback_written k c.args.epoch c.args.span c.args.keep c.if-epoch-self.false (sym (rw (← c.self.view_is) at c.if-is_writing_in.ensures))) (search rules))

pub returns-then-meets_pin-clause-follows : goal.returns-then-meets_pin-clause-follows
returns-then-meets_pin-clause-follows c = rw (← c.self.view_is) (let k = meaning (the_view c.self.inside) in
    ignores k _ _ c.self.invariant.belief (callback_pinned k c.args.epoch c.args.span c.args.keep c.if-epoch-self.false (sym (rw (← c.self.view_is) at c.if-is_writing_in.ensures)) (sym (rw (← c.self.view_is) at c.if-meets_pin.ensures))) (search rules))
