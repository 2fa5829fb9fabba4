use Rattle.std.proofs.Common.{sym, rules}
use Rattle.krl_client.specs.Fields.{meaning}
use Rattle.krl_client.specs.contracts.client.Client.{the_view}
use Rattle.krl_client.proofs.Cases.{ignores, push_elsewhere, push_unfit, push_other}
use Rattle.krl_client.proofs.client.Client.hear_push.Goals as goal

pub returns-then-epoch-self-clause-follows : goal.returns-then-epoch-self-clause-follows
returns-then-epoch-self-clause-follows c = rw (← c.self.view_is) (let k = meaning (the_view c.self.inside) in ignores k _ _ c.self.invariant.belief (push_elsewhere k c.args.epoch c.args.number c.args.body.now c.if-epoch-self.true) (search rules))

pub returns-then-not-fits-clause-follows : goal.returns-then-not-fits-clause-follows
returns-then-not-fits-clause-follows c = rw (← c.self.view_is) (let k = meaning (the_view c.self.inside) in ignores k _ _ c.self.invariant.belief (push_unfit k c.args.epoch c.args.number c.args.body.now c.if-epoch-self.false (sym c.if-not-fits.ensures)) (search rules))

pub returns-clause-follows : goal.returns-clause-follows
returns-clause-follows c = rw (← c.self.view_is) (let k = meaning (the_view c.self.inside) in
    ignores k _ _ c.self.invariant.belief (push_other k c.args.epoch c.args.number c.args.body.now c.if-epoch-self.false (sym c.if-not-fits.ensures) (sym (rw (← c.self.view_is) at c.if-is_next.ensures)) c.if-number-self.false) (search rules))
