use Rattle.std.proofs.Common.{rules}
use Rattle.krl_client.specs.Fields.{meaning}
use Rattle.krl_client.specs.contracts.client.Client.{the_view}
use Rattle.krl_client.proofs.Cases.{ignores, other_client, other_incarnation}
use Rattle.krl_client.proofs.client.Client.step.Goals as goal

pub returns-then-message-self-clause-follows : goal.returns-then-message-self-clause-follows
returns-then-message-self-clause-follows c = rw (← c.self.view_is) (let k = meaning (the_view c.self.inside) in ignores k _ _ c.self.invariant.belief (other_client k c.args.message.now c.if-message-self.true) (search rules))

pub returns-then-message-self-2-clause-follows : goal.returns-then-message-self-2-clause-follows
returns-then-message-self-2-clause-follows c = rw (← c.self.view_is) (let k = meaning (the_view c.self.inside) in ignores k _ _ c.self.invariant.belief (other_incarnation k c.args.message.now c.if-message-self.false c.if-message-self-2.true) (search rules))
