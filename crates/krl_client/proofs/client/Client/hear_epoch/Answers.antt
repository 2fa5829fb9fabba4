use Rattle.std.proofs.Common.{rules}
use Rattle.krl_client.specs.Fields.{meaning}
use Rattle.krl_client.specs.contracts.client.Client.{the_view}
use Rattle.krl_client.proofs.Cases.{ignores, epoch_known}
use Rattle.krl_client.proofs.client.Client.hear_epoch.Goals as goal

pub returns-then-epoch-self-clause-follows : goal.returns-then-epoch-self-clause-follows
returns-then-epoch-self-clause-follows c = rw (← c.self.view_is) (let k = meaning (the_view c.self.inside) in ignores k _ _ c.self.invariant.belief (epoch_known k c.args.epoch c.if-epoch-self.true) (search rules))
