use Rattle.krl_lease_table.proofs.FlatRows.{with_one}
use Rattle.krl_lease_table.proofs.table.LeaseTable.set.Goals as goal

pub returns-then-client : goal.returns-then-client
returns-then-client c = with_one c.args.self.now c.args.client c.of.result c.args.row c.of.ensures
