use Rattle.krl_world.proofs.Promises.Unbroken.{serves_on}
use Rattle.krl_world.proofs.laws.serves_on.Goals as goal

pub returns : goal.returns
returns c = serves_on
