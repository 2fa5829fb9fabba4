use Rattle.krl_world.proofs.Promises.TableBound.{bound_is_table}
use Rattle.krl_world.proofs.laws.bound_is_the_table.Goals as goal

pub returns : goal.returns
returns c = bound_is_table
