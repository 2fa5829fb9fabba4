use Rattle.krl_leases.proofs.Lengths as lengths
use Rattle.krl_leases.proofs.laws.steady_agree.Goals as goal

pub returns : goal.returns
returns c = lengths.steady_agree
