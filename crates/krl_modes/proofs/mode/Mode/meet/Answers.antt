use Rattle.std.proofs.Common.{◌≡◌, rules}
use Rattle.krl_modes.specs.Modes.{meet}
use Rattle.krl_modes.proofs.ModeLaws.{meet_bound}
use Rattle.krl_modes.proofs.mode.Mode.meet.Goals as goal

pub returns-clause-greatest : goal.returns-clause-greatest
returns-clause-greatest c =
    let is_meet : c.at_or_above.result ≡ meet c.args.self c.args.other = search rules in
    rw is_meet (meet_bound c.args.self c.args.other)
