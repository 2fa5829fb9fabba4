use Rattle.std.proofs.Common.{◌≤◌, length, arith}
use Rattle.krl_client.specs.Fields.{meaning}
use Rattle.krl_client.specs.Messages.{client_case_of}
use Rattle.krl_world.proofs.Functions.ThreeMessages.{few_said}
use Rattle.krl_world.proofs.client_steps.read.Goals as goal

pub send_to_server-requires : goal.send_to_server-requires
send_to_server-requires c =
    let f = c.in_ok-messages.ensures.follows in
    let k = meaning c.args.client.now in
    let few : length c.in_ok-messages.messages.items ≤ 3 = few_said f.pieces k (client_case_of k c.args.message.now) c.in_ok-messages.messages.items f.says in
    omega (arith, c.in_ok-reserve.ensures.ok)
