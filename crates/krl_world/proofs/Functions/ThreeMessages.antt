-- No message has a client send more than three.
use Rattle.krl_world.proofs.Names.{◌≡◌, ◌≤◌, List, length, subst, sym, ToServer, Pieces, Client}
use Rattle.krl_client.specs.Messages.{ClientCase, sends}
use Rattle.krl_client.proofs.Always.{few_sent}

pub few_said : (ps : Pieces) (k : Client) (x : ClientCase) (list : List ToServer) → list ≡ sends ps k x → length list ≤ 3
few_said ps k x list e = subst (λ (l : List ToServer). length l ≤ 3) (sym e) (few_sent ps k x)
