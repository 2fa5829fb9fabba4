-- What a tick sends. It changes nothing.
use Rattle.std.specs.Prelude.{Option, Some, None, List, [], ◌∷◌, ◌++◌, if◌then◌else◌, nat_eq}
use Rattle.krl_messages.specs.declared.write_op.WriteOp.{WriteOp}
use Rattle.krl_messages.specs.declared.pieces.Pieces.{Pieces}
use Rattle.krl_messages.specs.declared.to_server.ToServer.{ToServer}
use Rattle.krl_messages.specs.declared.to_server.ToServerBody.TheVariants as said
use Rattle.krl_client.specs.Clients.{Client, LockRequest, NotAsked, Granted, Absent, Dropped, Waiting, outstanding, has_joined, from}
use Rattle.krl_client.specs.Commands.{says_lock, says_write}
use Rattle.krl_client.specs.Messages.{says_report, says_ack}

-- the waiting lock request
abbrev pub lock_again : Client → LockRequest → List ToServer
lock_again k (Waiting point hi mode) = says_lock k point hi mode ∷ []
lock_again k other = []

-- the outstanding write
abbrev pub write_again : Client → Option WriteOp → List ToServer
write_again k None = []
write_again k (Some change) = says_write k change ∷ []

-- the client asks to join
abbrev pub says_hello : Client → ToServer
says_hello k = from k said.Hello

-- if ps are its pieces
abbrev pub tick : Pieces → Client → List ToServer
tick ps k =
    if has_joined k
    then (if nat_eq k.seen 0 then says_report ps k else says_ack k)
    ∷ (lock_again k k.asked ++ write_again k (outstanding k.written))
    else says_hello k ∷ []
