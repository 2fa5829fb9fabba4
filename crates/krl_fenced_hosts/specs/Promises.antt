-- What holds of processes that run servers over one store.
use Rattle.std.specs.Prelude.{◌≡◌, ℕ, false, Some}
use Rattle.krl_messages.specs.declared.to_server.ToServer.{ToServer}
use Rattle.krl_messages.specs.Members.{In}
use Rattle.krl_server.specs.Steps.{alarms}
use Rattle.krl_world.specs.declared.message.Message.TheVariants as message
use Rattle.krl_fenced_hosts.specs.Processes.{Process, StoreWorld}

-- On no message that has left a client does the server of a process report Alarm, as long as the process knows the
-- store's last transaction. What any other process would change by an alarm, the store refuses
abbrev pub NeverAlarms : StoreWorld → Type 0
NeverAlarms w =
    (p : ℕ) (x : Process) (m : ToServer) → w.processes p ≡ Some x → x.mark ≡ w.mark →
    In (message.ToServer m) w.world.sent → alarms x.host.memory m ≡ false
