-- What a server does with a message that raises an alarm, and what is reported of a step.
use Rattle.std.proofs.Common.{◌≡◌, ◌∙◌, ℕ, List, [], Bool, true, false, Option, Some, None, Result, Ok, Err, ap, refl, sym}
use Rattle.std.specs.Prelude.{if◌then◌else◌}
use Rattle.krl_messages.specs.declared.to_server.ToServer.{ToServer}
use Rattle.krl_messages.specs.declared.to_client.ToClient.{ToClient}
use Rattle.krl_wire.specs.declared.fault.Fault.{Fault}
use Rattle.krl_server.specs.declared.state.State.{State}
use Rattle.krl_server.specs.declared.out.ServerOut.{ServerOut}
use Rattle.krl_server.specs.StateMeaning.{meaning}
use Rattle.krl_server.specs.Servers.{Server}
use Rattle.krl_server.specs.Effects.{Done, effect}
use Rattle.krl_server.specs.Cases.{Case, Alarms, case_of, is_alarm}
use Rattle.krl_server.specs.Steps.{Following, Nothing, Ends, at_once, recovers, serves, following}
use Rattle.krl_server.specs.CodeSteps.{HasStepped}
use Rattle.krl_embed.specs.declared.code.Code.TheVariants as code
use Rattle.krl_embed.specs.declared.server_calls.Stepped.{Stepped}
use Rattle.krl_embed.specs.Replies.{code_of}
use Rattle.krl_embed.specs.Changes.{unchanged}
use Rattle.krl_embed.specs.Servers.{Acts, HearsRead}

-- a step that has not acted ends at once
idle_ends : (done : Done) (kind : Following) (t : Server) (outs : List ToClient) → kind ≡ Nothing → Ends done kind t outs
    → (t ≡ done.server) × (outs ≡ done.outs)
idle_ends done kind t outs idle (at_once e) = (refl, refl)
idle_ends done kind t outs idle (recovers g) = (refl, refl)
idle_ends done kind t outs idle (serves u answers acts g a) = absurd (acts idle)

alarm_ends : (s : Server) (m : ToServer) (x : Case) (t : Server) (outs : List ToClient) → is_alarm x ≡ true
    → Ends (effect s m x) (following x) t outs → (t ≡ s) × (outs ≡ [])
alarm_ends s m Alarms t outs is ends = idle_ends (effect s m Alarms) Nothing t outs refl ends
alarm_ends s m _ t outs is ends = absurd cc

alarm_is : (b : Bool) (n : ℕ) (o : Option ℕ) (c : ℕ) → o ≡ Some c → o ≡ (if b then Some n else None) → b ≡ true
alarm_is true n o c some is = refl
alarm_is false n o c some is = absurd cc

pub alarmed : (m : ToServer) (s t : State) (old : List ℕ) (out : ServerOut) (client : ℕ) (r : Stepped)
    → HasStepped (meaning s) m (meaning t) out → out.alarm ≡ Some client
    → code_of r.reply ≡ Some code.Alarm → r.reply.detail ≡ client → r.change ≡ unchanged
    → Acts m s old t old r (code_of r.reply)
alarmed m s t old out client r stepped alarm is detail told =
    let still = alarm_ends (meaning s) m (case_of (meaning s) m) (meaning t) out.messages
    (alarm_is (is_alarm (case_of (meaning s) m)) m.client out.alarm client alarm stepped.alarm) stepped.step in
    rw is (
      out,
      record {
        stepped = stepped;
        client = alarm ∙ ap (λ (n : ℕ). Some n) (sym detail);
        same = still.0;
        silent = still.1;
        told = told;
      },
      refl,
    )

pub no_room : (read : Result ToServer Fault) (s t : State) (old new : List ℕ) (r : Stepped)
    → code_of r.reply ≡ Some code.OutOfMemory → r.reply.detail ≡ 0 → t ≡ s → new ≡ old → r.change ≡ unchanged
    → HearsRead read s old t new r
no_room (Ok m) s t old new r is detail same kept told = rw is (same, kept, told, detail)
no_room (Err f) s t old new r is detail same kept told = rw is (same, kept, told, detail)
