-- What the calls on a server do: with the server, with what waits to be sent, and what they answer.
use Rattle.std.specs.Prelude.{None, ◌≡◌, ℕ, List, [], ◌++◌, Option, Some, Result, Ok, Err}
use Rattle.krl_messages.specs.declared.to_server.ToServer.{ToServer}
use Rattle.krl_messages.specs.declared.to_client.ToClient.{ToClient}
use Rattle.krl_wire.specs.declared.fault.Fault.{Fault}
use Rattle.krl_wire.specs.Reading as reading
use Rattle.krl_durable.specs.Changes.{IsChange}
use Rattle.krl_server.specs.declared.state.State.{State}
use Rattle.krl_server.specs.declared.out.ServerOut.{ServerOut}
use Rattle.krl_server.specs.Servers.{Server}
use Rattle.krl_server.specs.StateMeaning.{meaning}
use Rattle.krl_server.specs.Steps.{nudge}
use Rattle.krl_server.specs.CodeSteps.{HasStepped}
use Rattle.krl_embed.specs.declared.code.Code.{Code}
use Rattle.krl_embed.specs.declared.code.Code.TheVariants as code
use Rattle.krl_embed.specs.declared.endpoint.Endpoint.{Endpoint}
use Rattle.krl_embed.specs.declared.endpoint.Role.{Role}
use Rattle.krl_embed.specs.declared.endpoint.Role.TheVariants as role
use Rattle.krl_embed.specs.declared.reply.Reply.{Reply}
use Rattle.krl_embed.specs.declared.server_calls.Stepped.{Stepped}
use Rattle.krl_embed.specs.Replies.{code_of}
use Rattle.krl_embed.specs.Frames.{told_frames}
use Rattle.krl_embed.specs.Changes.{unchanged, change_row}
use Rattle.krl_embed.specs.Clients.{fault_number}
use Rattle.krl_embed.specs.Endpoints.{IsCode}

-- this code, and nothing has changed
abbrev pub IsUnchanged : Code → Stepped → Type 0
IsUnchanged c r = IsCode c r.reply × (r.change ≡ unchanged)

-- the server took the message, which raised no alarm, and what it changed is reported
pub record HasActed (s : Server) (m : ToServer) (t : Server) (out : ServerOut) (r : Stepped) : Type 0 where
  pub stepped : HasStepped s m t out
  pub calm : out.alarm ≡ None
  pub change : IsChange s.durable t.durable out.change
  pub told : r.change ≡ change_row out.change

-- the report contradicts what the server knows: the sender is reported, and nothing changes
pub record HasAlarmed (s : Server) (m : ToServer) (t : Server) (out : ServerOut) (r : Stepped) : Type 0 where
  pub stepped : HasStepped s m t out
  pub client : out.alarm ≡ Some r.reply.detail
  pub same : t ≡ s
  pub silent : out.messages ≡ []
  pub told : r.change ≡ unchanged

-- What is sent waits after all others, or is lost; what has changed is reported in both cases. Or nothing changes.
abbrev pub Acts : ToServer → State → List ℕ → State → List ℕ → Stepped → Option Code → Type 0
Acts m s old t new r (Some code.Done) =
    (out : ServerOut) × HasActed (meaning s) m (meaning t) out r × (new ≡ old ++ told_frames out.messages)
    × (r.reply.detail ≡ 0)
Acts m s old t new r (Some code.Unsaid) =
    (out : ServerOut) × HasActed (meaning s) m (meaning t) out r × (new ≡ old) × (r.reply.detail ≡ 0)
Acts m s old t new r (Some code.Alarm) =
    (out : ServerOut) × HasAlarmed (meaning s) m (meaning t) out r × (new ≡ old)
Acts m s old t new r (Some code.OutOfMemory) =
    (t ≡ s) × (new ≡ old) × (r.change ≡ unchanged) × (r.reply.detail ≡ 0)
Acts m s old t new r _ = ⊥

-- bytes that are no message change nothing; the fault is reported, unless memory runs out first
abbrev pub IsRefused : Fault → State → List ℕ → State → List ℕ → Stepped → Option Code → Type 0
IsRefused f s old t new r (Some code.BadMessage) =
    (t ≡ s) × (new ≡ old) × (r.change ≡ unchanged) × (r.reply.detail ≡ fault_number f)
IsRefused f s old t new r (Some code.OutOfMemory) =
    (t ≡ s) × (new ≡ old) × (r.change ≡ unchanged) × (r.reply.detail ≡ 0)
IsRefused f s old t new r _ = ⊥

abbrev pub HearsRead : Result ToServer Fault → State → List ℕ → State → List ℕ → Stepped → Type 0
HearsRead (Ok m) s old t new r = Acts m s old t new r (code_of r.reply)
HearsRead (Err f) s old t new r = IsRefused f s old t new r (code_of r.reply)

-- the server is given these bytes
abbrev pub Hears : List ℕ → State → List ℕ → State → List ℕ → Stepped → Type 0
Hears bytes s old t new r = HearsRead (reading.to_server_of bytes) s old t new r

-- a nudge sends what a nudge sends, or memory is refused, and changes nothing else
abbrev pub NudgesAs : List ToClient → List ℕ → List ℕ → Option Code → Type 0
NudgesAs outs old new (Some code.Done) = new ≡ old ++ told_frames outs
NudgesAs outs old new (Some code.Unsaid) = new ≡ old
NudgesAs outs old new (Some code.OutOfMemory) = new ≡ old
NudgesAs outs old new _ = ⊥

abbrev pub Nudges : ℕ → State → List ℕ → State → List ℕ → Reply → Type 0
Nudges c s old t new r = (t ≡ s) × (r.detail ≡ 0) × NudgesAs (nudge (meaning s) c) old new (code_of r)

-- a call on a server, which is there before and after; nothing changes if there is none
abbrev pub OnServerRole : {R : Type 0} → (Code → R → Type 0) → (State → List ℕ → State → List ℕ → R → Type 0)
    → Role → List ℕ → Role → List ℕ → R → Type 0
OnServerRole Is Does (role.Server s) old (role.Server t) new r = Does s old t new r
OnServerRole Is Does (role.Server s) old (role.Client k) new r = ⊥
OnServerRole Is Does (role.Server s) old (role.Left bye) new r = ⊥
OnServerRole Is Does (role.Client k) old now new r = (now ≡ role.Client k) × (new ≡ old) × Is code.NoServer r
OnServerRole Is Does (role.Left bye) old now new r = (now ≡ role.Left bye) × (new ≡ old) × Is code.NoServer r

abbrev pub OnServer : {R : Type 0} → (Code → R → Type 0) → (State → List ℕ → State → List ℕ → R → Type 0)
    → Endpoint → Endpoint → R → Type 0
OnServer Is Does e f r = OnServerRole Is Does e.role e.outgoing f.role f.outgoing r
