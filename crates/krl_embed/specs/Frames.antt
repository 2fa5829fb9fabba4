-- What waits to be sent: each message after its length.
use Rattle.std.specs.Prelude.{◌≡◌, ℕ, List, ◌++◌, length, Option, Some, None}
use Rattle.std.specs.List.{flat_map}
use Rattle.krl_messages.specs.declared.to_server.ToServer.{ToServer}
use Rattle.krl_messages.specs.declared.to_client.ToClient.{ToClient}
use Rattle.krl_wire.specs.Spelling.{number, to_server, to_client}
use Rattle.krl_embed.specs.declared.code.Code.{Code}
use Rattle.krl_embed.specs.declared.code.Code.TheVariants as code

-- the length in eight bytes, and the message
abbrev pub frame : List ℕ → List ℕ
frame bytes = number (length bytes) ++ bytes

abbrev pub said_frame : ToServer → List ℕ
said_frame m = frame (to_server m)

abbrev pub told_frame : ToClient → List ℕ
told_frame m = frame (to_client m)

-- what a client sends, and what a server sends
abbrev pub said_frames : List ToServer → List ℕ
said_frames ms = flat_map said_frame ms

abbrev pub told_frames : List ToClient → List ℕ
told_frames ms = flat_map told_frame ms

-- Done: these wait after all others. Unsaid: what waits is as it was. It is no other code.
abbrev pub Waits : List ℕ → List ℕ → List ℕ → Code → Type 0
Waits frames old new code.Done = new ≡ old ++ frames
Waits frames old new code.Unsaid = new ≡ old
Waits frames old new _ = ⊥

-- the same, if the code is one
abbrev pub WaitsBy : List ℕ → List ℕ → List ℕ → Option Code → Type 0
WaitsBy frames old new None = ⊥
WaitsBy frames old new (Some c) = Waits frames old new c
