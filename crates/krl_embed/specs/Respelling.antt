-- A message that is read, and written again.
use Rattle.std.specs.Prelude.{◌≡◌, ℕ, List, Option, Some, Result, Ok, Err}
use Rattle.krl_wire.specs.declared.fault.Fault.{Fault}
use Rattle.krl_embed.specs.declared.code.Code.{Code}
use Rattle.krl_embed.specs.declared.code.Code.TheVariants as code
use Rattle.krl_embed.specs.declared.reply.Reply.{Reply}
use Rattle.krl_embed.specs.Replies.{code_of}
use Rattle.krl_embed.specs.Clients.{fault_number}
use Rattle.krl_embed.specs.Shown.{Copies}

-- the bytes are the spelling of the message that is read from them
abbrev pub IsSpelled : {M : Type 0} → Result M Fault → (M → List ℕ) → List ℕ → Type 0
IsSpelled (Ok m) spell bytes = bytes ≡ spell m
IsSpelled (Err f) spell bytes = ⊥

-- The spelling of what is read goes in front of the room's old bytes, or the room is too short: it is the same bytes.
-- Bytes that are no message are refused for their first fault. But if it is done the room stays as it was.
abbrev pub RespellsAs : {M : Type 0} → Result M Fault → (M → List ℕ) → List ℕ → List ℕ → List ℕ → Reply
    → Option Code → Type 0
RespellsAs read spell bytes was now r (Some code.Done) = IsSpelled read spell bytes × Copies bytes was now r
RespellsAs read spell bytes was now r (Some code.TooShort) = IsSpelled read spell bytes × Copies bytes was now r
RespellsAs read spell bytes was now r (Some code.BadMessage) =
    (f : Fault) × (read ≡ Err f) × (r.detail ≡ fault_number f) × (now ≡ was)
RespellsAs read spell bytes was now r (Some code.OutOfMemory) = (now ≡ was) × (r.detail ≡ 0)
RespellsAs read spell bytes was now r _ = ⊥

abbrev pub Respells : {M : Type 0} → (List ℕ → Result M Fault) → (M → List ℕ) → List ℕ → List ℕ → List ℕ → Reply
    → Type 0
Respells read spell bytes was now r = RespellsAs (read bytes) spell bytes was now r (code_of r)
