-- What reads and writes state of bytes, and when they fail. A reader or a writer that does not state its bytes is read
-- or written as `None`.
use Rattle.std.specs.Prelude.{◌≡◌, ◌≢◌, ℕ, ◌+◌, ◌<◌, ◌≤◌, ⊤, List, length, Option, None, Some, Result, Ok, Err}
use Rattle.std.specs.IoError.{error_kind}
use Rattle.std_io.specs.declared.io.error.Error.{Error}
use Rattle.std_io.specs.declared.io.kind.ErrorKind.TheVariants.{Interrupted}
use Rattle.std.specs.Io.KnownBytes.{Consumes, IsAtEnd}
use Rattle.krl_text.specs.declared.fault.ScriptFault.{ScriptFault}
use Rattle.krl_text.specs.declared.fault.ScriptFault.TheVariants as script
use Rattle.krl_text.specs.Limits.{max_interruptions, max_text}

-- the bytes that a reader has left or a writer holds, if it states them
abbrev pub Known : Type 0
Known = Option (List ℕ)

-- a count that is known grows by n
abbrev pub Counts : Option ℕ → Option ℕ → ℕ → Type 0
Counts None after n = ⊤
Counts (Some k) None n = ⊥
Counts (Some k) (Some m) n = m ≡ k + n

-- A read of a reader that is interrupted at most n times, and fails in no other way, if such an
-- n is known.
abbrev pub ReadsOn : Option ℕ → Option ℕ → Result ℕ Error → Type 0
ReadsOn None after r = ⊤
ReadsOn (Some n) after (Ok count) = after ≡ Some n
ReadsOn (Some n) after (Err e) =
    (error_kind e ≡ Interrupted) × (m : ℕ) × (n ≡ m + 1) × (after ≡ Some m)

-- A write of so many bytes to a writer that is interrupted at most n times, and fails in no other
-- way, if such an n is known.
abbrev pub WritesOn : Option ℕ → Option ℕ → ℕ → Result ℕ Error → Type 0
WritesOn None after given r = ⊤
WritesOn (Some n) after given (Ok count) = (0 < given → 0 < count) × (after ≡ Some n)
WritesOn (Some n) after given (Err e) =
    (error_kind e ≡ Interrupted) × (m : ℕ) × (n ≡ m + 1) × (after ≡ Some m)

-- Of a writer: it is interrupted no more often than is tried again in one line, and fails in no
-- other way.
abbrev pub IsSteady : Option ℕ → Type 0
IsSteady None = ⊥
IsSteady (Some n) = n ≤ max_interruptions

-- A fault that comes of reading. A read that is interrupted is no fault.
abbrev pub ComesOfReading : ScriptFault → Type 0
ComesOfReading (script.Read e) = error_kind e ≢ Interrupted
ComesOfReading script.NoEnd = ⊤
ComesOfReading script.Write = ⊥
ComesOfReading script.OutOfMemory = ⊤
ComesOfReading (script.Syntax n what) = ⊥

-- What may end the reading of a reader that is interrupted at most n times, and fails in no other
-- way.
abbrev pub MayEndReading : ℕ → ScriptFault → Type 0
MayEndReading n (script.Read e) = ⊥
MayEndReading n script.NoEnd = 1048575 < n
MayEndReading n script.Write = ⊤
MayEndReading n script.OutOfMemory = ⊤
MayEndReading n (script.Syntax line what) = ⊤

-- A text was read, to the reader's end unless it is too long.
abbrev pub ReadsWhole : Known → Known → List ℕ → Type 0
ReadsWhole unread left text = Consumes unread left text × (length text ≤ max_text → IsAtEnd left)
