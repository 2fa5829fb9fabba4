-- What a run of a script read and wrote.
use Rattle.std.specs.Prelude.{◌≡◌, ◌≢◌, ℕ, ◌⊎◌, true, List, [], ◌∷◌, ◌++◌, None, Some, Result, Ok, Err, is_err}
use Rattle.std.specs.IoError.{error_kind}
use Rattle.std_io.specs.declared.io.kind.ErrorKind.TheVariants.{Interrupted}
use Rattle.std.specs.Io.KnownBytes.{Appends, Consumes}
use Rattle.krl_text.specs.declared.fault.SyntaxFault.{SyntaxFault}
use Rattle.krl_text.specs.declared.fault.ScriptFault.{ScriptFault}
use Rattle.krl_text.specs.declared.fault.ScriptFault.TheVariants as script
use Rattle.krl_text.specs.Printing.{fault_line}
use Rattle.krl_text.specs.Transfers.{Known, ReadsWhole}
use Rattle.krl_script.specs.Transcripts.{Stage, ObeysLine, Prints, Transcript, End}

-- what may be written, and how it may end
abbrev pub Texts : Type 1
Texts = List ℕ → End → Type 0

-- a whole text was written, one with this end
pub record WroteWhole (before after : Known) (T : Texts) (end : End) : Type 0 where
  pub text : List ℕ
  pub appends : Appends before after text
  pub whole : T text end

-- the front of what may be written was written
pub record WroteFront (before after : Known) (T : Texts) : Type 0 where
  pub front : List ℕ
  pub rest : List ℕ
  pub end : End
  pub appends : Appends before after front
  pub whole : T (front ++ rest) end

-- How far the writer got, at each fault once the text is read. T states what may be written in all,
-- and the fault at its end.
abbrev pub Failed : Known → Known → Texts → ScriptFault → Type 0
Failed before after T (script.Syntax n what) = WroteWhole before after T (Some (n, what))
Failed before after T (script.Read e) = ⊥
Failed before after T script.NoEnd = ⊥
Failed before after T script.Write = WroteFront before after T
Failed before after T script.OutOfMemory = WroteFront before after T

-- how far the writer got
abbrev pub Wrote : {A : Type 0} → Known → Known → Texts → Result A ScriptFault → Type 0
Wrote before after T (Ok done) = WroteWhole before after T None
Wrote before after T (Err fault) = Failed before after T fault

-- the line of a fault was written, or the front of it if another fault came
abbrev pub EndsInFault : {A : Type 0} → Known → Known → ℕ → SyntaxFault →
    Result A ScriptFault → Type 0
EndsInFault before after n what r =
    (is_err r ≡ true)
    × Wrote before after (λ out end. (out ≡ fault_line n what) × (end ≡ Some (n, what))) r

-- a line was obeyed, and what it prints was written
pub record WroteLine (before after : Known) (s : Stage) (n : ℕ) (line : List ℕ) (s' : Stage) :
    Type 0 where
  pub printed : List ℕ
  pub obeys : ObeysLine s n line printed s'
  pub appends : Appends before after printed

-- A line was obeyed and what it prints was written; or it ends the script, whatever lines come
-- after it.
abbrev pub RunsLine : {A : Type 0} → Known → Known → Stage → ℕ → List ℕ → Result A ScriptFault →
    Stage → Type 0
RunsLine before after s n line (Ok done) s' = WroteLine before after s n line s'
RunsLine before after s n line (Err fault) s' =
    (more : List (List ℕ)) → Failed before after (Prints s n (line ∷ more)) fault

-- A whole text was read, and exactly its transcript was written, with this end.
pub record HasRun (unread left before after : Known) (end : End) : Type 0 where
  pub text : List ℕ
  pub reads : ReadsWhole unread left text
  pub writes : WroteWhole before after (Transcript text) end

-- A whole text was read, and the front of a transcript of it was written.
pub record HasBegun (unread left before after : Known) : Type 0 where
  pub text : List ℕ
  pub reads : ReadsWhole unread left text
  pub writes : WroteFront before after (Transcript text)

-- A text was read, perhaps in part, and nothing was written.
pub record HasOnlyRead (unread left before after : Known) : Type 0 where
  pub text : List ℕ
  pub reads : Consumes unread left text
  pub writes : Appends before after []

-- What a whole script did, by how it ended.
abbrev pub Ran : {A : Type 0} → Known → Known → Known → Known → Result A ScriptFault → Type 0
Ran unread left before after (Ok done) = HasRun unread left before after None
Ran unread left before after (Err (script.Syntax n what)) =
    HasRun unread left before after (Some (n, what))
Ran unread left before after (Err (script.Read e)) =
    (error_kind e ≢ Interrupted) × HasOnlyRead unread left before after
Ran unread left before after (Err script.NoEnd) = HasOnlyRead unread left before after
Ran unread left before after (Err script.Write) = HasBegun unread left before after
Ran unread left before after (Err script.OutOfMemory) =
    HasOnlyRead unread left before after ⊎ HasBegun unread left before after
