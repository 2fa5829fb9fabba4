-- What came of the words of a command line.
use Rattle.std.specs.Prelude.{◌≡◌, ◌⊎◌, ℕ, ◌<◌, List, [], ◌++◌, length, drop, Some}
use Rattle.clap.specs.declared.error.kind.ErrorKind.{ErrorKind}
use Rattle.krl_command_line.specs.Statuses.{words_status}
use Rattle.krl_command_line.specs.declared.command.Request.{Request}
use Rattle.krl_text.specs.Transfers.{Known}
use Rattle.krl_runs.specs.Requests.{Obeyed}
use Rattle.krl_simulator.specs.declared.exports.Ending.{Ending}

-- The status of words that ask for no run: 1 if memory ran out, otherwise 2.
abbrev pub Refused : ℕ → Type 0
Refused status = (kind : ErrorKind) × (status ≡ words_status kind)

-- What the words ask for was done with this text. Or nothing was written: the words ask for no run, or the text can't
-- be read.
abbrev pub Answered : List ℕ → Known → Known → ℕ → Type 0
Answered text before after status =
    ((request : Request) × Obeyed request text before after status)
    ⊎ ((after ≡ before) × (Refused status ⊎ (status ≡ 1)))

-- The bytes are at the front of the room, with this status, and its other bytes are as they were; or they are more than
-- the room is long: then it is as it was, and the status is 1.
abbrev pub HandedOver : ℕ → List ℕ → List ℕ → List ℕ → Ending → Type 0
HandedOver status printed was now e =
    ((e.status ≡ status) × (e.printed ≡ length printed) × (now ≡ printed ++ drop (length printed) was))
    ⊎ ((length was < length printed) × (e.status ≡ 1) × (e.printed ≡ 0) × (now ≡ was))

-- Some bytes were printed in answer to the words, and handed over.
pub record Simulated (text was now : List ℕ) (e : Ending) : Type 0 where
  pub status : ℕ
  pub printed : List ℕ
  pub answered : Answered text (Some []) (Some printed) status
  pub given : HandedOver status printed was now e
