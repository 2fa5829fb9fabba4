-- The exit status of words that ask for no run.
use Rattle.std.specs.Prelude.{ℕ}
use Rattle.clap.specs.declared.error.kind.ErrorKind.{ErrorKind}
use Rattle.clap.specs.declared.error.kind.ErrorKind.TheVariants.{OutOfMemory}

-- 1 if memory ran out, otherwise 2: words that ask for help ask for no run
abbrev pub words_status : ErrorKind → ℕ
words_status OutOfMemory = 1
words_status other = 2
