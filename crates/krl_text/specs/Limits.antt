-- The limits of a script and of a random run, as numerals.
use Rattle.std.specs.Prelude.{ℕ}

-- the most bytes of a text
abbrev pub max_text : ℕ
max_text = 1048576

-- the most lines of a text
abbrev pub max_lines : ℕ
max_lines = 10000

-- the most bytes of a line, its end not counted
abbrev pub max_line : ℕ
max_line = 256

-- the most deliveries of one `settle`
abbrev pub max_deliveries : ℕ
max_deliveries = 100000

-- the most reads of a text
abbrev pub max_turns : ℕ
max_turns = 2097152

-- the most interruptions in the writing of one line
abbrev pub max_interruptions : ℕ
max_interruptions = 2097152

-- the most steps of a random run
abbrev pub max_steps : ℕ
max_steps = 100000
