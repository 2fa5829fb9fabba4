-- The line of what is read of a world.
use Rattle.std.specs.Prelude.{ℕ, List, codes}
use Rattle.krl_world.specs.States.{State, ServerPlace, Up, Down, client_of, index_of, range_held, key_held}
use Rattle.krl_text.specs.declared.request.Query.{Query}
use Rattle.krl_text.specs.declared.request.Query.TheVariants as show
use Rattle.krl_text.specs.Printing.{line_of, hold_line, status_line, list_line, index_line, writes_line, check_line}
use Rattle.krl_script.specs.Soundness.{unsound_point}

-- the line of the clients that have not reported, if a server runs
abbrev pub missing_line : ServerPlace → List ℕ
missing_line (Up s) = list_line s.missing
missing_line (Down d) = line_of (codes "down")

-- the line of what is read of a world
abbrev pub shown_lines : State → Query → List ℕ
shown_lines w (show.Hold c p) = hold_line c p (range_held w c p) (key_held w c p)
shown_lines w (show.Status c) = status_line c (client_of w c)
shown_lines w show.Missing = missing_line w.server
shown_lines w show.Index = index_line (index_of w)
shown_lines w show.Writes = writes_line w.writes
shown_lines w show.Check = check_line (unsound_point w)
