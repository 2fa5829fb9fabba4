-- Parts, modes and spans may go to another thread.
use denote.Param.Send.{IsSend, sendable}
use Rattle.krl_modes.specs.contracts.part.RangePart as range_part
use Rattle.krl_modes.specs.contracts.mode.Mode as mode
use Rattle.krl_modes.specs.contracts.span.Span as span

pub range_part_sent : IsSend (range_part.the_field).row
range_part_sent = search sendable depth 20

pub mode_sent : IsSend (mode.the_field).row
mode_sent = search sendable depth 30

pub mode_row_sent : IsSend mode.the_row
mode_row_sent = search sendable depth 30

pub span_sent : IsSend (span.the_field).row
span_sent = search sendable depth 24 fits 4000
