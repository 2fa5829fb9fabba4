-- What each call of a client is in the machine.
use Rattle.krl_refinement.specs.Client.Simulation.{StartShows, CrashShows, CommandsShow, TicksShow, MessagesShow}
use Rattle.krl_refinement.proofs.Client.Steps.{rests, other_parts, starting, crashing, leaving, locks_show, writes_show, seizes_show, given_back_shows}
use Rattle.krl_refinement.proofs.Client.Repeats.{ticks_show}
use Rattle.krl_refinement.proofs.Client.Receives.{receives_show}
use Rattle.krl_refinement.proofs.Names.{with_pin, None, Some}

pub start_shows : StartShows
start_shows s l c g h = starting s l c g h

pub crash_shows : CrashShows
crash_shows k s l c g h = crashing s l c g k h

pub commands_show : CommandsShow
commands_show = record {
  lock = λ k point hi mode e s l c g h. locks_show s l c g k point hi mode h e;
  write = λ k change e s l c g h. writes_show s l c g k change h e;
  seize = λ k change e s l c g h. seizes_show s l c g k change h e;
  scan = λ k s l c g h. rests s l c g (Some k) h;
  lower = λ k span keep e s l c g h. given_back_shows s l c g k span keep h e;
  pin = λ k span id s l c g h. rests s l c g _ (h.0, other_parts c k l.client k.req k.asked (with_pin k.pins id (Some span)) h.1);
  unpin = λ k id s l c g h. rests s l c g _ (h.0, other_parts c k l.client k.req k.asked (with_pin k.pins id None) h.1);
  leave = λ k s l c g h. leaving s l c g k h;
}

pub ticks_show_all : TicksShow
ticks_show_all k ps d s l c g h = ticks_show s l c g k ps d h

pub messages_show : MessagesShow
messages_show k ps m d s l c g h at = receives_show s l c g k ps m d h at
