use Rattle.std.proofs.Common.{subst}
use Rattle.krl_cache.specs.declared.scanned.Scanned.TheVariants as scanned
use Rattle.krl_cache.specs.Beliefs.{Scans}
use Rattle.krl_cache.specs.Maps.{maps_believe}
use Rattle.krl_client.specs.Fields.{KeptClient}
use Rattle.krl_client.specs.Commands.{finds_rows, misses}
use Rattle.krl_client.proofs.client.Client.find.Goals as goal

pub returns-in-Rows-clause-answer : goal.returns-in-Rows-clause-answer
returns-in-Rows-clause-answer c =
    rw (← c.in-Ok.ensures.span) (
    finds_rows c.in-Rows.rows c.in_default-pending_key_in.ensures
    (subst (λ (k : KeptClient). Scans (maps_believe k.cache) c.in-Ok.span (scanned.Rows c.in-Rows.rows)) c.self.view_is
    (rw c.in-Rows.is at c.find.ensures))
    )

pub returns-in-Miss-clause-answer : goal.returns-in-Miss-clause-answer
returns-in-Miss-clause-answer c =
    rw (← c.in-Ok.ensures.span) (
    misses c.in-Miss.p c.in_default-pending_key_in.ensures
    (subst (λ (k : KeptClient). Scans (maps_believe k.cache) c.in-Ok.span (scanned.Miss c.in-Miss.p)) c.self.view_is
    (rw c.in-Miss.is at c.find.ensures))
    )
