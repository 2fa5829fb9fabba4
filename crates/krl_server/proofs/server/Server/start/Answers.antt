use Rattle.krl_server.proofs.Names.{◌<◌, ap, subst, END, Row}
use Rattle.krl_server.proofs.Functions.Started.{is_started, is_server}
use Rattle.krl_server.proofs.Functions.Roomed.{no_rooms}
use Rattle.krl_server.proofs.server.Server.start.Goals as goal

pub invariant_of-result : goal.invariant_of-result
invariant_of-result c = record {
  server = is_server c.args.durable _ (subst (λ n. n < END) c.epoch.ensures.epoch c.if-epoch-ge-END.false) c.next_epoch.ensures c.in-Ok.ensures.rows c.in-Ok.ensures.slots c.in-Ok.ensures.room c.in-Ok.ensures.full c.in-Ok.ensures.blank c.in-Ok.ensures.missing c.epoch.ensures.kept;
  room = no_rooms _ _ (λ n. ap (λ (r : Row). r.queue) (c.in-Ok.ensures.rows n)) c.in-Ok.ensures.rooms;
}

pub returns-in-Ok : goal.returns-in-Ok
returns-in-Ok c = is_started c.args.durable _ (subst (λ n. n < END) c.epoch.ensures.epoch c.if-epoch-ge-END.false) c.next_epoch.ensures c.in-Ok.ensures.rows c.in-Ok.ensures.slots c.in-Ok.ensures.room c.in-Ok.ensures.full c.in-Ok.ensures.blank c.in-Ok.ensures.missing
