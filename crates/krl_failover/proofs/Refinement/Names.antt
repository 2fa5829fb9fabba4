-- The names that the proofs about old servers cite, passed on from one place. Declares nothing.
pub use Rattle.std.proofs.Common.{◌≡◌, ◌≢◌, ℕ, suc, ◌<◌, ◌≤◌, ◌⊎◌, inl, inr, ⊎_elim, Bool, true, false, not, ◌||◌, cond, if◌then◌else◌, nat_eq, nat_lt, eq-eqb, ne_eqb, Option, Some, None, List, [], ◌∷◌, ◌++◌}
pub use Rattle.std.proofs.Common.{refl, sym, ap, subst, ◌∙◌, arith}
pub use Rattle.std.proofs.lemmas.Bool.{and_parts}
pub use Rattle.std.proofs.lemmas.Option.{none-some, same_Some}
pub use Rattle.std.specs.Prelude.{is_some}
pub use Rattle.std.specs.List.{AllByRecursion}
pub use Rattle.krl_modes.specs.declared.point.TheConstants.{END}
pub use Rattle.krl_modes.specs.declared.part.RangePart.{RangePart}
pub use Rattle.krl_modes.specs.declared.part.KeyPart.{KeyPart}
pub use Rattle.krl_modes.specs.declared.mode.Mode.{Mode}
pub use Rattle.krl_modes.specs.Modes.{range_of, key_of}
pub use Rattle.krl_modes.specs.Spans.{Bounds}
pub use Rattle.krl_messages.specs.Values.{Value}
pub use Rattle.krl_messages.specs.Members.{In}
pub use Rattle.krl_messages.specs.Writes.{op_key, is_applied}
pub use Rattle.krl_messages.specs.declared.outcome.Outcome.{Outcome}
pub use Rattle.krl_messages.specs.declared.pieces.Pieces.{Pieces}
pub use Rattle.krl_messages.specs.declared.write_op.WriteOp.{WriteOp}
pub use Rattle.krl_messages.specs.declared.to_client.PushBody.{PushBody}
pub use Rattle.krl_messages.specs.declared.to_client.ToClient.{ToClient}
pub use Rattle.krl_messages.specs.declared.to_server.ToServer.{ToServer}
pub use Rattle.krl_messages.proofs.Members.{in_both}
pub use Rattle.krl_queue.specs.declared.waiter.Waiter.{Waiter}
pub use Rattle.krl_durable.specs.declared.record.Record.{Record}
pub use Rattle.krl_durable.specs.Registers.{record_of}
pub use Rattle.krl_table.specs.Rows.{Row, Rows, mode_at, column, set_row}
pub use Rattle.krl_table.specs.Points.{range_at, key_at}
pub use Rattle.krl_machine.specs.Links.{Head, Notice, Push, Write, Said, Release, Shared, Link, MaySay, IsSlot, IsRow, Recovering, Serving, no_range, no_key}
pub use Rattle.krl_machine.specs.Worlds.{Logged, Changed}
pub use Rattle.krl_machine.proofs.Steps.{put, put_changed}
pub use Rattle.krl_machine.proofs.Worlds.{eq_cases}
pub use Rattle.krl_server.specs.declared.session.Session.{Session}
pub use Rattle.krl_server.specs.Servers.{Server, is_recovering, lists, set_session, incarnation_or_0}
pub use Rattle.krl_server.specs.Effects.{Done, silent, with_session, with_rows, acknowledged, epoch_to, push_to, pushes}
pub use Rattle.krl_server.specs.Soundness.{IsSound}
pub use Rattle.krl_server.proofs.Updates.{session_here, session_other}
pub use Rattle.krl_server.proofs.Tests.{if_case, none_of}
pub use Rattle.krl_refinement.specs.Messages.{WasSent, IsTold, Stands, push_of}
pub use Rattle.krl_refinement.specs.Client.Shows.{Grows, ServerPart, server_part}
pub use Rattle.krl_refinement.proofs.Messages.{sent_stays}
pub use Rattle.krl_refinement.proofs.Client.Basics.{grows_not, grows_on}
pub use Rattle.krl_failover.specs.Fenced.{Kept, Fenced, IsHere, Turned, MayPush, AnswersKept, seen_by}
pub use Rattle.krl_failover.specs.Steps.{FencedStep, FencedSteps, stays_so, on_then, FencedReachable}
pub use Rattle.krl_failover.specs.OldShows.{IsRecordKept, CountsAre, IsHeardBy, IsBlankRow, BoundIs, RebuiltIs, ShowsOld}
