-- The names that most proofs of this crate cite, passed on from one place. Declares nothing.
pub use Rattle.std.proofs.Common.{None, ◌<◌, ◌-◌, ◌↔◌, length, true, ◌||◌, Some, take, eqb-true, subst, rules, ◌∷◌, ◌∙◌, ne_eqb, ◌⊎◌, zero, ltb-true, Bool, refl, ltb-false, ℕ, Option, get_or, inl}
pub use Rattle.std.proofs.Common.{drop, ◌≡◌, not, ◌&&◌, ap, List, arith, ◌≢◌, append_assoc, [], false, nat_eq, cond, add-one, sym, ⊎_elim, suc, ◌+◌, ◌++◌, length-append, inr, map, ◌≤◌, eq-eqb}
pub use Rattle.std.proofs.Math.ListN.{drop_of_length-le, replicate}
pub use Rattle.std.proofs.Math.Path.{fun_ext}
pub use Rattle.std.proofs.lemmas.Bool.{eqb-false, cases_lt, and_parts, not-true, le-ltb, or_parts, not-false, lt-ltb}
pub use Rattle.std.proofs.lemmas.Bool.Decides.{nat_tests}
pub use Rattle.std.proofs.lemmas.List.{take_more, get_or_default, get_or-set_other, drop_more, append-nil, length-take-le, get_or-set_same}
pub use Rattle.std.proofs.lemmas.Option.{none-some, same_Some}
pub use Rattle.std.specs.FinMap.Entries.{find}
pub use Rattle.std.specs.List.{AllByRecursion, list_any, list_all, IsDistinct, filter}
pub use Rattle.std.specs.Ordering.{nat_cmp, eq_by_cmp}
pub use Rattle.std.specs.Prelude.{IsSome, nat_le, set, is_some, nat_lt, IsSomeAnd, OnErr, Ok, Err, if◌then◌else◌, IfOk, IfSome, Result, OnOk}
pub use Rattle.krl_durable.proofs.SlotLaws.{From, keys_of_map_rise, from_above, from_zero, low_is, first_is, find_past}
pub use Rattle.krl_durable.proofs.Slots.{Rises, find_here}
pub use Rattle.krl_durable.specs.Index.{slots, is_slot, Index, low_of, span_of, slot_of, first_or_end}
pub use Rattle.krl_durable.specs.Slots.{IsSlotOf}
pub use Rattle.krl_durable.specs.Invariants.{HasOutcome}
pub use Rattle.krl_durable.specs.Kept.{IsKept}
pub use Rattle.krl_durable.specs.Registers.{not_left, new_record, with_record, departed, record_of, registered, IsIncarnation, HasOutcomes, Durable, Register}
pub use Rattle.krl_durable.specs.Splits.{left_by, applied_by}
pub use Rattle.krl_durable.specs.Writes.{applied, held, judge, noted, judged_change, judged_insert, index_after, written}
pub use Rattle.krl_durable.specs.declared.record.Record.{Record}
pub use Rattle.krl_messages.proofs.Members.{in_right, in_to_all, in_both, in_left}
pub use Rattle.krl_messages.specs.Members.{In}
pub use Rattle.krl_messages.specs.Values.{Value}
pub use Rattle.krl_messages.specs.Writes.{op_key, is_applied}
pub use Rattle.krl_messages.specs.declared.holding.Holding.{Holding}
pub use Rattle.krl_messages.specs.declared.outcome.Outcome.{Outcome}
pub use Rattle.krl_messages.specs.declared.pieces.Pieces.{Pieces}
pub use Rattle.krl_messages.specs.declared.to_client.PushBody.{PushBody}
pub use Rattle.krl_messages.specs.declared.to_client.ToClient.{ToClient}
pub use Rattle.krl_messages.specs.declared.to_server.ToServer.{ToServer}
pub use Rattle.krl_messages.specs.declared.write_op.WriteOp.{WriteOp}
pub use Rattle.krl_modes.specs.Modes.{at_or_above, meet, key_of, at_most, join, cap, range_of, needs_entry, compatible}
pub use Rattle.krl_modes.specs.PointSets.{IsWhole}
pub use Rattle.krl_modes.specs.Spans.{Bounds, within}
pub use Rattle.krl_modes.specs.declared.mode.Mode.{Mode}
pub use Rattle.krl_modes.specs.declared.point.TheConstants.{TOP, END}
pub use Rattle.krl_queue.specs.Waiting.{first_of, up_to, beyond}
pub use Rattle.krl_queue.specs.declared.waiter.Waiter.{Waiter}
pub use Rattle.krl_server.specs.Answering.{next_turn, grants, is_answerable, can_push, turn_among, stops, tells_absent, AnswersWaiters, goes_on, Turn, answer_first, turn_at}
pub use Rattle.krl_server.specs.Splits.{nudge_known}
pub use Rattle.krl_server.specs.Callbacks.{is_compatible, callbacks, callbacks_of_among, callbacks_from, callbacks_for, callbacks_among, callbacks_at, callbacks_of}
pub use Rattle.krl_server.specs.Cases.{Acknowledges, Lowers, AnswersAgain, judged, case_of_seen, case_of_write, Case, case_of_newer, Alarms, is_malformed, Leaves, Rebuilds, case_of, is_bad_write}
pub use Rattle.krl_messages.specs.Writes.{can_seize}
pub use Rattle.krl_server.specs.Effects.{seizes}
pub use Rattle.krl_server.specs.Seizing.{least_mode, lock_for, may_seize}
pub use Rattle.krl_server.specs.Cases.{SeizesLock, case_of_new_write, has_points, case_of_record, Registers, case_of_repeated_write, case_of_request, Ignored, case_of_late, Waits, Repeats, case_of_body, Tells, case_of_report, Judges}
pub use Rattle.krl_server.specs.Cases.{is_alarm}
pub use Rattle.krl_server.specs.CodeSteps.{IsPerformed, IsServer, calls_after, still_recovering, Finished, HasRoom, HasTurned, HasAnsweredFirst, IsStarted, calls_at_first, own_of, alarm_of, call_if, callback_if, rests}
pub use Rattle.krl_server.specs.CodeSteps.{HasFinished, HaveWaiters, count_below, is_registered, turn_here, waiting_clients, HasStepped, HasAnswered, served, room_for}
pub use Rattle.krl_server.specs.Effects.{silent, epoch_to, with_session, lowers, writes, tells_outcome, effect, Done, acknowledged, push_to, callback_to, holdings, queues, with_rows, departs, holding, rows_after, pushes, adopts, rows_written}
pub use Rattle.krl_server.specs.Outboxes.{pushed_again, Sent, as_list, Sends}
pub use Rattle.krl_server.specs.Outputs.{PushesStand, may_change, is_answer, answered_write, may_change_durable, IsCallback, IsNextPush, IsAnswered, is_new_write, ServerSays, AnswersWrite}
pub use Rattle.krl_server.specs.Outputs.{HasCallbacks, last_of, changes_durable, is_callback}
pub use Rattle.krl_server.specs.Ranges.{IsEntry, IsWithin, IsDurableWithin, clients_of, ServerWithin, IsRegistered, AreApart, AreRegistered}
pub use Rattle.krl_server.specs.Servers.{is_recovering, Server, unlist, incarnation_or_0, lists, blank_session, set_session}
pub use Rattle.krl_server.specs.Soundness.{IsSound}
pub use Rattle.krl_server.specs.FoundCases.{after_of, IsFormed, case_of_pieces, case_of_unacked, meant}
pub use Rattle.krl_server.specs.StateMeaning.{sessions_of, meaning}
pub use Rattle.krl_server.specs.Steps.{ServerStep, nudge_served, Ends, nudge, serves, callbacks_after, Answers, Following, crash, following, at_once, start, can_start, Nothing, nudge_missing, recovers, Calls}
pub use Rattle.krl_server.specs.Settled.{IsSettled}
pub use Rattle.krl_server.specs.Termination.{waiting_on, waiting, StepsEnd}
unfoldable pub use Rattle.krl_server.specs.Termination.{max_messages}
pub use Rattle.krl_server.specs.declared.out.ServerOut.{ServerOut}
pub use Rattle.krl_server.specs.declared.session.Session.{Session}
pub use Rattle.krl_server.specs.declared.state.State.{State}
pub use Rattle.krl_table.proofs.Invariant.Alone.{times_fewer, times_parted, times_none, one, times_both, none_times, alone_here, times_more, times_with, alone_fewer, AreAlone, alone_moved, alone_new}
pub use Rattle.krl_table.proofs.Invariant.Compatible.{turned, none_compatible, all_below_at, other_compatible, or_true, meet_compatible, split_compatible}
pub use Rattle.krl_table.proofs.Invariant.Stands.{in_queue_with, in_filter, in_unqueue}
pub use Rattle.krl_table.proofs.Rows.RowChanges.{eq_cases}
pub use Rattle.krl_table.specs.Calls.{with_queue, split_modes, with_mode, cleared, raised_on, wanted, front_dropped, lowered, merged, enqueued, granted_first, behind_first, mode_beside, grant_first}
pub use Rattle.krl_table.specs.Calls.{raised, unqueue, queue_with, split}
pub use Rattle.krl_table.specs.FirstReplies.{is_granted_at_once, first_reply, reply_to, answerable}
pub use Rattle.krl_table.specs.Grants.{reached_after, granted, nobody_waits, reached_slots}
pub use Rattle.krl_table.specs.KeptRows.{times, KeptTable, IsOver, AreCompatible}
pub use Rattle.krl_table.specs.Kept.{rows_of, Kept}
pub use Rattle.krl_table.specs.Writers.{MayDelete, MayInsert}
pub use Rattle.krl_table.specs.Points.{key_at, key_off_slot, range_at}
pub use Rattle.krl_table.specs.Replies.{asks_absent, is_wanted_compatible}
pub use Rattle.krl_table.specs.Reports.{adopted, conflicts, rebuilt}
pub use Rattle.krl_table.specs.Waiters.{waiter_at, waiter_of, front_of, WaitsNowhere, AreWaiting}
pub use Rattle.krl_table.specs.Rows.{set_mode, column, is_compatible_there, Rows, mode_at, waits, all_below, blank_rows, blank_row, Row, set_row}
pub use Rattle.krl_table.specs.Sound.{IsPlaced, IsTable}
unfoldable pub use Rattle.krl_modes.specs.Constants.{max_clients}
pub use Rattle.krl_modes.specs.declared.limits.TheConstants.{STANDARD_ROOM}
