-- The names that most proofs of this crate cite, passed on from one place. Declares nothing.
pub use Rattle.std.proofs.Common.{slice_index_or, IsSome, T, nat_eq, ◌⊎◌, ◌||◌, ◌↔◌, suc, refl, ne_eqb, ◌≢◌, length, ◌∷◌, cond, arith, ⊎_elim, append_assoc, ◌∙◌, eq-eqb, drop, ◌&&◌, MatchOption, sym}
pub use Rattle.std.proofs.Common.{◌++◌, ◌==◌, ltb-true, IfSome, Option, List, min, false, None, ◌≤◌, ◌-◌, inl, subst, length-append, ltb-false, Bool, ◌<◌, zero, ap, ℕ, add-one, eqb-true, not, inr}
pub use Rattle.std.proofs.Common.{◌+◌, Some, map, ◌≡◌, set, [], true}
pub use Rattle.std.proofs.Math.Path.{fun_ext}
pub use Rattle.std.proofs.lemmas.Bool.{leb-true, eqb-false, or_from, cases_lt, and_parts}
pub use Rattle.std.proofs.lemmas.Bool.Decides.{nat_tests}
pub use Rattle.std.proofs.lemmas.List.{get_or-set_same, append-nil, get_or-set_other, get_or_default, length-set, drop_all}
pub use Rattle.std.proofs.lemmas.List.Sums.{length-filter, sum_by-cons, sum_by-append}
pub use Rattle.std.specs.FinMap.{get-empty, remove, insert, get-insert, get, get-remove, FinMap}
pub use Rattle.std.specs.List.{count_by, list_all, filter, AllByRecursion}
pub use Rattle.std.specs.Ordering.{is_lt, eq_by_cmp, nat_cmp}
pub use Rattle.std.specs.Prelude.{nat_le, slice_get, if◌then◌else◌, nat_lt, find, is_some, option_copied}
pub use Rattle.krl_durable.specs.Index.{slot_of, Index, low_of, span_of, is_slot, slots}
pub use Rattle.krl_durable.specs.Slots.{IsSlotOf}
pub use Rattle.krl_messages.proofs.Members.{in_right, in_both, in_left, in_to_all}
pub use Rattle.krl_messages.specs.Members.{In}
pub use Rattle.krl_messages.specs.Values.{Value}
pub use Rattle.krl_messages.specs.declared.pieces.Pieces.{Pieces}
pub use Rattle.krl_modes.specs.Modes.{range_of, needs_entry, key_of, at_most, compatible, meet, at_or_above}
pub use Rattle.krl_modes.specs.Parts.{ranges_compatible, is_key_X, keys_compatible, range_join, key_join, lets_insert}
pub use Rattle.krl_modes.specs.Spans.{Bounds, meets, within}
pub use Rattle.krl_modes.specs.declared.mode.Mode.{Mode}
pub use Rattle.krl_modes.specs.declared.part.KeyPart.{KeyPart}
pub use Rattle.krl_modes.specs.declared.part.RangePart.{RangePart}
pub use Rattle.krl_modes.specs.declared.point.TheConstants.{END, TOP}
pub use Rattle.krl_queue.specs.Waiting.{first_of, up_to, beyond}
pub use Rattle.krl_queue.specs.Turns.{without_first}
pub use Rattle.krl_queue.specs.declared.waiter.Waiter.{Waiter}
pub use Rattle.krl_table.specs.Calls.{split, with_queue, wanted, behind_first, raised, granted_first, mode_beside, split_at, merged, queue_with, cleared, merge_into, split_modes, unqueue, lowered, grant_first}
pub use Rattle.krl_table.specs.Calls.{enqueued, with_mode, raised_on}
pub use Rattle.krl_table.specs.Splits.{row_there}
pub use Rattle.krl_table.specs.Extents.{IsFreeOf, AreWithin, cleared_within, Lies, nowhere, AreWider, extent_in}
pub use Rattle.krl_table.specs.Grants.{reached_after, is_open_to, granted, nobody_waits, goes_on, reached_slots, reached_by, granted_by}
pub use Rattle.krl_table.specs.FirstReplies.{is_granted_at_once, first_reply, lacks_entry, answerable, row_reply, first_reply_on}
pub use Rattle.krl_table.specs.KeptWaiters.{IsLeastPoint, lesser_point, lesser, unlisted, waiter_in, AreListed, AllWaitBelow}
pub use Rattle.krl_table.specs.KeptRows.{is_row_open, IsSound, IsOver, AreCompatible, IsAll, IsNextReached, times, AreSet, cleared_row, lowered_between, IsSet}
pub use Rattle.krl_table.specs.Kept.{rows_of, Kept, mode_of, row_of}
pub use Rattle.krl_table.specs.Writers.{MayInsert, MayDelete}
pub use Rattle.krl_table.specs.Points.{key_off_slot, range_at, key_at}
pub use Rattle.krl_table.specs.Replies.{is_wanted_compatible, asks_absent}
pub use Rattle.krl_table.specs.ReportSweep.{IsNextReported, ReportsSame, NothingFrom, BeginsSpan, SameKeys, RangesRise, SameRanges, RangesOff, KeysRise, KeysOff}
pub use Rattle.krl_table.specs.Reports.{greatest_key_at, rebuilt, adopted, conflicts, joined_range_over}
pub use Rattle.krl_table.specs.Rows.{Rows, mode_at, Row, is_compatible_in_row, all_below, blank_row, set_row, set_mode, is_compatible_there}
pub use Rattle.krl_table.specs.Waiters.{front_of, waiter_at, waiter_of}
pub use Rattle.krl_table.specs.declared.extent.Extent.{Extent}
pub use Rattle.krl_table.specs.declared.row.SlotRow.{SlotRow}
unfoldable pub use Rattle.krl_modes.specs.Constants.{max_clients}
