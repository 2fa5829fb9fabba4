-- The names that most proofs of this crate cite, passed on from one place. Declares nothing.
pub use Rattle.std.proofs.Common.{◌++◌, sym, is_some, List, ◌-◌, ltb-false, refl, ◌&&◌, nat_eq, ◌≡◌, false, ne_eqb, not, ◌∷◌, Bool, take, get_or, ◌≤◌, ◌<◌, arith, ◌↔◌, [], ap, suc, length, ◌≢◌}
pub use Rattle.std.proofs.Common.{subst, cond, ℕ, ⊎_elim, zero, true, add-one, ◌+◌, ◌∙◌, ltb-true, Option, Some, T, ◌||◌, drop, None}
pub use Rattle.std.proofs.lemmas.Bool.Decides.{nat_tests}
pub use Rattle.std.proofs.lemmas.List.{drop-set, length-drop, get_or-map, nil_from_length, take_more, append-nil, take-append-drop, take-set, take_all}
pub use Rattle.std.proofs.lemmas.Result.{IfOk-weaker, IfOk-at_ok}
pub use Rattle.std.specs.Cmp.{nat_cmp_total}
pub use Rattle.std.specs.FinMap.Entries.{put, below_all, is_sorted, where_key, is_sorted-where_key, find-where_key, by_order, find}
pub use Rattle.std.specs.List.{filter, filter_map, IsDistinct, slice_get, AllByRecursion}
pub use Rattle.std.specs.Map.{lookup, keys_of, set_value}
pub use Rattle.std.specs.Ordering.{match_ordering, nat_cmp, eq_by_cmp, is_lt, is_eq}
pub use Rattle.std.specs.Prelude.{nat_le, nat_lt, IfOk, IfSome, IsSome, slice_set, slice_index_or}
pub use Rattle.std.specs.declared.cmp.Ordering.TheVariants.{Greater, Equal, Less}
pub use Rattle.krl_blocks.proofs.Around.{head_none}
pub use Rattle.krl_blocks.specs.Entries.{AreBelow, NoKey, last_key, KeysRise, AreFrom, IsFound, IsChanged, KeysAbove, IsRun, IsRemoved, HasEntry, IsInserted}
pub use Rattle.krl_durable.specs.Index.{first_or_end, low_of, Index, is_slot, slot_of, after_keys, has_key}
pub use Rattle.krl_durable.specs.Slots.{behind, IsSlotOf, IsSpanOf}
pub use Rattle.krl_durable.specs.Invariants.{IsRow, IsEntries, missing_of, IsRecord}
pub use Rattle.krl_durable.specs.Kept.{IsKept, AreBelowEnd}
pub use Rattle.krl_durable.specs.Remade.{MakesAgain}
pub use Rattle.krl_durable.specs.InitialEntries.{stands_before, IsGood, Refuses, AreGood, key_of_entry}
pub use Rattle.krl_durable.specs.Registers.{Register, HasIncarnations, Durable, not_left, HasLasts, with_record, HasOutcomes, record_of}
pub use Rattle.krl_durable.specs.Writes.{judge}
pub use Rattle.krl_durable.specs.declared.record.Record.{Record}
pub use Rattle.krl_messages.specs.Values.{Value}
pub use Rattle.krl_modes.specs.declared.point.TheConstants.{END}
pub use Rattle.krl_modes.specs.declared.limits.TheConstants.{STANDARD_ROOM, MAX_ROOM}
