-- The names that most proofs of this crate cite, passed on from one place. Declares nothing.
pub use Rattle.std.proofs.Common.{ℕ, not, refl, ◌≡◌, ◌⊎◌, eqb-true, MatchOption, IsSome, append-nil, suc, ◌++◌, ap, ◌||◌, length, arith, inl, map, inr, false, [], max, append_assoc, zero, subst}
pub use Rattle.std.proofs.Common.{IfSome, ◌≢◌, take, ◌^◌, ◌≤◌, ◌-◌, cond, ◌∷◌, Bool, ◌&&◌, ◌<◌, drop, List, ◌+◌, Some, Option, ◌∙◌, true, sym, None}
pub use Rattle.std.proofs.lemmas.Bool.{and_parts, or_from, eqb-false, and_from, or_parts, or_right, or_left}
pub use Rattle.std.proofs.lemmas.Bool.Decides.{nat_tests, leb_tells, eqb_tells}
pub use Rattle.std.proofs.lemmas.List.{drop_more, drop-drop, length_push, take-append-drop}
pub use Rattle.std.specs.BTreeMap.{is_at, BTreeMap}
pub use Rattle.std.specs.BTreeMap.Range.{entries_between}
pub use Rattle.std.specs.FinMap.{is_sorted, find}
pub use Rattle.std.specs.List.{cons_option, filter_map, filter, AllByRecursion}
unfoldable pub use Rattle.std.specs.List.Sorted.{IsStrictlySortedBy}
pub use Rattle.std.specs.Map.{keys_of}
pub use Rattle.std.specs.Option.{unwrap_or, option_and_then, option_to_list}
pub use Rattle.std.specs.Ordering.{eq_by_cmp, is_lt, is_eq, is_gt, is_le, nat_cmp}
pub use Rattle.std.specs.Prelude.{nat_lt, slice_get, nat_eq}
pub use Rattle.std.specs.declared.cmp.Ordering.TheVariants.{Equal, Less, Greater}
pub use Rattle.std.specs.declared.ops.Bound.TheVariants.{Excluded, Unbounded, Included}
pub use Rattle.krl_cache.specs.Backs.{AreBefore, IsBelow, Skips, back_of, part_last, list_to, TakesFrom}
pub use Rattle.krl_cache.specs.Beliefs.{is_covered, is_last, IsLeastUncovered, AreRows, lower, adopt, Belief, adopt_all, CoversAll, no_belief, is_span}
pub use Rattle.krl_cache.specs.Laws.{CallsKeepBelief, IsBelief, RowsAreDetermined, BeliefsAreDescribed}
pub use Rattle.krl_cache.specs.Kept.{first_range_at, Describes, DiffersFromNext, AreInOrder, first_key_at, AreMerged, AreAscending}
pub use Rattle.krl_cache.specs.Lists.{belief_by, value_of, part_of}
pub use Rattle.krl_cache.specs.Entries.{row_value, entry_of, pick, lies_in, own_entry, key_piece, AreRead, tagged, StandWithin, RiseWithin, entry_lowered}
pub use Rattle.krl_cache.specs.MapSteps.{AreNext, piece_of, AreMapsKept, KeepsParts, EndsAlike, IsUndone, IsPlaced, HoldsBefore, AreStartsMerged, BeginsAnew, HasEnds, lowered_part, CanUndo, IsChanged, IsPast, gone, IsFree, row_of, IsFirst}
pub use Rattle.krl_cache.specs.Maps.{at, Maps, maps_believe}
unfoldable pub use Rattle.krl_cache.specs.Maps.{part_at}
pub use Rattle.krl_cache.specs.Several.{parts_after, is_slot_of, CanUndoBoth, entries_after, AreReady, HasRoom, is_end_of, AreMergedBetween}
pub use Rattle.krl_cache.specs.Sifts.{Stands, StandsAt, Rise, AreOut, Sifts, IsSifted}
pub use Rattle.krl_cache.specs.Walks.{left_of, is_known, IsGap, AreKnown, StandsFrom, TakesBelow, Walks}
pub use Rattle.krl_cache.specs.declared.entry.Entry.{Entry}
pub use Rattle.krl_messages.specs.Holdings.{ends_at_end, has_its_value, have_values}
pub use Rattle.krl_messages.specs.Ascending.{IsBefore, Ascend}
pub use Rattle.krl_messages.specs.Values.{Value}
pub use Rattle.krl_messages.specs.declared.holding.Holding.{Holding}
pub use Rattle.krl_messages.specs.declared.range_pieces.RangePiece.{RangePiece}
pub use Rattle.krl_modes.specs.Modes.{range_of, key_of}
pub use Rattle.krl_modes.specs.Parts.{range_meet, key_meet, reads_key, reads_gap}
pub use Rattle.krl_modes.specs.Spans.{contains, Bounds}
pub use Rattle.krl_modes.specs.declared.mode.Mode.{Mode}
pub use Rattle.krl_modes.specs.declared.part.KeyPart.{KeyPart}
pub use Rattle.krl_modes.specs.declared.part.RangePart.{RangePart}
pub use Rattle.krl_modes.specs.declared.point.TheConstants.{END, TOP}
