-- Where a client could read at once, no other one holds what lets it write.
use Rattle.std.proofs.Common.{◌≡◌, ◌≢◌, ℕ, ◌&&◌, Bool, true, false, not, ◌++◌, length, arith, refl, subst, nat_eq, nat_lt, if◌then◌else◌}
use Rattle.std.specs.Prelude.{take}
use Rattle.std.proofs.lemmas.Bool.{and_parts, not-true}
use Rattle.krl_modes.specs.declared.point.TheConstants.{END}
use Rattle.krl_modes.specs.declared.part.RangePart.{RangePart}
use Rattle.krl_modes.specs.declared.part.RangePart.TheVariants as range
use Rattle.krl_modes.specs.declared.part.KeyPart.{KeyPart}
use Rattle.krl_modes.specs.declared.part.KeyPart.TheVariants as key
use Rattle.krl_modes.specs.declared.mode.Mode.{Mode}
use Rattle.krl_modes.specs.declared.mode.Mode.TheVariants as mode
use Rattle.krl_modes.specs.Parts.{range_at_most, key_at_most, ranges_compatible, keys_compatible}
use Rattle.krl_modes.specs.Modes.{range_of, key_of, join, compatible, needs_entry}
use Rattle.krl_modes.proofs.Tables.{implies, implies_use, by_table_2}
use Rattle.krl_durable.specs.Index.{slot_of, is_slot}
use Rattle.krl_table.specs.Rows.{mode_at}
use Rattle.krl_table.specs.Points.{key_off_slot}
use Rattle.krl_table.specs.Calls.{wanted}
use Rattle.krl_table.specs.Grants.{nobody_waits, is_open_to}
use Rattle.krl_table.specs.Replies.{is_wanted_compatible}
use Rattle.krl_table.proofs.Invariant.Compatible.{compatible_row}
use Rattle.krl_table.proofs.Rows.Slots.{slot_self}
use Rattle.krl_server.specs.Servers.{Server, is_recovering}
use Rattle.krl_server.specs.Soundness.{IsSound}
use Rattle.krl_server.specs.Waits.{reader_of, may_read}
use Rattle.krl_refinement.proofs.Server.Whole.{all_follow}
use Rattle.krl_world.specs.States.{range_held, key_held}
use Rattle.krl_world.specs.Bounds.{Bound, table_of}
use Rattle.krl_world.proofs.Refinement.Mirrors.{ServerShows}
use Rattle.krl_world.proofs.Refinement.Reached.{has_bound, bound_reached}
use Rattle.krl_world.proofs.Promises.Kept.{bounded_holds}
use Rattle.krl_world.proofs.Promises.TableBound.{bound_is_table}
use Rattle.krl_host_laws.proofs.Clients.{beside}
use Rattle.krl_host_laws.proofs.Shown.{in_host}
use Rattle.krl_host_laws.proofs.Promised.{reached_shown}
use Rattle.krl_host_laws.specs.Hosts.{disk_of, writes_noted}
use Rattle.krl_world_laws.specs.Lockless.{SparesPinsOfWorlds, SparesPinsOfHosts}

-- Parts and modes

lower_range : (x r : RangePart) → range_at_most x r ≡ true → ranges_compatible r range.S ≡ true → ranges_compatible x range.S ≡ true
lower_range x r e f = grind arith

lower_key : (x k : KeyPart) → key_at_most x k ≡ true → keys_compatible k key.S ≡ true → keys_compatible x key.S ≡ true
lower_key x k e f = grind arith

off_slot : (r : RangePart) → ranges_compatible r range.S ≡ true → keys_compatible (key_off_slot r) key.S ≡ true
off_slot r e = grind arith

-- who may have a mode next to one that reads may not write
abbrev lets_read : Mode → Bool
lets_read b = ranges_compatible (range_of b) range.S && keys_compatible (key_of b) key.S

beside_reader : (a b : Mode) → compatible (join a mode.RangeSS) b ≡ true → lets_read b ≡ true
beside_reader a b e = implies_use (compatible (join a mode.RangeSS) b) (lets_read b) (by_table_2 (λ a b. implies (compatible (join a mode.RangeSS) b) (lets_read b)) refl a b) e

-- The table

module _ (s : Server) (sound : IsSound s) (c d : ℕ) (ne : d ≢ c) where
  serves : (n : ℕ) → may_read s c n ≡ true → is_recovering s.missing ≡ false
  serves n e = not-true (is_recovering s.missing) (and_parts (not (is_recovering s.missing)) (is_open_to s.rows n (reader_of c n)) e).0

  mode_lets : (n : ℕ) → may_read s c n ≡ true → (ranges_compatible (range_of (mode_at s.rows n d)) range.S ≡ true) × (keys_compatible (key_of (mode_at s.rows n d)) key.S ≡ true)
  mode_lets n e =
      let u = reader_of c n in
      let open_to = (and_parts (not (is_recovering s.missing)) (is_open_to s.rows n u) e).1 in
      let rest = (and_parts (nobody_waits (s.rows n).queue) (is_wanted_compatible s.rows n u && not (needs_entry u.mode && nat_eq n END)) open_to).1 in
      let free = (and_parts (is_wanted_compatible s.rows n u) (not (needs_entry u.mode && nat_eq n END)) rest).0 in
      let lets = beside_reader ((s.rows n).modes c) (mode_at s.rows n d) (compatible_row (s.rows n) c (wanted (s.rows n) u) (λ k ge. sound.strangers n k ge) free d ne) in
      and_parts (ranges_compatible (range_of (mode_at s.rows n d)) range.S) (keys_compatible (key_of (mode_at s.rows n d)) key.S) lets

  range_lets : (p : ℕ) → may_read s c (slot_of s.durable.index p) ≡ true → ranges_compatible ((table_of s).range_at d p) range.S ≡ true
  range_lets p e = by_test (nat_lt END p)
    where
      by_test : (b : Bool) → ranges_compatible (if b then range.N else range_of (mode_at s.rows (slot_of s.durable.index p) d)) range.S ≡ true
      by_test true = refl
      by_test false = (mode_lets (slot_of s.durable.index p) e).0

  key_lets : (p : ℕ) → may_read s c (slot_of s.durable.index p) ≡ true → keys_compatible ((table_of s).key_at d p) key.S ≡ true
  key_lets p e = by_test (is_slot s.durable.index p) refl
    where
      by_test : (b : Bool) → is_slot s.durable.index p ≡ b → keys_compatible (if b then key_of (mode_at s.rows p d) else key_off_slot ((table_of s).range_at d p)) key.S ≡ true
      by_test true f = (mode_lets p (subst (λ n. may_read s c n ≡ true) (slot_self s.durable.index sound.near p f) e)).1
      by_test false f = off_slot ((table_of s).range_at d p) (range_lets p e)

-- Worlds, and hosts

pub of_worlds : SparesPinsOfWorlds
of_worlds w s c lo hi r up may d p ne low high =
    let b = has_bound w r in
    let shown = (bound_reached all_follow w b.0 b.1).mirrors.server in
    let sound = (subst (λ n. ServerShows n (bound_reached all_follow w b.0 b.1).of) up shown).1 in
    let e = may p low high in
    let is : b.0 ≡ table_of s = bound_is_table w b.0 s b.1 up (serves s sound c d ne (slot_of s.durable.index p) e) in
    let within = bounded_holds all_follow w b.0 b.1 in (
      lower_range (range_held w d p) ((table_of s).range_at d p) (subst (λ (t : Bound). range_at_most (range_held w d p) (t.range_at d p) ≡ true) is (within.held_range d p)) (range_lets s sound c d ne p e),
      lower_key (key_held w d p) ((table_of s).key_at d p) (subst (λ (t : Bound). key_at_most (key_held w d p) (t.key_at d p) ≡ true) is (within.held_key d p)) (key_lets s sound c d ne p e),
    )

pub of_hosts : SparesPinsOfHosts
of_hosts w h c lo hi r up may =
    let a = (in_host w h up (reached_shown w r)).upto (length h.unkept) (omega arith) in
    of_worlds (beside w.world a.server a.sent (w.world.writes ++ writes_noted (take (length h.unkept) h.unkept) (disk_of w.world))) h.memory c lo hi a.reachable (a.last refl) may
