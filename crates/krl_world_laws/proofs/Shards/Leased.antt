-- A scan over several servers by a process whose clients have leases.
use Rattle.std.proofs.Common.{◌≡◌, ℕ, List, [], ◌∷◌, inl, inr, sym}
use Rattle.krl_durable.specs.Index.{range}
use Rattle.krl_world.specs.States.{index_of}
use Rattle.krl_shards.specs.declared.part.Part.{Part}
use Rattle.krl_shards.specs.Parts.{Follow}
use Rattle.krl_leases.specs.Clocks.{Limits}
use Rattle.krl_world_laws.specs.Systems.{System, worlds, hosts, fenced_hosts}
use Rattle.krl_world_laws.specs.Readers.{Rows}
use Rattle.krl_world_laws.specs.Leases.Leased.{Machines, AllAgree, Leased, Event, Runs, IsReached}
use Rattle.krl_world_laws.specs.Leases.Laws.{Reads}
use Rattle.krl_world_laws.specs.Shards.Leased.{Shard, moment, AllReached, HandsOver, HandsOverAll, ScanWithLeases}
use Rattle.krl_world_laws.proofs.Systems.{Follows, worlds_follow, hosts_follow, fenced_hosts_follow}
use Rattle.krl_world_laws.proofs.Readers.{answers_still, rows_are}
use Rattle.krl_world_laws.proofs.Leases.Leased.{reached, reached_on, too_late}
use Rattle.krl_world_laws.proofs.Shards.Scanned.{AreRanges, ranges_together}

module _ (s : System) (f : Follows s) where
  part_is : (x : Shard s) (lo hi : ℕ) (rows : Rows) → AllAgree x.limits x.machines → IsReached s x.limits x.machines x.world → HandsOver s x lo hi rows → rows ≡ range (index_of (s.view x.world.world)) lo hi
  part_is x lo hi rows agree h o = by_reading o.reads
    where
      by_reading : Reads s o.reading x.client x.incarnation lo hi rows → rows ≡ range (index_of (s.view x.world.world)) lo hi
      by_reading (inl read) =
          rows_are (s.view x.world.world) x.client lo hi rows (f.holds x.world.world (reached s f x.limits x.machines x.world h))
          (answers_still (s.view o.reading.world) (s.view x.world.world) x.client lo hi rows (sym (o.held read.0)) read.1)
      by_reading (inr gone) =
          absurd (too_late s f x.limits x.machines o.reading o.checking o.between x.client x.incarnation agree (reached_on s x.limits x.machines x.world o.reading o.before h o.since) gone o.until o.may)

  parts_are : (bounds : List ℕ) (x : ℕ → Shard s) (lo hi : ℕ) (parts : List Part) (rows : Rows) → AllReached s bounds x → Follow bounds hi lo hi parts → HandsOverAll s x parts rows → AreRanges (moment s x) parts rows
  parts_are bounds x lo hi [] rows all follow o = o
  parts_are bounds x lo hi (p ∷ ps) rows all follow o =
      let there = all p.shard follow.0.shard.there in
      (o.0, o.1, part_is (x p.shard) p.lo p.hi o.0 there.0 there.1 o.2, parts_are bounds x p.hi hi ps o.1 all follow.1 o.3, o.4)

  scan : ScanWithLeases s
  scan bounds x m lo hi parts rows all together follow o =
      ranges_together bounds (moment s x) m lo hi parts rows together follow (parts_are bounds x lo hi parts rows all follow o)

pub scan_of_worlds : ScanWithLeases worlds
scan_of_worlds = scan worlds worlds_follow

pub scan_of_hosts : ScanWithLeases hosts
scan_of_hosts = scan hosts hosts_follow

pub scan_of_fenced_hosts : ScanWithLeases fenced_hosts
scan_of_fenced_hosts = scan fenced_hosts fenced_hosts_follow
