-- A reserved map may be read by several threads at once where its values may.
use denote.RattleType.{RattleType}
use denote.Struct.Declared.{shape}
use denote.Param.Send.{IsSync, struct_sync, recorded_sync, view_sync, sendable}
use Rattle.std.specs.contracts.alloc.Global as global
use Rattle.std.specs.contracts.impls.GlobalAllocator.TheImpl as allocator
use Rattle.std.proofs.Crossing.{Vec-sync}
use Rattle.slab.specs.contracts.Entry as place
use Rattle.slab.specs.contracts.Slab as slab
use Rattle.krl_embed.proofs.Shared.Blocks.{number_seen, blocks_seen}
use Rattle.krl_blocks.specs.contracts.reserved_map.ReservedMap as reserved_map

module _ (V : RattleType) (v : IsSync V) where
  place_seen : IsSync (place.the_row V)
  place_seen = search sendable depth 24 fits 4000

  slab_inside : IsSync (slab.TheInside.the_row V global.the_row allocator.ghosts)
  slab_inside = let a = Vec-sync _ place_seen in search sendable depth 24 fits 4000

  slab_seen : IsSync (slab.the_field V global.the_row allocator.ghosts).row
  slab_seen = view_sync _ _ _ _ _ slab_inside

  reserved_map_inside : IsSync (reserved_map.TheInside.the_row V)
  reserved_map_inside = recorded_sync _ _ (reserved_map.TheInside.the_type V).to (reserved_map.TheInside.the_type V).to_one
      (struct_sync (shape (reserved_map.TheInside.the_type V)) (blocks_seen _ number_seen, (slab_seen, (number_seen, tt))))

  pub reserved_map_seen : IsSync (reserved_map.the_field V).row
  reserved_map_seen = view_sync _ _ _ _ _ reserved_map_inside
