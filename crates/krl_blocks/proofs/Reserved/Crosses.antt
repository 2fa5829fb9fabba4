-- A reserved map may go to another thread where its values may.
use denote.RattleType.{RattleType}
use denote.Struct.Declared.{shape}
use denote.Param.Send.{IsSend, struct_send, recorded_send, view_send, sendable}
use Rattle.std.specs.contracts.alloc.Global as global
use Rattle.std.specs.contracts.impls.GlobalAllocator.TheImpl as allocator
use Rattle.std.proofs.Crossing.{Vec-send}
use Rattle.slab.specs.contracts.Entry as place
use Rattle.slab.specs.contracts.Slab as slab
use Rattle.krl_blocks.proofs.Crosses.{number_sent, blocks_sent}
use Rattle.krl_blocks.specs.contracts.reserved_map.ReservedMap as reserved_map

module _ (V : RattleType) (v : IsSend V) where
  place_sent : IsSend (place.the_row V)
  place_sent = search sendable depth 24 fits 4000

  slab_inside : IsSend (slab.TheInside.the_row V global.the_row allocator.ghosts)
  slab_inside = let a = Vec-send _ place_sent in search sendable depth 24 fits 4000

  slab_sent : IsSend (slab.the_field V global.the_row allocator.ghosts).row
  slab_sent = view_send _ _ _ _ _ slab_inside

  reserved_map_inside : IsSend (reserved_map.TheInside.the_row V)
  reserved_map_inside = recorded_send _ _ (reserved_map.TheInside.the_type V).to (reserved_map.TheInside.the_type V).to_one
      (struct_send (shape (reserved_map.TheInside.the_type V)) (blocks_sent _ number_sent, (slab_sent, (number_sent, tt))))

  pub reserved_map_sent : IsSend (reserved_map.the_field V).row
  reserved_map_sent = view_send _ _ _ _ _ reserved_map_inside
