-- Blocks may go to another thread if their values may.
use denote.RattleType.{RattleType}
use denote.Struct.Declared.{shape}
use denote.Struct.Tuple.{Tuple, tuple_type}
use denote.Builtin.{u64}
use denote.Param.Send.{IsSend, struct_send, recorded_send, view_send, sendable}
use mathlib.Core.List.{[], ◌∷◌}
use Rattle.std.proofs.Crossing.{Vec-send}
use Rattle.krl_blocks.specs.contracts.spot.Spot as spot
use Rattle.krl_blocks.specs.contracts.shelf.Shelf as shelf
use Rattle.krl_blocks.specs.contracts.layout.Layout as layout
use Rattle.krl_blocks.specs.contracts.blocks.Blocks as blocks

pub number_sent : IsSend u64
number_sent = search sendable

spot_sent : IsSend spot.the_row
spot_sent = search sendable depth 20

module _ (V : RattleType) (v : IsSend V) where
  entry_sent : IsSend (Tuple (u64 ∷ V ∷ []))
  entry_sent = let T = tuple_type (u64 ∷ V ∷ []) in
      recorded_send _ _ T.to T.to_one (struct_send (shape T) (number_sent, (v, tt)))

  shelf_inside : IsSend (shelf.TheInside.the_row V)
  shelf_inside = recorded_send _ _ (shelf.TheInside.the_type V).to (shelf.TheInside.the_type V).to_one
      (struct_send (shape (shelf.TheInside.the_type V)) (
        Vec-send _ spot_sent,
        (
          Vec-send _ number_sent,
          (Vec-send _ entry_sent, (number_sent, tt)),
        ),
      ))

  shelf_sent : IsSend (shelf.the_field V).row
  shelf_sent = view_send _ _ _ _ _ shelf_inside

  layout_sent : IsSend (layout.the_field V).row
  layout_sent = let a = Vec-send _ number_sent in let b = shelf_sent in search sendable depth 24 fits 4000

  blocks_inside : IsSend (blocks.TheInside.the_row V)
  blocks_inside = recorded_send _ _ (blocks.TheInside.the_type V).to (blocks.TheInside.the_type V).to_one
      (struct_send (shape (blocks.TheInside.the_type V)) (layout_sent, (number_sent, (number_sent, tt))))

  pub blocks_sent : IsSend (blocks.the_field V).row
  blocks_sent = view_send _ _ _ _ _ blocks_inside
