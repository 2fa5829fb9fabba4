-- What survives a restart may go to another thread.
use denote.RattleType.{RattleType}
use denote.Struct.Declared.{shape}
use denote.Param.Send.{IsSend, struct_send, recorded_send, view_send, sendable}
use Rattle.core.specs.declared.cmp.PartialEq as eq
use Rattle.core.specs.declared.hash.Hash as hash
use Rattle.core.specs.declared.hash.Hasher as hasher
use Rattle.core.specs.declared.hash.build.BuildHasher as builder
use Rattle.core.specs.contracts.hash.build.BuildHasherDefault as hashing
use Rattle.core.specs.contracts.hash.fold.FoldHasher as fold
use Rattle.std.specs.contracts.alloc.Global as global
use Rattle.std.specs.contracts.impls.GlobalAllocator.TheImpl as allocator
use Rattle.std.proofs.Crossing.{Vec-send}
use Rattle.indexmap.specs.contracts.columns.Columns as columns
use Rattle.indexmap.specs.contracts.index_table.Bucket as bucket
use Rattle.indexmap.specs.contracts.index_table.IndexTable as hash_table
use Rattle.indexmap.specs.contracts.index_table.group.Group as group
use Rattle.indexmap.specs.contracts.map.IndexMap as index_map
use Rattle.krl_messages.proofs.Crosses.{value_sent, outcome_sent}
use Rattle.krl_blocks.proofs.Crosses.{number_sent, blocks_sent}
use Rattle.krl_durable.specs.contracts.record.Record as record_kept
use Rattle.krl_durable.specs.contracts.register.Register as register
use Rattle.krl_durable.specs.contracts.room.Room as room
use Rattle.krl_durable.specs.contracts.reach.Reach as reach
use Rattle.krl_durable.specs.contracts.index.Index as index
use Rattle.krl_durable.specs.contracts.durable.Durable as durable

record_sent : IsSend record_kept.the_row
record_sent = let a = outcome_sent in search sendable depth 24 fits 4000

columns_sent : (K V : RattleType) → IsSend K → IsSend V →
    IsSend (columns.the_field K V global.the_row allocator.ghosts).row
columns_sent K V k v = let a = Vec-send K k in let b = Vec-send V v in search sendable depth 20 fits 4000

group_sent : IsSend group.the_row
group_sent = search sendable depth 20

bucket_sent : IsSend bucket.the_row
bucket_sent = search sendable depth 20

hash_table_sent : IsSend (hash_table.the_field global.the_row allocator.ghosts).row
hash_table_sent = let a = Vec-send _ group_sent in let b = Vec-send _ bucket_sent in search sendable depth 20 fits 4000

module _ (K V S T : RattleType) (e : eq.Ghosts K.Denot) (h : hash.Ghosts K.Denot)
    (b : builder.Ghosts S.Denot T.Denot) (w : hasher.Ghosts T.Denot) where
  map_sent : IsSend K → IsSend V → IsSend S →
      IsSend (index_map.the_field K V S global.the_row T e h b w allocator.ghosts).row
  map_sent k v s = let c = columns_sent K V k v in let t = hash_table_sent in search sendable depth 20 fits 4000

hashing_sent : IsSend (hashing.the_row fold.the_row)
hashing_sent = search sendable depth 20

register_inside : IsSend register.TheInside.the_row
register_inside = recorded_send _ _ (register.TheInside.the_type).to (register.TheInside.the_type).to_one
    (struct_send (shape register.TheInside.the_type)
    (map_sent _ _ _ fold.the_row _ _ _ _ number_sent record_sent hashing_sent, tt))

register_sent : IsSend (register.the_field).row
register_sent = view_send _ _ _ _ _ register_inside

room_sent : IsSend (room.the_field).row
room_sent = search sendable depth 24 fits 4000

reach_sent : IsSend (reach.the_field).row
reach_sent = search sendable depth 24 fits 4000

index_inside : IsSend index.TheInside.the_row
index_inside = recorded_send _ _ (index.TheInside.the_type).to (index.TheInside.the_type).to_one
    (struct_send (shape index.TheInside.the_type) (blocks_sent _ value_sent, (room_sent, tt)))

index_sent : IsSend (index.the_field).row
index_sent = view_send _ _ _ _ _ index_inside

durable_inside : IsSend durable.TheInside.the_row
durable_inside = recorded_send _ _ (durable.TheInside.the_type).to (durable.TheInside.the_type).to_one
    (struct_send (shape durable.TheInside.the_type) (index_sent, (reach_sent, (number_sent, (register_sent, tt)))))

pub durable_sent : IsSend (durable.the_field).row
durable_sent = view_send _ _ _ _ _ durable_inside
