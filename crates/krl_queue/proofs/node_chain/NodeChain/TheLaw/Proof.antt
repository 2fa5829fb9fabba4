-- A `&` to the chain reaches each node. Assumes `Logic`.
use denote.RawPtr.{RawPtr, null_ptr}
use denote.Param.Shared.{copy_shared}
use denote.Struct.Laws.{field_copy}
use denote.Struct.Lending.{of_Lends}
use Rattle.core.specs.contracts.marker.PhantomData as marker
use Rattle.krl_queue.specs.contracts.node_chain.NodeChain as C
use Rattle.krl_queue.proofs.node_chain.NodeChain.TheLaw.Statement.{statement}
use Rattle.krl_queue.proofs.Sharing.{segment_lent_laws, Lends-segment}

pub shares : statement
shares = of_Lends C.struct (C.the_codes (marker.the_row RawPtr).coded) C.the_heap C.the_lent
    (λ d p. segment_lent_laws null_ptr d.spots null_ptr) (copy_shared (marker.the_field RawPtr) (field_copy (marker.the_type RawPtr) tt), tt)
    (λ M 𝓤 𝓛 d p. Lends-segment 𝓛 C.the_row.lives null_ptr d.spots null_ptr)
