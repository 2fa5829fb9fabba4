-- What a pointer owns that may be a box's, or may be lent.
use Rattle.std.specs.Prelude.{ℕ, [], ◌∷◌, Option, Some, None}
use base.Fml.{Fml, Share, ftrue, fsep, fex, flft}
use denote.Struct.Lending.{lent_at}
use denote.RawPtr.{Ptr}
use Rattle.std_alloc.specs.Box.Ownership.{box_owns}
use Rattle.std.specs.declared.alloc.Global.{Global}
use Rattle.std.specs.contracts.impls.GlobalAllocator.TheImpl.{ghosts}
use Rattle.krl_embed.specs.declared.endpoint.Endpoint.{Endpoint}
use Rattle.krl_embed.specs.contracts.endpoint.Endpoint.{the_row}

abbrev pub may_own : Ptr → Global → Option Endpoint → Fml
may_own p h None = ftrue
may_own p h (Some x) = box_owns (ghosts.dealloc_token h) the_row p x

-- what a reader owns: the value is lent to it for this lifetime, and a part of the right to end the lifetime is its own
abbrev pub may_read : Ptr → ℕ → Option Endpoint → Fml
may_read p life None = ftrue
may_read p life (Some x) = fsep (lent_at the_row p x (life ∷ [])) (fex Share (λ q. flft (life ∷ []) q))
