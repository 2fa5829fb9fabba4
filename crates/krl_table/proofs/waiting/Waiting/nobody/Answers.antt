use Rattle.krl_table.proofs.Names.{◌≡◌, ℕ, zero, suc, None, refl, waiter_in}
use Rattle.std.proofs.Math.ListN.{replicate}
use Rattle.krl_table.proofs.waiting.Waiting.nobody.Goals as goal

none_all : (n c : ℕ) → waiter_in (replicate n None) c ≡ None
none_all zero c = refl
none_all (suc n) zero = refl
none_all (suc n) (suc c) = none_all n c

pub returns-clause-nobody : goal.returns-clause-nobody
returns-clause-nobody c d = none_all 64 d
