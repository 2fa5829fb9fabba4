-- `first` makes a value of no bytes, whose ghost field is 0.
use mathlib.Core.Path.{◌≡◌, refl}
use mathlib.Core.List.{[], ◌∷◌}
use mir.Val.{Val, vstruct, vcons, vnil}
use base.Logic.{emp}
use base.Fml.{Fml, ftrue}
use contract.Monad.{fact, fact_i}
use contract.Running.{tables}
use types.Kit.{‵, raw, ◌⊛◌, ◌$◌, ◌∵◌, !, qed, by, move, keep, use0}
use types.Part.{agg}
use types.Run.{and_then, no_more, returns, enter}
use types.ByLocal.{alloc_all, pass_all, free_all, look_at, get, sets}
use denote.Shadow.{makes_shadow}
use denote.Steps.{nothing}
use denote.Triple.Walked.{Stays, walk_of}
use Rattle.std.proofs.raw_atomic.Walks.{proved_at, leaves}
use Rattle.krl_queue.specs.contracts.node_ptr.Index.{the_row}
use Rattle.krl_queue.specs.contracts.node_ptr.Index.first.{ended, clauses}
use Rattle.krl_queue.specs.contracts.node_ptr.Index.first.Key.{name as #self}
use Rattle.krl_queue.proofs.node_ptr.Index.first.Statement.{statement}
use Rattle.krl_queue.proofs.node_ptr.Index.first.Code as code

pub first_spec : {M : Type 1} → statement M
first_spec 𝓤 𝓛 𝓜 𝓡 wired =
    let H = 𝓛.H in let 𝓣 = tables 𝓤 H 𝓜 𝓡 𝓡.env in let c = clauses 𝓛 𝓜.mem 𝓡.returns in let hs : Stays ended.signature.params ended.kept = tt in
    proved_at 𝓛 ended hs c 𝓜 𝓡 tt #self code.function (code.unfolded 𝓤 H 𝓜 𝓡 wired) (λ z are.
    let v : Val = vstruct (vcons (vstruct vnil) vnil) in let new : the_row.Denot = record { mark = record {}; at = 0 } in let O : Fml = the_row.own_val new (v ∷ []) in
    qed 𝓛 ((‵ ftrue ⊛ ‵ ftrue) ∷ ‵ ftrue ∷ []) ∵ keep ! [] $ enter ! 𝓣.C 𝓣.Λ code.function [] ((walk_of 𝓛 ended hs c).post z) $ alloc_all ! (λ l. pass_all ! refl tt $
    sets ! (agg ! (no_more !)) refl (tt, tt) $ sets ! (agg ! (and_then ! (get ! refl) (no_more !))) refl (tt, (tt, tt)) $
    returns ! (look_at ! 0 refl) $ free_all ! refl $ keep ! [] $
    use0 𝓛 (‵ O) (makes_shadow 𝓛 O ((λ vss. (tt, ((λ uss. (tt, tt)), tt))), tt) (((vstruct vnil ∷ [], tt), (refl, ((tt, (refl, tt)), tt))), tt)) $
    use0 𝓛 (raw (fact 𝓤 (new.at ≡ 0))) (fact_i 𝓤 (new.at ≡ 0) (emp 𝓤) refl) $ move ! (1 ∷ 0 ∷ []) $ nothing ! $ nothing ! $
    by ! (leaves 𝓛 ended hs c z v new tt tt)))
