-- `is_null` compares with null, which a pointer to the start of a block allows.
use mathlib.Core.Path.{◌≡◌, refl}
use mathlib.Core.Bool.{Bool}
use mathlib.Core.List.{List, [], ◌∷◌, ◌++◌}
use mir.Val.{Val, vbool, ptr_same}
use base.Logic.{SProp, emp}
use base.Fml.{ftrue}
use prog.Wp.{WpFn}
use contract.Monad.{fact, fact_i}
use contract.Running.{tables}
use types.Kit.{‵, raw, ◌⊛◌, prop, ◌$◌, ◌∵◌, !, qed, by, move, keep, drop, use0, split, fsplit, fjoin, feq_i, regoal}
use types.Part.{whole, sub}
use types.Run.{stop, fld, lit, bin, returns, enter}
use types.ByLocal.{alloc_all, pass_all, free_all, look_at, get_in, sets, is}
use denote.Exit.{yes}
use denote.RattleType.{owns}
use denote.RawPtr.{Ptr, null_ptr, block_ptr, ptr_val, Testable, tests_null}
use denote.Signature.{types_at, plain}
use denote.Steps.{nothing, heard}
use denote.Triple.Walked.{Stays, stay_dropped, walk_of, Goes-dropped}
use Rattle.std.proofs.raw_atomic.Walks.{proved_at, leaves}
use Rattle.std_alloc.proofs.RcSteps.{word, word-Good}
use Rattle.krl_queue.specs.Null.{is_null_ptr}
use Rattle.krl_queue.specs.contracts.node_ptr.NodePtr as P
use Rattle.krl_blocks.proofs.Words.{word_had}
use Rattle.krl_queue.specs.contracts.node_ptr.NodePtr.is_null.{ended, clauses}
use Rattle.krl_queue.specs.contracts.node_ptr.NodePtr.is_null.Key.{name as #self}
use Rattle.krl_queue.proofs.node_ptr.NodePtr.is_null.Statement.{statement}
use Rattle.krl_queue.proofs.node_ptr.NodePtr.is_null.Code as code

told : (p : Ptr) → ◌≡◌ {A = Val} (vbool (ptr_same (ptr_val p) (ptr_val null_ptr))) (vbool (is_null_ptr p))
told (block_ptr b o) = refl
told null_ptr = refl

pub is_null_spec : {M : Type 1} → statement M
is_null_spec 𝓤 𝓛 𝓜 𝓡 wired =
    let H = 𝓛.H in let 𝓣 = tables 𝓤 H 𝓜 𝓡 𝓡.env in let c = clauses 𝓛 𝓜.mem 𝓡.returns in let fn = code.function in
    let hs : Stays ended.signature.params ended.kept = (stay_dropped (plain (λ _. P.the_row)) yes, tt) in
    proved_at 𝓛 ended hs c 𝓜 𝓡 (Goes-dropped 𝓛 0 (plain (λ _. P.the_row)) yes (λ κs x f. refl), tt) #self fn (code.unfolded 𝓤 H 𝓜 𝓡 wired) (λ z are.
    let p = z.0.3.0.ptr in let Post : Val → SProp 𝓤 = (walk_of 𝓛 ended hs c).post z in let r : Bool = is_null_ptr p in
    qed 𝓛 ((‵ ftrue ⊛ ‵ (owns (types_at ended.signature.params z.0.0) z.0.3 z.0.4)) ∷ raw (fact 𝓤 (Testable p)) ∷ []) ∵ move ! (1 ∷ []) $ heard ! (Testable p) (λ testable. split ! $ drop ! $
    fsplit ! $ word_had ! p z.0.4.0 (λ e0. drop ! $
    regoal ! (λ (us : List Val). prop (WpFn 𝓤 H 𝓣.C 𝓣.Λ fn us Post)) (λ i. e0 i ++ []) refl $
    enter ! 𝓣.C 𝓣.Λ fn (word p ∷ []) Post $ alloc_all ! (λ l. pass_all ! refl (word-Good [] p, tt) $
    sets ! (is ! (bin ! (get_in ! (fld ! refl (stop !)) (sub ! 0 refl (whole !))) (lit ! tt) (tests_null p testable)) (told p)) refl (tt, tt) $
    returns ! (look_at ! 0 refl) $ free_all ! refl $ keep ! [] $
    feq_i ! (List Val) (vbool r ∷ []) (vbool r ∷ []) refl $ use0 𝓛 (raw (fact 𝓤 (r ≡ is_null_ptr p))) (fact_i 𝓤 (r ≡ is_null_ptr p) (emp 𝓤) refl) $ move ! (1 ∷ 0 ∷ []) $
    nothing ! $ nothing ! $ fjoin ! $ nothing ! $ by ! (leaves 𝓛 ended hs c z (vbool r) r (tt, tt) (tt, tt))))))
