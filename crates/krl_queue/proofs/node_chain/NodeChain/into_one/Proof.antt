-- `into_one` gives the only node back.
use mathlib.Core.Path.{◌≡◌, refl, ap, ◌∙◌}
use mathlib.Core.List.{List, [], ◌∷◌, ◌++◌}
use lib.ListN.{length}
use mir.Val.{Val, vptr}
use base.Logic.{SProp, emp}
use base.Fml.{ftrue}
use prog.Wp.{Env, WpFn}
use contract.Monad.{fact, fact_i}
use contract.Running.{tables}
use types.Kit.{‵, raw, ◌⊛◌, prop, at_ret, ◌$◌, ◌∵◌, !, qed, by, move, keep, drop, use0, split, fsplit, fjoin, rewrite, regoal}
use types.Part.{agg, whole, sub, look_in}
use types.Run.{stop, fld, load, of_opd, and_then, no_more, first, blocks, exec, returns, enter}
use types.ByLocal.{alloc_all, pass_all, free_all, look_at, get, get_in, through, sets, sets_last, is, env}
use denote.Exit.{yes}
use denote.RattleType.{RattleType, owns}
use denote.RawPtr.{null_ptr, block_ptr, ptr_val}
use denote.Signature.{types_at, plain}
use denote.Steps.{nothing, heard}
use denote.Triple.Walked.{Stays, stay_dropped, walk_of, Goes-dropped}
use Rattle.std.proofs.raw_atomic.Walks.{proved_at, leaves}
use Rattle.std.specs.contracts.alloc.Global as heap
use Rattle.std.proofs.alloc.Global.TheLaws as heap_laws
use Rattle.std.specs.contracts.impls.GlobalAllocator.TheImpl.{ghosts}
use Rattle.std_alloc.proofs.VecSteps.Shapes.{after}
use Rattle.std_alloc.proofs.RcSteps.{word, word-Good}
use Rattle.krl_blocks.proofs.DetachedBoxes.{both, DetachedBox, detached_box_good, detached_box_in}
use Rattle.krl_queue.proofs.Nodes.{single}
use Rattle.krl_queue.specs.Segment.{Spot, waiters, first_or, node_of, segment}
use Rattle.krl_queue.specs.contracts.node.Node as N
use Rattle.krl_queue.specs.contracts.node_ptr.NodePtr as P
use Rattle.krl_queue.specs.contracts.node_chain.NodeChain as C
use Rattle.krl_blocks.proofs.Words.{word_had}
use Rattle.krl_queue.proofs.Cells.{spot_out, box_in, handle_made, mark, mark_had}
use Rattle.krl_queue.specs.contracts.node_chain.NodeChain.into_one.{ended, clauses}
use Rattle.krl_queue.specs.contracts.node_chain.NodeChain.into_one.Key.{name as #self}
use Rattle.krl_queue.proofs.node_chain.NodeChain.into_one.Statement.{statement}
use Rattle.krl_queue.proofs.node_chain.NodeChain.into_one.Code as code

pub into_one_spec : {M : Type 1} → statement M
into_one_spec 𝓤 𝓛 𝓜 𝓡 wired =
    let H = 𝓛.H in let 𝓣 = tables 𝓤 H 𝓜 𝓡 𝓡.env in let c = clauses 𝓛 𝓜.mem 𝓡.returns in let fn = code.function in
    let Z : RattleType = heap.the_row in let LZ = heap_laws.the_row_laws in
    let hs : Stays ended.signature.params ended.kept = (stay_dropped (plain (λ _. C.the_row)) yes, (stay_dropped (plain (λ _. P.the_row)) yes, tt)) in
    proved_at 𝓛 ended hs c 𝓜 𝓡 (Goes-dropped 𝓛 0 (plain (λ _. C.the_row)) yes (λ κs x f. refl), (Goes-dropped 𝓛 0 (plain (λ _. P.the_row)) yes (λ κs x f. refl), tt)) #self fn (code.unfolded 𝓤 H 𝓜 𝓡 wired) (λ z are.
    let ss = z.0.3.0.spots in let p = z.0.3.1.0.ptr in let Post : Val → SProp 𝓤 = (walk_of 𝓛 ended hs c).post z in
    let Asks : Type 0 = (length ss ≡ 1) × (p ≡ first_or null_ptr ss) in
    qed 𝓛 ((‵ ftrue ⊛ ‵ (owns (types_at ended.signature.params z.0.0) z.0.3 z.0.4)) ∷ raw (fact 𝓤 Asks) ∷ []) ∵ move ! (1 ∷ []) $ heard ! Asks (λ asked. split ! $ drop ! $
    fsplit ! $ fsplit ! $ mark_had ! z.0.4.0 (λ e0. move ! (1 ∷ []) $ fsplit ! $ word_had ! p z.0.4.1.0 (λ e1. drop ! $
    let only = single ss asked.0 in let s : Spot = only.0 in
    rewrite ! 0 (λ (ns : List Spot). ‵ (segment null_ptr ns null_ptr)) only.1 refl $ fsplit ! $ spot_out ! null_ptr null_ptr s (λ b o e sound.
    let is_at : p ≡ block_ptr b o = asked.1 ∙ ap (first_or null_ptr) only.1 ∙ e in
    let x = node_of null_ptr null_ptr s in let h = heap_laws.lowered s.heap in
    let out : (DetachedBox N.the_row Z LZ ghosts).Denot = record { at = block_ptr b o; alloc = s.heap; value = x } in
    regoal ! (λ (us : List Val). prop (WpFn 𝓤 H 𝓣.C 𝓣.Λ fn us Post)) (λ i. e0 i ++ (e1 i ++ [])) refl $
    enter ! 𝓣.C 𝓣.Λ fn (mark ∷ word p ∷ []) Post $ alloc_all ! (λ l. pass_all ! refl ((tt, (tt, tt)), (word-Good [] p, tt)) $ let En : Env 𝓤 H = env fn.locals l in
    sets ! (is ! (of_opd ! (get_in ! (fld ! refl (stop !)) (sub ! 0 refl (whole !)))) (ap ptr_val is_at)) refl (tt, tt) $ first ! $ blocks ! $
    sets_last ! (of_opd ! (load ! (through ! refl (fld ! refl (stop !))) (look_in ! 0 (sub ! 3 refl (whole !))))) refl (tt, ((tt, tt), tt)) $
    exec ! 𝓣.C 𝓣.Λ En (after 2 fn.body) (at_ret En Post) $
    sets ! (of_opd ! (get ! refl)) refl (tt, ((tt, tt), tt)) $
    sets ! (agg ! (and_then ! (get ! refl) (and_then ! (get ! refl) (no_more !)))) refl (detached_box_good N.the_row Z LZ ghosts b o h (tt, ((tt, tt), tt))) $
    box_in ! s.heap (block_ptr b o) x b o refl sound $ handle_made ! x sound $ move ! (1 ∷ 0 ∷ []) $ detached_box_in N.the_row Z LZ ghosts ! b o h s.heap x $
    returns ! (look_at ! 0 refl) $ free_all ! refl $ keep ! (0 ∷ []) $
    use0 𝓛 (raw (fact 𝓤 (waiters ss ≡ x.waiter ∷ []))) (fact_i 𝓤 (waiters ss ≡ x.waiter ∷ []) (emp 𝓤) (ap waiters only.1)) $ move ! (1 ∷ 0 ∷ []) $
    nothing ! $ nothing ! $ fjoin ! $ nothing ! $ fjoin ! $ nothing ! $ by ! (leaves 𝓛 ended hs c z (both (vptr b o) h) out (tt, (tt, tt)) (tt, (tt, tt)))))))))
