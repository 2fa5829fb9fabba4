-- `one` takes a loose node over, and writes its two pointers.
use mathlib.Core.Path.{◌≡◌, refl, sym, subst}
use mathlib.Core.List.{List, [], ◌∷◌, ◌++◌}
use mir.Raw.{raw as bare}
use mir.Val.{Val, vptr}
use base.Logic.{SProp, ent, emp, id⊢}
use base.Fml.{ftrue}
use prog.Wp.{Env, WpFn}
use contract.Monad.{fact, fact_i}
use contract.Running.{tables}
use types.Kit.{‵, raw, ◌⊛◌, at_ret, ◌$◌, ◌∵◌, !, qed, by, move, keep, drop, use0, suffices, split, fsplit, fjoin}
use types.Part.{agg, whole, sub, store_in}
use types.Run.{stop, fld, lit, of_opd, and_then, no_more, assigns, assigns_last, first, blocks, exec, returns, enter}
use types.ByLocal.{alloc_all, pass_all, free_all, look_at, get, get_in, through, sets, env}
use denote.Exit.{yes}
use denote.RattleType.{RattleType, owns}
use denote.RawPtr.{Testable, null_ptr, block_ptr}
use denote.Signature.{types_at, plain}
use denote.Steps.{nothing}
use denote.Triple.Walked.{Stays, stay_dropped, walk_of, Goes-dropped}
use Rattle.std.proofs.GlobalToken.{dealloc_token-Testable}
use Rattle.std.proofs.raw_atomic.Walks.{proved_at, leaves}
use Rattle.std.specs.contracts.alloc.Global as heap
use Rattle.std.proofs.alloc.Global.TheLaws as heap_laws
use Rattle.std.specs.contracts.impls.GlobalAllocator.TheImpl.{ghosts}
use Rattle.std_alloc.proofs.VecSteps.Shapes.{after}
use Rattle.std_alloc.proofs.RcSteps.{Ptr-Good, word}
use Rattle.krl_blocks.proofs.DetachedBoxes.{both, DetachedBox, detached_box_good, detached_box_out}
use Rattle.krl_queue.proofs.Values.{pair_in}
use Rattle.krl_queue.specs.Ends.{IsPlace}
use Rattle.krl_queue.specs.Segment.{spot}
use Rattle.krl_queue.specs.contracts.node.Node as N
use Rattle.krl_queue.specs.contracts.node_ptr.NodePtr as P
use Rattle.krl_queue.specs.contracts.node_chain.NodeChain as C
use Rattle.krl_blocks.proofs.Words.{word_made}
use Rattle.krl_queue.proofs.Cells.{moved, node_out, spot_in, learns, τ, mark, Mark, mark_made}
use Rattle.krl_queue.specs.contracts.node_chain.NodeChain.one.{ended, clauses}
use Rattle.krl_queue.specs.contracts.node_chain.NodeChain.one.Key.{name as #self}
use Rattle.krl_queue.proofs.node_chain.NodeChain.one.Statement.{statement}
use Rattle.krl_queue.proofs.node_chain.NodeChain.one.Code as code

pub one_spec : {M : Type 1} → statement M
one_spec 𝓤 𝓛 𝓜 𝓡 wired =
    let H = 𝓛.H in let 𝓣 = tables 𝓤 H 𝓜 𝓡 𝓡.env in let c = clauses 𝓛 𝓜.mem 𝓡.returns in let fn = code.function in
    let Z : RattleType = heap.the_row in let LZ = heap_laws.the_row_laws in let Lr : RattleType = DetachedBox N.the_row Z LZ ghosts in
    let hs : Stays ended.signature.params ended.kept = (stay_dropped (plain (λ _. Lr)) yes, tt) in
    proved_at 𝓛 ended hs c 𝓜 𝓡 (Goes-dropped 𝓛 0 (plain (λ _. Lr)) yes (λ κs x f. refl), tt) #self fn (code.unfolded 𝓤 H 𝓜 𝓡 wired) (λ z are.
    let d = z.0.3.0 in let Post : Val → SProp 𝓤 = (walk_of 𝓛 ended hs c).post z in let Run : List Val → SProp 𝓤 = λ ws. WpFn 𝓤 H 𝓣.C 𝓣.Λ fn ws Post in
    qed 𝓛 ((‵ ftrue ⊛ ‵ (owns (types_at ended.signature.params z.0.0) z.0.3 z.0.4)) ∷ ‵ ftrue ∷ []) ∵ split ! $ drop ! $ fsplit ! $
    detached_box_out N.the_row Z LZ ghosts ! d z.0.4.0 (λ b o h e ws fits.
    suffices ! (Run (both (vptr b o) h ∷ [])) (subst (λ (us : List Val). ent 𝓤 (Run (both (vptr b o) h ∷ [])) (Run us)) (sym (λ i. ws i ++ [])) (id⊢ 𝓤 (Run (both (vptr b o) h ∷ [])))) $
    fsplit ! $ node_out ! d.value b o (λ sound.
    let x = d.value in let at = block_ptr b o in let n = spot at x.waiter x.alloc in
    let chain : C.the_row.Denot = record { mark = record {}; spots = n ∷ [] } in let ptr : P.the_row.Denot = record { ptr = at } in
    move ! (1 ∷ []) $ learns ! (Testable at) (dealloc_token-Testable 𝓛 d.alloc (bare τ) at) (λ testable. move ! (1 ∷ []) $
    enter ! 𝓣.C 𝓣.Λ fn (both (vptr b o) h ∷ []) Post $ alloc_all ! (λ l. pass_all ! refl (detached_box_good N.the_row Z LZ ghosts b o h fits, tt) $ let En : Env 𝓤 H = env fn.locals l in
    sets ! (of_opd ! (get_in ! (fld ! refl (stop !)) (sub ! 0 refl (whole !)))) refl (tt, tt) $ first ! $ blocks ! $
    assigns ! (of_opd ! (lit ! tt)) (through ! refl (fld ! refl (stop !))) (store_in ! 0 (sub ! 0 refl (whole !)) (Ptr-Good null_ptr)) $
    assigns_last ! (of_opd ! (lit ! tt)) (through ! refl (fld ! refl (stop !))) (store_in ! 0 (sub ! 1 refl (whole !)) (Ptr-Good null_ptr)) $
    exec ! 𝓣.C 𝓣.Λ En (after 2 fn.body) (at_ret En Post) $
    sets ! (agg ! (and_then ! (get ! refl) (no_more !))) refl (tt, (tt, tt)) $ sets ! (agg ! (no_more !)) refl (tt, tt) $
    sets ! (agg ! (and_then ! (get ! refl) (no_more !))) refl (tt, (tt, tt)) $
    sets ! (agg ! (and_then ! (get ! refl) (and_then ! (get ! refl) (no_more !)))) refl (tt, ((tt, tt), ((tt, tt), tt))) $
    -- [the node's cell; the right to free it; the handle]
    spot_in ! null_ptr null_ptr n b o refl (moved x null_ptr null_ptr sound) $ nothing ! $ move ! (1 ∷ 0 ∷ []) $ fjoin ! $
    use0 𝓛 (‵ (Mark.own_val (tt, tt) (mark ∷ []))) (mark_made 𝓛) $ fjoin ! $ word_made ! at $ pair_in P.the_row C.the_row ! ptr chain (word at) mark $
    returns ! (look_at ! 0 refl) $ free_all ! refl $ keep ! (0 ∷ []) $ use0 𝓛 (raw (fact 𝓤 (IsPlace at))) (fact_i 𝓤 (IsPlace at) (emp 𝓤) (testable, refl)) $
    use0 𝓛 (raw (fact 𝓤 (chain.spots ≡ n ∷ []))) (fact_i 𝓤 (chain.spots ≡ n ∷ []) (emp 𝓤) refl) $ move ! (2 ∷ 0 ∷ 1 ∷ []) $
    nothing ! $ nothing ! $ fjoin ! $ nothing ! $ by ! (leaves 𝓛 ended hs c z (both (word at) mark) (ptr, chain) (tt, tt) (tt, tt)))))))
