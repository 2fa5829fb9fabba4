-- `link` makes the last node of one chain and the first of the other point to each other.
use mathlib.Core.Path.{◌≡◌, refl, sym, ap, ◌∙◌}
use Prim.Native.Nat.{◌<◌}
use mathlib.Core.List.{List, [], ◌∷◌, ◌++◌}
use lib.ListN.{length}
use mir.Val.{Val, vptr, vunit}
use base.Logic.{SProp, emp}
use base.Fml.{ftrue, flft}
use prog.Wp.{Env, WpFn}
use contract.Monad.{fact, fact_i}
use contract.Running.{tables}
use types.Kit.{‵, raw, ◌⊛◌, prop, at_ret, ◌$◌, ◌∵◌, !, qed, by, move, keep, use0, use1, use2, split, join, fsplit, fsplit3, fjoin, fjoin3, feq_i, feq_l, rewrite, regoal}
use types.Part.{whole, sub, store_in}
use types.Run.{stop, fld, unit_lit, of_opd, assigns, assigns_last, first, blocks, exec, returns, enter}
use types.ByLocal.{alloc_all, pass_all, free_all, look_at, get, get_in, through, sets, is, env}
use denote.Exit.{yes}
use denote.RattleType.{owns}
use denote.RawPtr.{Ptr, null_ptr, block_ptr, ptr_val}
use denote.Signature.{types_at, plain}
use denote.Steps.{nothing, heard, opens, closes}
use denote.Triple.Walked.{Stays, stay_dropped, stay_ref, walk_of, Goes-dropped, Goes-ref}
use Rattle.std.proofs.raw_atomic.Walks.{proved_at, leaves}
use Rattle.std_alloc.proofs.VecSteps.Shapes.{after}
use Rattle.std_alloc.proofs.RcSteps.{word, word-Good}
use Rattle.krl_queue.proofs.Nodes.{uncons, unsnoc}
use Rattle.krl_queue.proofs.Segments.{last_or-append, snoc_out, snoc_in, join_in}
use Rattle.krl_queue.specs.Segment.{Spot, first_or, last_or, node_of, spot_owns, segment}
use Rattle.krl_queue.specs.contracts.node_ptr.NodePtr as P
use Rattle.krl_queue.specs.contracts.node_chain.NodeChain as C
use Rattle.krl_blocks.proofs.Words.{word_had}
use Rattle.krl_queue.proofs.Cells.{moved, spot_out, spot_in, mark, mark_had}
use Rattle.krl_queue.specs.contracts.node_chain.NodeChain.link.{ended, clauses}
use Rattle.krl_queue.specs.contracts.node_chain.NodeChain.link.Key.{name as #self}
use Rattle.krl_queue.proofs.node_chain.NodeChain.link.Statement.{statement}
use Rattle.krl_queue.proofs.node_chain.NodeChain.link.Code as code

pub link_spec : {M : Type 1} → statement M
link_spec 𝓤 𝓛 𝓜 𝓡 wired =
    let H = 𝓛.H in let 𝓣 = tables 𝓤 H 𝓜 𝓡 𝓡.env in let c = clauses 𝓛 𝓜.mem 𝓡.returns in let fn = code.function in
    let Cp = plain {n = 1} (λ _. C.the_row) in let Pp = plain {n = 1} (λ _. P.the_row) in
    let hs : Stays ended.signature.params ended.kept = (stay_ref (0 ∷ []) tt Cp, (stay_dropped Pp yes, (stay_dropped Pp yes, (stay_dropped Cp yes, tt)))) in
    proved_at 𝓛 ended hs c 𝓜 𝓡 (Goes-ref 𝓛 1 0 tt Cp, (Goes-dropped 𝓛 1 Pp yes (λ κs x f. refl), (Goes-dropped 𝓛 1 Pp yes (λ κs x f. refl), (Goes-dropped 𝓛 1 Cp yes (λ κs x f. refl), tt))))
    #self fn (code.unfolded 𝓤 H 𝓜 𝓡 wired) (λ z are.
    let κ = z.0.0.0 in let q = z.0.1.0 in let self = z.0.3.0 in let rb = self.ref_ptr.0 in let ro = self.ref_ptr.1 in let d = self.now in
    let last = z.0.3.1.0.ptr in let next = z.0.3.1.1.0.ptr in let other = z.0.3.1.1.1.0.spots in let us = z.0.4 in
    let Post : Val → SProp 𝓤 = (walk_of 𝓛 ended hs c).post z in
    let Some : Type 0 = (0 < length d.spots) × (0 < length other) in
    let Places : Type 0 = (last ≡ last_or null_ptr d.spots) × (next ≡ first_or null_ptr other) in
    qed 𝓛 (((‵ (flft κ q) ⊛ ‵ ftrue) ⊛ ‵ (owns (types_at ended.signature.params z.0.0) z.0.3 z.0.4)) ∷ (raw (fact 𝓤 Some) ⊛ raw (fact 𝓤 Places)) ∷ []) ∵
    move ! (1 ∷ []) $ split ! $ heard ! Some (λ some. heard ! Places (λ places. split ! $ split ! $ move ! (2 ∷ []) $
    fsplit ! $ fsplit3 ! $ feq_l ! (λ e0. move ! (2 ∷ []) $ fsplit ! $ word_had ! last us.1.0 (λ e1. fsplit ! $ word_had ! next us.1.1.0 (λ e2. fsplit ! $ fsplit ! $ mark_had ! us.1.1.1.0 (λ e3.
    keep ! (2 ∷ 3 ∷ 4 ∷ 0 ∷ []) $
    let ns = unsnoc d.spots some.0 in let xs = ns.0 in let l : Spot = ns.1 in
    let ms = uncons other some.1 in let m : Spot = ms.0 in let ys = ms.1 in
    let new : C.the_row.Denot = record { mark = d.mark; spots = d.spots ++ other } in
    regoal ! (λ (ws : List Val). prop (WpFn 𝓤 H 𝓣.C 𝓣.Λ fn ws Post)) (λ i. e0 i ++ (e1 i ++ (e2 i ++ (e3 i ++ [])))) refl $
    enter ! 𝓣.C 𝓣.Λ fn (vptr rb ro ∷ word last ∷ word next ∷ mark ∷ []) Post $ alloc_all ! (λ v. pass_all ! refl ((tt, tt), (word-Good [] last, (word-Good [] next, ((tt, (tt, tt)), tt)))) $ let En : Env 𝓤 H = env fn.locals v in
    opens ! tt C.the_row {h = d} rb ro (λ vs. move ! (1 ∷ []) $ fsplit ! $ move ! (1 ∷ []) $
    -- [this chain's nodes; its mark; its cell; the open borrow; obs; auth; the other's nodes]
    rewrite ! 0 (λ (ss : List Spot). ‵ (segment null_ptr ss null_ptr)) ns.2 refl $
    use1 𝓛 (‵ (segment null_ptr xs l.at) ⊛ ‵ (spot_owns (last_or null_ptr xs) null_ptr l)) (snoc_out 𝓛 null_ptr xs l null_ptr) $ split ! $ move ! (1 ∷ []) $
    spot_out ! (last_or null_ptr xs) null_ptr l (λ lb lo le lgood. move ! (8 ∷ []) $
    rewrite ! 0 (λ (ss : List Spot). ‵ (segment null_ptr ss null_ptr)) ms.2 refl $ fsplit ! $
    spot_out ! null_ptr (first_or null_ptr ys) m (λ mb mo me mgood.
    -- [the first node's cell, and its right; those after it; the last node's cell, and its right; those before it; ..]
    sets ! (is ! (of_opd ! (get_in ! (fld ! refl (stop !)) (sub ! 0 refl (whole !)))) (ap ptr_val (places.0 ∙ ap (last_or null_ptr) ns.2 ∙ last_or-append null_ptr xs (l ∷ []) ∙ le))) refl (tt, tt) $
    sets ! (is ! (of_opd ! (get_in ! (fld ! refl (stop !)) (sub ! 0 refl (whole !)))) (ap ptr_val (places.1 ∙ ap (first_or null_ptr) ms.2 ∙ me))) refl (tt, tt) $ first ! $ blocks ! $
    assigns ! (of_opd ! (get ! refl)) (through ! refl (fld ! refl (stop !))) (store_in ! 3 (sub ! 1 refl (whole !)) (tt, tt)) $
    assigns_last ! (of_opd ! (get ! refl)) (through ! refl (fld ! refl (stop !))) (store_in ! 0 (sub ! 0 refl (whole !)) (tt, tt)) $
    exec ! 𝓣.C 𝓣.Λ En (after 3 fn.body) (at_ret En Post) $ sets ! (of_opd ! (unit_lit !)) refl (tt, tt) $
    spot_in ! (block_ptr lb lo) (first_or null_ptr ys) m mb mo me (moved (node_of null_ptr (first_or null_ptr ys) m) (block_ptr lb lo) (first_or null_ptr ys) mgood) $
    rewrite ! 0 (λ (p : Ptr). ‵ (spot_owns p (first_or null_ptr ys) m)) (sym (last_or-append null_ptr xs (l ∷ []) ∙ le)) refl $ fjoin ! $ move ! (1 ∷ 2 ∷ []) $
    spot_in ! (last_or null_ptr xs) (block_ptr mb mo) l lb lo le (moved (node_of (last_or null_ptr xs) null_ptr l) (last_or null_ptr xs) (block_ptr mb mo) lgood) $
    rewrite ! 0 (λ (p : Ptr). ‵ (spot_owns (last_or null_ptr xs) p l)) (sym me) refl $ move ! (2 ∷ 0 ∷ []) $
    use2 𝓛 (‵ (segment null_ptr (xs ++ l ∷ []) m.at)) (snoc_in 𝓛 null_ptr xs l m.at) $ move ! (0 ∷ 1 ∷ []) $
    use2 𝓛 (‵ (segment null_ptr ((xs ++ l ∷ []) ++ m ∷ ys) null_ptr)) (join_in 𝓛 null_ptr (xs ++ l ∷ []) (m ∷ ys) null_ptr) $
    rewrite ! 0 (λ (ss : List Spot). ‵ (segment null_ptr ss null_ptr)) (λ i. sym ns.2 i ++ sym ms.2 i) refl $
    move ! (1 ∷ []) $ fjoin ! $ move ! (1 ∷ 0 ∷ []) $ closes ! tt C.the_row new vs rb ro $
    returns ! (look_at ! 0 refl) $ free_all ! refl $ keep ! (0 ∷ 1 ∷ 2 ∷ []) $
    nothing ! $ move ! (3 ∷ 0 ∷ []) $ join ! $ move ! (1 ∷ 2 ∷ []) $ feq_i ! (List Val) us.0 (vptr rb ro ∷ []) e0 $ fjoin3 ! $
    nothing ! $ nothing ! $ fjoin ! $ nothing ! $ fjoin ! $ nothing ! $ fjoin ! $ move ! (1 ∷ 0 ∷ []) $ fjoin ! $
    feq_i ! (List Val) (vunit ∷ []) (vunit ∷ []) refl $ use0 𝓛 (raw (fact 𝓤 (new.spots ≡ d.spots ++ other))) (fact_i 𝓤 (new.spots ≡ d.spots ++ other) (emp 𝓤) refl) $ move ! (3 ∷ 2 ∷ 1 ∷ 0 ∷ []) $
    by ! (leaves 𝓛 ended hs c z vunit tt (new, (tt, (tt, (tt, tt)))) (tt, (tt, (tt, (tt, tt))))))))))))))))
