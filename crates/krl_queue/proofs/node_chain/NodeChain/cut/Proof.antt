-- `cut` makes two nodes in a row point to nothing.
use mathlib.Core.Path.{◌≡◌, refl, sym, ap, ◌∙◌}
use Prim.Native.Nat.{◌<◌}
use mathlib.Core.List.{List, [], ◌∷◌, ◌++◌}
use lib.ListN.{length, take, drop}
use mir.Val.{Val, vptr}
use base.Logic.{SProp, emp}
use base.Fml.{ftrue, flft}
use prog.Wp.{Env, WpFn}
use contract.Monad.{fact, fact_i}
use contract.Running.{tables}
use types.Kit.{‵, raw, ◌⊛◌, prop, at_ret, ◌$◌, ◌∵◌, !, qed, by, move, keep, use0, use1, use2, split, join, fsplit, fsplit3, fjoin, fjoin3, feq_i, feq_l, rewrite, regoal}
use types.Part.{agg, whole, sub, store_in}
use types.Run.{stop, fld, lit, of_opd, and_then, no_more, assigns, assigns_last, first, blocks, exec, returns, enter}
use types.ByLocal.{alloc_all, pass_all, free_all, look_at, get, get_in, through, sets, is, env}
use denote.Exit.{yes}
use denote.RattleType.{owns}
use denote.RawPtr.{null_ptr, ptr_val}
use denote.Builtin.{RefOf}
use denote.Signature.{types_at, plain}
use denote.Steps.{nothing, heard, opens, closes}
use denote.Triple.Walked.{Stays, stay_dropped, stay_ref, walk_of, Goes-dropped, Goes-ref}
use Rattle.std.proofs.raw_atomic.Walks.{proved_at, leaves}
use Rattle.std_alloc.proofs.VecSteps.Shapes.{after}
use Rattle.std_alloc.proofs.RcSteps.{Ptr-Good, word, word-Good}
use Rattle.krl_queue.proofs.Nodes.{uncons, unsnoc, take_drop, length-take_in, length-drop_in}
use Rattle.krl_queue.proofs.Segments.{last_or-append, cut_out, snoc_out, snoc_in}
use Rattle.krl_queue.specs.Segment.{Spot, first_or, last_or, node_of, spot_owns, segment}
use Rattle.krl_queue.specs.contracts.node_ptr.NodePtr as P
use Rattle.krl_queue.specs.contracts.node_ptr.Index as I
use Rattle.krl_queue.specs.contracts.node_chain.NodeChain as C
use Rattle.krl_blocks.proofs.Words.{word_had}
use Rattle.krl_queue.proofs.Cells.{moved, spot_out, spot_in, Mark, mark, mark_made}
use Rattle.krl_queue.specs.contracts.node_chain.NodeChain.cut.{ended, clauses}
use Rattle.krl_queue.specs.contracts.node_chain.NodeChain.cut.Key.{name as #self}
use Rattle.krl_queue.proofs.node_chain.NodeChain.cut.Statement.{statement}
use Rattle.krl_queue.proofs.node_chain.NodeChain.cut.Code as code

pub cut_spec : {M : Type 1} → statement M
cut_spec 𝓤 𝓛 𝓜 𝓡 wired =
    let H = 𝓛.H in let 𝓣 = tables 𝓤 H 𝓜 𝓡 𝓡.env in let c = clauses 𝓛 𝓜.mem 𝓡.returns in let fn = code.function in
    let Cp = plain {n = 2} (λ _. C.the_row) in let Pp = plain {n = 2} (λ _. P.the_row) in let Ip = RefOf {n = 2} (1 ∷ []) tt (plain (λ _. I.the_row)) (λ _. tt) in
    let hs : Stays ended.signature.params ended.kept = (stay_ref (0 ∷ []) tt Cp, (stay_dropped Pp yes, (stay_dropped Pp yes, (stay_dropped Ip yes, tt)))) in
    proved_at 𝓛 ended hs c 𝓜 𝓡 (Goes-ref 𝓛 2 0 tt Cp, (Goes-dropped 𝓛 2 Pp yes (λ κs x f. refl), (Goes-dropped 𝓛 2 Pp yes (λ κs x f. refl), (Goes-dropped 𝓛 2 Ip yes (λ κs x f. refl), tt))))
    #self fn (code.unfolded 𝓤 H 𝓜 𝓡 wired) (λ z are.
    let κ = z.0.0.0 in let q = z.0.1.0 in let ι = z.0.0.1.0 in let r = z.0.1.1.0 in let self = z.0.3.0 in let rb = self.ref_ptr.0 in let ro = self.ref_ptr.1 in let d = self.now in
    let last = z.0.3.1.0.ptr in let next = z.0.3.1.1.0.ptr in let index = z.0.3.1.1.1.0 in let ib = index.ref_ptr.0 in let io = index.ref_ptr.1 in let at = index.now.at in let us = z.0.4 in
    let Post : Val → SProp 𝓤 = (walk_of 𝓛 ended hs c).post z in let front = take at d.spots in let back = drop at d.spots in
    let Within : Type 0 = (0 < at) × (at < length d.spots) in
    let Places : Type 0 = (last ≡ last_or null_ptr front) × (next ≡ first_or null_ptr back) in
    qed 𝓛 (((‵ (flft κ q) ⊛ (‵ (flft ι r) ⊛ ‵ ftrue)) ⊛ ‵ (owns (types_at ended.signature.params z.0.0) z.0.3 z.0.4)) ∷ (raw (fact 𝓤 Within) ⊛ raw (fact 𝓤 Places)) ∷ []) ∵
    move ! (1 ∷ []) $ split ! $ heard ! Within (λ within. heard ! Places (λ places. split ! $ split ! $ move ! (2 ∷ []) $
    fsplit ! $ fsplit3 ! $ feq_l ! (λ e0. move ! (2 ∷ []) $ fsplit ! $ word_had ! last us.1.0 (λ e1. fsplit ! $ word_had ! next us.1.1.0 (λ e2. fsplit ! $ fsplit ! $ feq_l ! (λ e3.
    keep ! (2 ∷ 3 ∷ 4 ∷ 5 ∷ []) $
    let ns = unsnoc front (length-take_in at d.spots within.0 within.1) in let xs = ns.0 in let l : Spot = ns.1 in
    let ms = uncons back (length-drop_in at d.spots within.1) in let m : Spot = ms.0 in let ys = ms.1 in
    let new : C.the_row.Denot = record { mark = d.mark; spots = front } in let out : C.the_row.Denot = record { mark = record {}; spots = back } in
    regoal ! (λ (ws : List Val). prop (WpFn 𝓤 H 𝓣.C 𝓣.Λ fn ws Post)) (λ i. e0 i ++ (e1 i ++ (e2 i ++ (e3 i ++ [])))) refl $
    enter ! 𝓣.C 𝓣.Λ fn (vptr rb ro ∷ word last ∷ word next ∷ vptr ib io ∷ []) Post $ alloc_all ! (λ v. pass_all ! refl ((tt, tt), (word-Good [] last, (word-Good [] next, ((tt, tt), tt)))) $ let En : Env 𝓤 H = env fn.locals v in
    opens ! tt C.the_row {h = d} rb ro (λ vs. move ! (1 ∷ []) $ fsplit ! $ move ! (1 ∷ []) $
    -- [the nodes; the mark; its cell; the open borrow; obs; auth]
    rewrite ! 0 (λ (ss : List Spot). ‵ (segment null_ptr ss null_ptr)) (sym (take_drop at d.spots)) refl $
    use1 𝓛 (‵ (segment null_ptr front (first_or null_ptr back)) ⊛ ‵ (segment (last_or null_ptr front) back null_ptr)) (cut_out 𝓛 null_ptr front back null_ptr) $ split ! $
    rewrite ! 0 (λ (ss : List Spot). ‵ (segment null_ptr ss (first_or null_ptr back))) ns.2 refl $
    use1 𝓛 (‵ (segment null_ptr xs l.at) ⊛ ‵ (spot_owns (last_or null_ptr xs) (first_or null_ptr back) l)) (snoc_out 𝓛 null_ptr xs l (first_or null_ptr back)) $ split ! $ move ! (1 ∷ []) $
    spot_out ! (last_or null_ptr xs) (first_or null_ptr back) l (λ lb lo le lgood. move ! (3 ∷ []) $
    rewrite ! 0 (λ (ss : List Spot). ‵ (segment (last_or null_ptr front) ss null_ptr)) ms.2 refl $ fsplit ! $
    spot_out ! (last_or null_ptr front) (first_or null_ptr ys) m (λ mb mo me mgood.
    -- [the cell after the cut, and its right; those after it; the cell before the cut, and its right; those before it; ..]
    sets ! (is ! (of_opd ! (get_in ! (fld ! refl (stop !)) (sub ! 0 refl (whole !)))) (ap ptr_val (places.0 ∙ ap (last_or null_ptr) ns.2 ∙ last_or-append null_ptr xs (l ∷ []) ∙ le))) refl (tt, tt) $
    sets ! (is ! (of_opd ! (get_in ! (fld ! refl (stop !)) (sub ! 0 refl (whole !)))) (ap ptr_val (places.1 ∙ ap (first_or null_ptr) ms.2 ∙ me))) refl (tt, tt) $ first ! $ blocks ! $
    assigns ! (of_opd ! (lit ! tt)) (through ! refl (fld ! refl (stop !))) (store_in ! 3 (sub ! 1 refl (whole !)) (Ptr-Good null_ptr)) $
    assigns_last ! (of_opd ! (lit ! tt)) (through ! refl (fld ! refl (stop !))) (store_in ! 0 (sub ! 0 refl (whole !)) (Ptr-Good null_ptr)) $
    exec ! 𝓣.C 𝓣.Λ En (after 3 fn.body) (at_ret En Post) $ sets ! (agg ! (no_more !)) refl (tt, tt) $ sets ! (agg ! (and_then ! (get ! refl) (no_more !))) refl (tt, (tt, tt)) $
    spot_in ! null_ptr (first_or null_ptr ys) m mb mo me (moved (node_of (last_or null_ptr front) (first_or null_ptr ys) m) null_ptr (first_or null_ptr ys) mgood) $ fjoin ! $
    rewrite ! 0 (λ (ss : List Spot). ‵ (segment null_ptr ss null_ptr)) (sym ms.2) refl $ use0 𝓛 (‵ (Mark.own_val (tt, tt) (mark ∷ []))) (mark_made 𝓛) $ fjoin ! $ move ! (1 ∷ 2 ∷ []) $
    spot_in ! (last_or null_ptr xs) null_ptr l lb lo le (moved (node_of (last_or null_ptr xs) (first_or null_ptr back) l) (last_or null_ptr xs) null_ptr lgood) $ move ! (2 ∷ 0 ∷ []) $
    use2 𝓛 (‵ (segment null_ptr (xs ++ l ∷ []) null_ptr)) (snoc_in 𝓛 null_ptr xs l null_ptr) $ rewrite ! 0 (λ (ss : List Spot). ‵ (segment null_ptr ss null_ptr)) (sym ns.2) refl $
    -- [the nodes before; the chain of those after; the mark; its cell; the open borrow; obs; auth]
    move ! (2 ∷ 0 ∷ []) $ fjoin ! $ move ! (2 ∷ 0 ∷ 3 ∷ 4 ∷ 5 ∷ []) $ closes ! tt C.the_row new vs rb ro $
    returns ! (look_at ! 0 refl) $ free_all ! refl $ keep ! (0 ∷ 1 ∷ 2 ∷ 3 ∷ 4 ∷ []) $
    move ! (2 ∷ 4 ∷ []) $ join ! $ move ! (1 ∷ 2 ∷ []) $ feq_i ! (List Val) us.0 (vptr rb ro ∷ []) e0 $ fjoin3 ! $
    nothing ! $ nothing ! $ fjoin ! $ nothing ! $ fjoin ! $ nothing ! $ fjoin ! $ move ! (1 ∷ 0 ∷ []) $ fjoin ! $
    let Gives : Type 0 = (new.spots ≡ front) × (out.spots ≡ back) in
    use0 𝓛 (raw (fact 𝓤 Gives)) (fact_i 𝓤 Gives (emp 𝓤) (refl, refl)) $ move ! (2 ∷ 1 ∷ 3 ∷ 0 ∷ []) $
    by ! (leaves 𝓛 ended hs c z mark out (new, (tt, (tt, (tt, tt)))) (tt, (tt, (tt, (tt, tt))))))))))))))))
