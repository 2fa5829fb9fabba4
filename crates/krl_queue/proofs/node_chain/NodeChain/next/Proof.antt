-- `next` reads a node's second pointer.
use mathlib.Core.Path.{◌≡◌, refl, sym, ap, ◌∙◌}
use Prim.Native.Nat.{◌+◌, ◌<◌}
use mathlib.Core.List.{List, [], ◌∷◌, ◌++◌}
use lib.ListN.{length, take, drop as skip}
use mir.Val.{Val, vptr}
use base.Fraction.{full_share}
use base.Logic.{SProp, emp, never, fst∗}
use base.Fml.{ftrue, fat, flft}
use prog.Wp.{Env, WpFn}
use contract.Monad.{fact, fact_i}
use contract.Running.{tables}
use types.Logic.{sem}
use types.Kit.{‵, raw, ◌⊛◌, prop, at_ret, ◌$◌, ◌∵◌, !, qed, by, move, keep, drop, use0, use1, split, join, fsplit, fjoin, feq_l, rewrite, regoal}
use types.Part.{agg, whole, sub}
use types.Run.{look, stop, hop, fld, from, load, of_opd, and_then, no_more, first, blocks, exec, returns, enter}
use types.ByLocal.{alloc_all, pass_all, free_all, look_at, look_in_at, take_at, give_at, get, sets, sets_last, env}
use denote.Exit.{yes}
use denote.RattleType.{owns}
use denote.Memory.{shared_of}
use denote.Param.{layout}
use denote.RawPtr.{Ptr, null_ptr, block_ptr, in_a_block}
use denote.Builtin.{RefOf}
use denote.Opens.{hide, unhide}
use denote.Signature.{types_at, plain}
use denote.Steps.{nothing, heard}
use denote.Struct.Lending.{lent_at}
use denote.Triple.Walked.{Stays, stay_dropped, walk_of, Goes-dropped}
use Rattle.std.proofs.raw_atomic.Walks.{proved_at, leaves}
use Rattle.std_alloc.proofs.VecSteps.Shapes.{after}
use Rattle.std_alloc.proofs.RcSteps.{Ptr-Good, word, word-Good}
use Rattle.krl_queue.proofs.Sharing.{spot_seen}
use Rattle.krl_queue.proofs.Nodes.{uncons, take_drop, length-drop_in, drop_next}
use Rattle.krl_queue.specs.Segment.{Spot, first_or, last_or, node_of, segment_lent}
use Rattle.krl_queue.specs.declared.node.Node.{Node}
use Rattle.krl_queue.specs.contracts.node.Node as N
use Rattle.krl_queue.specs.contracts.node_ptr.NodePtr as P
use Rattle.krl_queue.specs.contracts.node_ptr.Index as I
use Rattle.krl_queue.specs.contracts.node_chain.NodeChain as C
use Rattle.krl_blocks.proofs.Words.{word_had, word_made}
use Rattle.krl_queue.proofs.Cells.{peer_in, peer_out}
use Rattle.krl_queue.specs.contracts.node_chain.NodeChain.next.{ended, clauses}
use Rattle.krl_queue.specs.contracts.node_chain.NodeChain.next.Key.{name as #self}
use Rattle.krl_queue.proofs.node_chain.NodeChain.next.Statement.{statement}
use Rattle.krl_queue.proofs.node_chain.NodeChain.next.Code as code

pub next_spec : {M : Type 1} → statement M
next_spec 𝓤 𝓛 𝓜 𝓡 wired =
    let H = 𝓛.H in let 𝓣 = tables 𝓤 H 𝓜 𝓡 𝓡.env in let c = clauses 𝓛 𝓜.mem 𝓡.returns in let fn = code.function in
    let Rp = RefOf {n = 2} (0 ∷ []) tt (plain (λ _. C.the_row)) (λ _. tt) in let Pp = plain {n = 2} (λ _. P.the_row) in let Ip = RefOf {n = 2} (1 ∷ []) tt (plain (λ _. I.the_row)) (λ _. tt) in
    let hs : Stays ended.signature.params ended.kept = (stay_dropped Rp yes, (stay_dropped Pp yes, (stay_dropped Ip yes, tt))) in
    proved_at 𝓛 ended hs c 𝓜 𝓡 (Goes-dropped 𝓛 2 Rp yes (λ κs x f. refl), (Goes-dropped 𝓛 2 Pp yes (λ κs x f. refl), (Goes-dropped 𝓛 2 Ip yes (λ κs x f. refl), tt)))
    #self fn (code.unfolded 𝓤 H 𝓜 𝓡 wired) (λ z are.
    let κ = z.0.0.0 in let q = z.0.1.0 in let ι = z.0.0.1.0 in let r = z.0.1.1.0 in let self = z.0.3.0 in let rb = self.ref_ptr.0 in let ro = self.ref_ptr.1 in let ss = self.now.spots in
    let p = z.0.3.1.0.ptr in let index = z.0.3.1.1.0 in let ib = index.ref_ptr.0 in let io = index.ref_ptr.1 in let at = index.now.at in let us = z.0.4 in let Post : Val → SProp 𝓤 = (walk_of 𝓛 ended hs c).post z in
    let Asks : Type 0 = (at < length ss) × (p ≡ first_or null_ptr (skip at ss)) in
    qed 𝓛 (((‵ (flft κ q) ⊛ (‵ (flft ι r) ⊛ ‵ ftrue)) ⊛ ‵ (owns (types_at ended.signature.params z.0.0) z.0.3 z.0.4)) ∷ raw (fact 𝓤 Asks) ∷ []) ∵
    move ! (1 ∷ []) $ heard ! Asks (λ asked. split ! $ split ! $ move ! (2 ∷ []) $
    fsplit ! $ fsplit ! $ feq_l ! (λ e0. move ! (1 ∷ []) $ fsplit ! $ word_had ! p us.1.0 (λ e1. fsplit ! $ fsplit ! $ feq_l ! (λ e2. keep ! (2 ∷ 3 ∷ 4 ∷ []) $
    let on = uncons (skip at ss) (length-drop_in at ss asked.0) in let s : Spot = on.0 in let ys = on.1 in let xs = take at ss in
    let cut : ss ≡ xs ++ s ∷ ys = sym (take_drop at ss) ∙ ap (λ l. xs ++ l) on.2 in let x : Node = node_of (last_or null_ptr xs) (first_or null_ptr ys) s in
    regoal ! (λ (ws : List Val). prop (WpFn 𝓤 H 𝓣.C 𝓣.Λ fn ws Post)) (λ i. e0 i ++ (e1 i ++ (e2 i ++ []))) refl $
    enter ! 𝓣.C 𝓣.Λ fn (vptr rb ro ∷ word p ∷ vptr ib io ∷ []) Post $ alloc_all ! (λ l. pass_all ! refl ((tt, tt), (word-Good [] p, ((tt, tt), tt))) $ let En : Env 𝓤 H = env fn.locals l in
    unhide ! $ fsplit ! $ drop ! $ rewrite ! 0 (λ (ns : List Spot). ‵ (segment_lent null_ptr ns null_ptr κ)) cut refl $
    use1 𝓛 (‵ (lent_at N.the_row s.at x κ)) (spot_seen 𝓛 κ null_ptr xs s ys null_ptr) $
    in_a_block ! s.at (λ r. lent_at N.the_row r x κ) (fst∗ 𝓤 (never 𝓤) (sem 𝓛 (shared_of N.the_row x 0 0 κ))) (λ b o e.
    let is_at : p ≡ block_ptr b o = asked.1 ∙ ap (first_or null_ptr) on.2 ∙ e in
    take_at ! 2 $ rewrite ! 0 (λ (r : Ptr). ‵ (fat full_share (layout P.the_row) (l 2) 0 (word r))) is_at refl $ give_at ! 2 $ fsplit ! $ drop ! $ fsplit ! $
    let other : Ptr = first_or null_ptr ys in let out : P.the_row.Denot = record { ptr = other } in
    -- [the fields, shared; what is left of the place; the token]
    fsplit ! $ drop ! $ fsplit ! $ hide ! $ move ! (0 ∷ 3 ∷ []) $ peer_in ! tt other b (o + 8) (λ part.
    first ! $ blocks ! $ sets_last ! (of_opd ! (load ! (from ! (fld ! refl (hop ! (look_in_at ! 2 (sub ! 0 refl (whole !))) (fld ! refl (stop !))))) (look ! 0 refl))) refl (Ptr-Good other) $
    exec ! 𝓣.C 𝓣.Λ En (after 1 fn.body) (at_ret En Post) $ sets ! (of_opd ! (get ! refl)) refl (Ptr-Good other) $
    sets ! (agg ! (and_then ! (get ! refl) (no_more !))) refl (word-Good [] other) $ peer_out ! tt other b (o + 8) $
    returns ! (look_at ! 0 refl) $ free_all ! refl $ keep ! (0 ∷ 3 ∷ []) $ word_made ! other $ move ! (1 ∷ []) $
    let Gives : Type 0 = other ≡ first_or null_ptr (skip (at + 1) ss) in
    use0 𝓛 (raw (fact 𝓤 Gives)) (fact_i 𝓤 Gives (emp 𝓤) (ap (first_or null_ptr) (sym (drop_next at ss s ys on.2)))) $ move ! (1 ∷ 3 ∷ []) $ join ! $ move ! (1 ∷ 2 ∷ []) $
    nothing ! $ nothing ! $ fjoin ! $ nothing ! $ fjoin ! $ nothing ! $ fjoin ! $ move ! (3 ∷ 0 ∷ 2 ∷ 1 ∷ []) $
    by ! (leaves 𝓛 ended hs c z (word other) out (tt, (tt, (tt, tt))) (tt, (tt, (tt, tt))))))))))))
