-- `shown` shows what is lent, for as long as the `&mut` is borrowed.
use mathlib.Core.Path.{◌≡◌, refl, sym, ap}
use mathlib.Core.List.{List, [], ◌∷◌, ◌++◌}
use mir.Val.{Val, vptr}
use base.Fraction.{full_share}
use base.Logic.{SProp, emp, never, fst∗}
use base.Fml.{ftrue, flft, fres}
use prog.Wp.{Env, WpFn}
use contract.Monad.{fact, fact_i}
use contract.Running.{tables}
use types.Logic.{sem}
use types.Kit.{‵, raw, ◌⊛◌, later, prop, at_ret, ◌$◌, ◌∵◌, !, qed, by, move, keep, drop, use0, use1, split, split3, join, group, fsplit, fsplit3, fjoin, fpick, fpack, feq_i, feq_l, await, rewrite, regoal}
use types.Run.{stop, fld, load, addr, of_opd, first, blocks, exec, returns, enter}
use types.Part.{look_in, sub, whole}
use types.ByLocal.{alloc_all, pass_all, free_all, look_at, get, through, sets, sets_last, is, env}
use denote.Exit.{no}
use denote.RattleType.{owns}
use denote.Memory.{cell_at, shared_of}
use denote.RawPtr.{Ptr, ptr_val, in_a_block}
use denote.Ref.{Bor}
use denote.Follow.{such_by, follows_by}
use denote.Opens.{hide}
use denote.Signature.{types_at, plain, mut_ref_to}
use denote.Steps.{nothing, heard, opens}
use denote.Struct.Lending.{lent_at}
use denote.Triple.Walked.{Stays, stay_dropped, walk_of, Goes-spent_ref}
use Rattle.std.specs.Prelude.{Option, Some, IsSome, ⊤}
use Rattle.std.proofs.raw_atomic.Walks.{proved_at, leaves}
use Rattle.std_alloc.proofs.VecSteps.Shapes.{after}
use Rattle.std_alloc.proofs.RcSteps.{word}
use Rattle.krl_blocks.proofs.Words.{word_had, word_made}
use Rattle.krl_embed.proofs.Held.{some_is}
use Rattle.krl_embed.proofs.Loans.{shows_lent}
use Rattle.krl_embed.specs.Owning.{may_read}
use Rattle.krl_embed.specs.declared.endpoint.Endpoint.{Endpoint}
use Rattle.krl_embed.specs.declared.lent.Lent.{Lent}
use Rattle.krl_embed.specs.contracts.endpoint.Endpoint as S
use Rattle.krl_embed.specs.contracts.lent.Lent as O
use Rattle.krl_embed.specs.contracts.lent.Lent.shown.{ended, clauses}
use Rattle.krl_embed.specs.contracts.lent.Lent.shown.Key.{name as #self}
use Rattle.krl_embed.proofs.lent.Lent.shown.Statement.{statement}
use Rattle.krl_embed.proofs.lent.Lent.shown.Code as code

pub shown_spec : {M : Type 1} → statement M
unfolding such_by follows_by
shown_spec 𝓤 𝓛 𝓜 𝓡 wired =
    let H = 𝓛.H in let 𝓣 = tables 𝓤 H 𝓜 𝓡 𝓡.env in let c = clauses 𝓛 𝓜.mem 𝓡.returns in let fn = code.function in
    let hs : Stays ended.signature.params ended.kept = (stay_dropped (mut_ref_to (0 ∷ []) tt (plain (λ _. O.the_row))) no, tt) in
    proved_at 𝓛 ended hs c 𝓜 𝓡 (Goes-spent_ref 𝓛 1 (0 ∷ []) tt (plain (λ _. O.the_row)), tt) #self fn (code.unfolded 𝓤 H 𝓜 𝓡 wired) (λ z are.
    let κ = z.0.0.0 in let q = z.0.1.0 in let self = z.0.3.0 in let rb = self.ref_ptr.0 in let ro = self.ref_ptr.1 in let γ = self.ghost_name in let d = self.now in
    let Post : Val → SProp 𝓤 = (walk_of 𝓛 ended hs c).post z in let last = O.the_row.coded.code d in
    qed 𝓛 (((‵ (flft κ q) ⊛ ‵ ftrue) ⊛ ‵ (owns (types_at ended.signature.params z.0.0) z.0.3 z.0.4)) ∷ raw (fact 𝓤 (IsSome d.value)) ∷ []) ∵
    move ! (1 ∷ []) $ heard ! (IsSome d.value) (λ asked. split ! $ split ! $ move ! (2 ∷ []) $
    fsplit ! $ fsplit3 ! $ feq_l ! (λ e0. keep ! (0 ∷ 1 ∷ 3 ∷ []) $
    let only = some_is d.value asked in let x : Endpoint = only.0 in
    regoal ! (λ (ws : List Val). prop (WpFn 𝓤 H 𝓣.C 𝓣.Λ fn ws Post)) (λ i. e0 i ++ []) refl $
    enter ! 𝓣.C 𝓣.Λ fn (vptr rb ro ∷ []) Post $ alloc_all ! (λ l. pass_all ! refl ((tt, tt), tt) $ let En : Env 𝓤 H = env fn.locals l in
    opens ! tt O.the_row {h = d} rb ro (λ us. move ! (1 ∷ []) $ fsplit ! $ word_had ! d.at us (λ ev.
    rewrite ! 1 (λ (ws : List Val). ‵ (cell_at full_share O.the_row.mir ws rb ro)) ev refl $
    rewrite ! 0 (λ (o : Option Endpoint). ‵ (may_read d.at d.life o)) only.1 refl $ fsplit ! $ move ! (1 ∷ []) $ fpick ! (λ s. move ! (1 ∷ []) $
    in_a_block ! d.at (λ r. lent_at S.the_row r x (d.life ∷ [])) (fst∗ 𝓤 (never 𝓤) (sem 𝓛 (shared_of S.the_row x 0 0 (d.life ∷ [])))) (λ b o e.
    rewrite ! 0 (λ (r : Ptr). ‵ (lent_at S.the_row r x (d.life ∷ []))) (sym e) refl $
    -- [what is lent; its token; the cell; the open borrow, in three entries]
    sets ! (is ! (of_opd ! (load ! (through ! refl (fld ! refl (stop !))) (look_in ! 2 (sub ! 0 refl (whole !))))) (ap ptr_val e)) refl (tt, tt) $
    sets ! (of_opd ! (get ! refl)) refl (tt, tt) $
    first ! $ blocks ! $ sets_last ! (addr ! (through ! refl (stop !))) refl (tt, tt) $
    exec ! 𝓣.C 𝓣.Λ En (after 3 fn.body) (at_ret En Post) $ sets ! (of_opd ! (get ! refl)) refl (tt, tt) $
    word_made ! d.at $ move ! (4 ∷ 5 ∷ 6 ∷ 3 ∷ 0 ∷ 1 ∷ 2 ∷ []) $ group ! 7 $
    use1 𝓛 (later (‵ (lent_at S.the_row d.at x κ) ⊛ ‵ (flft κ q) ⊛ ‵ (fres γ last))) (shows_lent 𝓛 κ q s d x only.1 rb ro γ (word d.at ∷ [])) $ await ! tt $ split3 ! $
    rewrite ! 0 (λ (r : Ptr). ‵ (lent_at S.the_row r x κ)) e refl $ fsplit ! $ drop ! $ hide ! $
    let r : Bor Endpoint = record { ref_ptr = (b, o); now = x } in let v : Val = vptr b o in
    feq_i ! (List Val) (v ∷ []) (v ∷ []) refl $ fjoin ! $
    returns ! (look_at ! 0 refl) $ free_all ! refl $
    -- [the result; the token; the last value]
    use0 𝓛 (raw (fact 𝓤 (d.value ≡ Some x))) (fact_i 𝓤 (d.value ≡ Some x) (emp 𝓤) only.1) $ move ! (3 ∷ []) $
    fpack ! ((t : (Lent → Lent) × Lent) × ((w : Lent) → ⊤) × (t.1.value ≡ d.value)) (λ t. fres γ (O.the_row.coded.code t.0.1)) (((λ _. d), d), (λ w. tt), refl) $
    join ! $ move ! (2 ∷ []) $ nothing ! $ move ! (1 ∷ 0 ∷ []) $ join ! $ nothing ! $ nothing ! $ fjoin ! $ move ! (1 ∷ 0 ∷ 3 ∷ 2 ∷ []) $
    by ! (leaves 𝓛 ended hs c z v r (tt, tt) (tt, tt))))))))))
