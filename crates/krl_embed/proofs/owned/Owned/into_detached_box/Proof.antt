-- `into_detached_box` gives what it owns.
use Rattle.std.proofs.Common.{◌≡◌, List, [], ◌∷◌, ◌++◌, refl, Option, Some}
use Rattle.std.specs.Prelude.{IsSome}
use mir.Val.{Val, vptr}
use base.Logic.{SProp, emp, never, fst∗}
use base.Fml.{ftrue}
use prog.Wp.{WpFn}
use contract.Monad.{fact, fact_i}
use contract.Running.{tables}
use types.Logic.{sem}
use types.Kit.{‵, raw, ◌⊛◌, prop, ◌$◌, ◌∵◌, !, qed, by, move, keep, drop, use0, split, fsplit, fjoin, rewrite, regoal}
use types.Part.{agg, whole, sub}
use types.Run.{stop, fld, of_opd, and_then, no_more, returns, enter}
use types.ByLocal.{alloc_all, pass_all, free_all, look_at, get, get_in, sets, is}
use denote.Exit.{yes}
use denote.RattleType.{owns}
use denote.RawPtr.{block_ptr, null_ptr, ptr_val, in_a_block}
use denote.Signature.{types_at, plain}
use denote.Steps.{nothing, heard}
use denote.Triple.Walked.{Stays, stay_dropped, walk_of, Goes-dropped}
use mir.Raw.{raw as bare}
use denote.Memory.{lone}
use Rattle.core.proofs.alloc.Calls.{handle_tells}
use Rattle.std.proofs.raw_atomic.Walks.{proved_at, leaves}
use Rattle.std.specs.declared.alloc.Global.{Global}
use Rattle.std.proofs.alloc.Global.TheLaws as heap_laws
use Rattle.std.specs.contracts.impls.GlobalAllocator.TheImpl.{ghosts}
use Rattle.std_alloc.specs.Box.Ownership.{box_owns}
use Rattle.std_alloc.proofs.RcSteps.{word, word-Good}
use Rattle.krl_embed.specs.declared.endpoint.Endpoint.{Endpoint}
use Rattle.krl_embed.specs.Owning.{may_own}
use Rattle.krl_blocks.proofs.DetachedBoxes.{both, DetachedBox, detached_box_good, detached_box_in}
use Rattle.krl_blocks.proofs.Words.{word_had}
use Rattle.krl_embed.proofs.Held.{Z, al, some_is}
use Rattle.krl_embed.specs.contracts.endpoint.Endpoint as S
use Rattle.krl_embed.specs.contracts.owned.Owned as O
use Rattle.krl_embed.specs.contracts.owned.Owned.into_detached_box.{ended, clauses}
use Rattle.krl_embed.specs.contracts.owned.Owned.into_detached_box.Key.{name as #self}
use Rattle.krl_embed.proofs.owned.Owned.into_detached_box.Statement.{statement}
use Rattle.krl_embed.proofs.owned.Owned.into_detached_box.Code as code

pub into_detached_box_spec : {M : Type 1} → statement M
into_detached_box_spec 𝓤 𝓛 𝓜 𝓡 wired =
    let H = 𝓛.H in let 𝓣 = tables 𝓤 H 𝓜 𝓡 𝓡.env in let c = clauses 𝓛 𝓜.mem 𝓡.returns in let fn = code.function in
    let LZ = heap_laws.the_row_laws in
    let hs : Stays ended.signature.params ended.kept = (stay_dropped (plain (λ _. O.the_row)) yes, (stay_dropped (plain (λ _. Z)) yes, tt)) in
    proved_at 𝓛 ended hs c 𝓜 𝓡 (Goes-dropped 𝓛 0 (plain (λ _. O.the_row)) yes (λ κs x f. refl), (Goes-dropped 𝓛 0 (plain (λ _. Z)) yes (λ κs x f. refl), tt)) #self fn (code.unfolded 𝓤 H 𝓜 𝓡 wired) (λ z are.
    let d = z.0.3.0 in let a : Global = z.0.3.1.0 in let Post : Val → SProp 𝓤 = (walk_of 𝓛 ended hs c).post z in
    qed 𝓛 ((‵ ftrue ⊛ ‵ (owns (types_at ended.signature.params z.0.0) z.0.3 z.0.4)) ∷ raw (fact 𝓤 (IsSome d.value)) ∷ []) ∵ move ! (1 ∷ []) $ heard ! (IsSome d.value) (λ asked. split ! $ drop ! $
    fsplit ! $ fsplit ! $ word_had ! d.at z.0.4.0 (λ e0.
    -- [what it owns; the handle]
    let only = some_is d.value asked in let x : Endpoint = only.0 in
    rewrite ! 0 (λ (o : Option Endpoint). ‵ (may_own d.at d.heap o)) only.1 refl $
    in_a_block ! d.at (λ p. box_owns (ghosts.dealloc_token d.heap) S.the_row p x) (fst∗ 𝓤 (never 𝓤) (sem 𝓛 (ghosts.dealloc_token d.heap (bare (lone S.the_row.mir)) null_ptr))) (λ b o e.
    move ! (1 ∷ []) $ fsplit ! $ handle_tells al ! a z.0.4.1.0 (λ h e1 fits. move ! (1 ∷ []) $ drop ! $
    let at = block_ptr b o in let out : (DetachedBox S.the_row Z LZ ghosts).Denot = record { at = at; alloc = a; value = x } in
    regoal ! (λ (us : List Val). prop (WpFn 𝓤 H 𝓣.C 𝓣.Λ fn us Post)) (λ i. e0 i ++ (e1 i ++ [])) refl $
    enter ! 𝓣.C 𝓣.Λ fn (word d.at ∷ h ∷ []) Post $ alloc_all ! (λ l. pass_all ! refl (word-Good [] d.at, (fits, tt)) $
    sets ! (is ! (of_opd ! (get_in ! (fld ! refl (stop !)) (sub ! 0 refl (whole !)))) (λ i. ptr_val (e i))) refl (tt, tt) $
    sets ! (of_opd ! (get ! refl)) refl (tt, tt) $
    sets ! (agg ! (and_then ! (get ! refl) (and_then ! (get ! refl) (no_more !)))) refl (detached_box_good S.the_row Z LZ ghosts b o h fits) $
    move ! (1 ∷ 0 ∷ []) $ detached_box_in S.the_row Z LZ ghosts ! b o h a x $
    returns ! (look_at ! 0 refl) $ free_all ! refl $ keep ! (0 ∷ []) $
    use0 𝓛 (raw (fact 𝓤 (d.value ≡ Some out.value))) (fact_i 𝓤 (d.value ≡ Some out.value) (emp 𝓤) only.1) $ move ! (1 ∷ 0 ∷ []) $
    nothing ! $ nothing ! $ fjoin ! $ nothing ! $ fjoin ! $ nothing ! $ by ! (leaves 𝓛 ended hs c z (both (vptr b o) h) out (tt, (tt, tt)) (tt, (tt, tt)))))))))
