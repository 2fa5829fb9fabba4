-- `of` keeps the pointer and what it owns.
use Rattle.std.proofs.Common.{◌≡◌, List, [], ◌∷◌, ◌++◌, refl, sym, subst, Some}
use mir.Val.{Val, vptr}
use base.Logic.{SProp, ent, emp, id⊢}
use base.Fml.{ftrue}
use prog.Wp.{WpFn}
use contract.Monad.{fact, fact_i}
use contract.Running.{tables}
use types.Kit.{‵, raw, ◌⊛◌, ◌$◌, ◌∵◌, !, qed, by, move, keep, drop, use0, suffices, split, fsplit, fjoin}
use types.Part.{agg, whole, sub}
use types.Run.{stop, fld, of_opd, and_then, no_more, returns, enter}
use types.ByLocal.{alloc_all, pass_all, free_all, look_at, get, get_in, sets}
use denote.Exit.{yes}
use denote.RattleType.{RattleType, owns}
use denote.RawPtr.{block_ptr}
use denote.Signature.{types_at, plain}
use denote.Steps.{nothing}
use denote.Triple.Walked.{Stays, stay_dropped, walk_of, Goes-dropped}
use Rattle.std.proofs.raw_atomic.Walks.{proved_at, leaves}
use Rattle.std.proofs.alloc.Global.TheLaws as heap_laws
use Rattle.std.specs.contracts.impls.GlobalAllocator.TheImpl.{ghosts}
use Rattle.krl_blocks.proofs.DetachedBoxes.{both, DetachedBox, detached_box_good, detached_box_out}
use Rattle.krl_blocks.proofs.Words.{word_made}
use Rattle.krl_embed.proofs.Held.{Z}
use Rattle.std_alloc.proofs.RcSteps.{word, word-Good}
use Rattle.krl_embed.specs.contracts.endpoint.Endpoint as S
use Rattle.krl_embed.specs.contracts.owned.Owned as O
use Rattle.krl_embed.specs.contracts.owned.Owned.of.{ended, clauses}
use Rattle.krl_embed.specs.contracts.owned.Owned.of.Key.{name as #self}
use Rattle.krl_embed.proofs.owned.Owned.of.Statement.{statement}
use Rattle.krl_embed.proofs.owned.Owned.of.Code as code

pub of_spec : {M : Type 1} → statement M
of_spec 𝓤 𝓛 𝓜 𝓡 wired =
    let H = 𝓛.H in let 𝓣 = tables 𝓤 H 𝓜 𝓡 𝓡.env in let c = clauses 𝓛 𝓜.mem 𝓡.returns in let fn = code.function in
    let LZ = heap_laws.the_row_laws in let Lr : RattleType = DetachedBox S.the_row Z LZ ghosts in
    let hs : Stays ended.signature.params ended.kept = (stay_dropped (plain (λ _. Lr)) yes, tt) in
    proved_at 𝓛 ended hs c 𝓜 𝓡 (Goes-dropped 𝓛 0 (plain (λ _. Lr)) yes (λ κs x f. refl), tt) #self fn (code.unfolded 𝓤 H 𝓜 𝓡 wired) (λ z are.
    let d = z.0.3.0 in let Post : Val → SProp 𝓤 = (walk_of 𝓛 ended hs c).post z in let Run : List Val → SProp 𝓤 = λ ws. WpFn 𝓤 H 𝓣.C 𝓣.Λ fn ws Post in
    qed 𝓛 ((‵ ftrue ⊛ ‵ (owns (types_at ended.signature.params z.0.0) z.0.3 z.0.4)) ∷ ‵ ftrue ∷ []) ∵ split ! $ drop ! $ fsplit ! $
    detached_box_out S.the_row Z LZ ghosts ! d z.0.4.0 (λ b o h e ws fits.
    suffices ! (Run (both (vptr b o) h ∷ [])) (subst (λ (us : List Val). ent 𝓤 (Run (both (vptr b o) h ∷ [])) (Run us)) (sym (λ i. ws i ++ [])) (id⊢ 𝓤 (Run (both (vptr b o) h ∷ [])))) $
    let at = block_ptr b o in let new : O.the_row.Denot = record { at = at; heap = d.alloc; value = Some d.value } in
    enter ! 𝓣.C 𝓣.Λ fn (both (vptr b o) h ∷ []) Post $ alloc_all ! (λ l. pass_all ! refl (detached_box_good S.the_row Z LZ ghosts b o h fits, tt) $
    sets ! (of_opd ! (get_in ! (fld ! refl (stop !)) (sub ! 0 refl (whole !)))) refl (tt, tt) $
    sets ! (of_opd ! (get ! refl)) refl (tt, tt) $
    sets ! (agg ! (and_then ! (get ! refl) (no_more !))) refl (word-Good [] at) $
    word_made ! at $ fjoin ! $
    returns ! (look_at ! 0 refl) $ free_all ! refl $ keep ! (0 ∷ []) $
    use0 𝓛 (raw (fact 𝓤 (new.value ≡ Some d.value))) (fact_i 𝓤 (new.value ≡ Some d.value) (emp 𝓤) refl) $ move ! (1 ∷ 0 ∷ []) $
    nothing ! $ nothing ! $ fjoin ! $ nothing ! $ by ! (leaves 𝓛 ended hs c z (word at) new (tt, tt) (tt, tt)))))
