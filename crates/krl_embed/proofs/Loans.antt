-- What a handle owns is lent to readers, and a reader shows what is lent to it. Assumes `Logic`.
--     lends_reader, reader_twice      a reader is made of a handle that is lent for a lifetime;  and a second one of a reader
--     shows_lent                      a reader's open borrow ends in what a `&` shows, for the borrow's lifetime
use Rattle.std.proofs.Common.{◌≡◌, ℕ, List, [], ◌∷◌, ◌++◌, Option, Some, None, refl, sym}
use seplogic.Ra.Ura.{Ura}
use base.Fraction.{full_share}
use base.Share
use base.Logic.{ent, sep, emp, emp∗, upd_i, id⊢}
use base.Fml.{Lft, GName, Share, Fml, ftrue, fsep, fseps, fwand, fupd, fdead, fauth, fobs, fres, fbor, fobor, flft}
use base.Before.{before}
use mir.Val.{Val}
use contract.BorrowLft.{meet_⊑_left, ⊑_static}
use mir.Raw.{raw as bare}
use types.Logic.{Logic, sem}
use types.Kit.{‵, raw, ◌⊛◌, later, ◌$◌, ◌∵◌, !, qed, move, keep, drop, use0, use1, use2, split, group, rewrite, suffices, assume, updating, await, now, done, fsplit, fsplit3, fjoin, fpick, fpack}
use types.Tokens.{obor_alter, bor_fracture}
use types.Na.{before-Incl, before_lent}
use types.SemTy.{Body}
use denote.RattleType.{RattleType}
use denote.Memory.{mem, lone, cell_at, part_of}
use denote.RawPtr.{Ptr, lies_at}
use denote.Sharing.{ShrLaws}
use denote.SharingLaws.{contraction}
use denote.Shares.{Shares-less}
use denote.Steps.{nothing}
use denote.Struct.Owning.{shape, to}
use denote.Struct.Struct.{Struct}
use denote.Struct.Lending.{Lends, Lends-first, Lends-lies, lent_at, lent_at_shr_laws}
use Rattle.std.specs.declared.alloc.Global.{Global}
use Rattle.std.specs.contracts.impls.GlobalAllocator.TheImpl.{ghosts}
use Rattle.krl_embed.specs.Owning.{may_own, may_read}
use Rattle.krl_embed.specs.declared.endpoint.Endpoint.{Endpoint}
use Rattle.krl_embed.specs.declared.lent.Lent.{Lent}
use Rattle.krl_embed.specs.contracts.endpoint.Endpoint as S
use Rattle.krl_embed.specs.contracts.lent.Lent as O
use Rattle.krl_embed.proofs.endpoint.Endpoint.TheLaws as endpoint

-- what a `&` to the value at p shows can be had twice, and for each lifetime that ends no later
abbrev lent_laws : (p : Ptr) (x : Endpoint) → ShrLaws (lent_at S.the_row p x)
lent_laws p x = lent_at_shr_laws S.the_row endpoint.the_row_laws.shr_laws p x

module _ {M : Type 1} {𝓤 : Ura M} (𝓛 : Logic 𝓤) (p : Ptr) where
  open 𝓛 use {H, A}

  -- a borrow of the box shows the value
  lends_value : (h : Global) (x : Endpoint) (l : Lft) → Lends 𝓛 (may_own p h (Some x)) (lent_at S.the_row p x) l
  lends_value h x l = let L = endpoint.the_row_laws in
      Lends-first 𝓛 (lies_at S.the_row full_share p x) (ghosts.dealloc_token h (bare (lone S.the_row.mir)) p) (lent_at S.the_row p x) l
      (Lends-lies 𝓛 S.the_row l p x (Shares-less 𝓛 S.the_row [] l (⊑_static l) (L.shares 𝓛) x))

  module _ (life : ℕ) where
    abbrev loan : Lft
    loan = life ∷ []

    pub lends_reader : (h : Global) (o : Option Endpoint) (q : Share) → ent 𝓤 (sep 𝓤 (A.bor loan (may_own p h o)) (A.lft loan q)) (H.⇛ (sem 𝓛 (may_read p life o)))
    lends_reader h None q = qed 𝓛 (‵ (fbor loan (may_own p h None)) ∷ ‵ (flft loan q) ∷ []) ∵ updating ! $ keep ! [] $ nothing ! $ now ! $ done !
    lends_reader h (Some x) q = qed 𝓛 (‵ (fbor loan (may_own p h (Some x))) ∷ ‵ (flft loan q) ∷ []) ∵ updating ! $
        use2 𝓛 (later (‵ (lent_at S.the_row p x loan) ⊛ ‵ (flft loan q))) (lends_value h x loan loan ((loan, q) ∷ []) (λ a m. m) (λ a m. m)) $ await ! tt $ split ! $
        move ! (1 ∷ []) $ fpack ! Share (λ r. flft loan r) q $ move ! (1 ∷ 0 ∷ []) $ fjoin ! $ now ! $ done !

    pub reader_twice : (o : Option Endpoint) → ent 𝓤 (sem 𝓛 (may_read p life o)) (sep 𝓤 (sem 𝓛 (may_read p life o)) (sem 𝓛 (may_read p life o)))
    reader_twice None = emp∗ 𝓤 (emp 𝓤)
    reader_twice (Some x) = let Seen = lent_at S.the_row p x loan in
        qed 𝓛 (‵ (may_read p life (Some x)) ∷ []) ∵ fsplit ! $ use1 𝓛 (‵ Seen ⊛ ‵ Seen) (contraction 𝓛 (lent_at S.the_row p x) (lent_laws p x) loan) $ split ! $
        move ! (2 ∷ []) $ fpick ! (λ q. use1 𝓛 (‵ (flft loan (Share.left q)) ⊛ ‵ (flft loan (Share.right q))) (𝓛.lfts.lft_split loan q) $ split ! $
        fpack ! Share (λ r. flft loan r) (Share.left q) $ move ! (2 ∷ 0 ∷ []) $ fjoin ! $ move ! (1 ∷ []) $
        fpack ! Share (λ r. flft loan r) (Share.right q) $ move ! (2 ∷ 0 ∷ []) $ fjoin ! $ done !)

-- what the fields of a `Lent` own
abbrev Fields : RattleType
Fields = Struct (shape O.the_type)

module _ {M : Type 1} {𝓤 : Ura M} (𝓛 : Logic 𝓤) (κ : Lft) (q s : Share) (l : Lent) (x : Endpoint) (is : l.value ≡ Some x) (b o : ℕ) (γ : GName) (us : List Val) where
  open 𝓛 use {H, A}

  abbrev Shown : Lft → Fml
  Shown = lent_at S.the_row l.at x

  abbrev ν : Lft
  ν = l.life ∷ []

  abbrev Cell : Fml
  Cell = cell_at full_share O.the_row.mir us b o

  abbrev Fieldsˢ : Fml
  Fieldsˢ = Fields.own_val (to O.the_type l) us

  abbrev Said : Fml
  Said = fauth γ (O.the_row.coded.code l)

  abbrev Back : Fml
  Back = fwand (fsep (fdead κ) (fseps (flft ν s ∷ []))) (fupd (Body (mem O.the_row) b o γ))

  -- with its part of the token the `Lent` is whole again
  way_back : ent 𝓤 (sep 𝓤 (sem 𝓛 (Shown ν)) (sep 𝓤 (sem 𝓛 Said) (sep 𝓤 (sem 𝓛 Cell) (sem 𝓛 Fieldsˢ)))) (sem 𝓛 Back)
  unfolding fseps part_of
  way_back =
      qed 𝓛 (‵ (Shown ν) ∷ ‵ Said ∷ ‵ Cell ∷ ‵ Fieldsˢ ∷ []) ∵ assume ! (‵ (fsep (fdead κ) (fsep (flft ν s) ftrue))) $
      suffices ! (sem 𝓛 (Body (mem O.the_row) b o γ)) (upd_i 𝓤 (sem 𝓛 (Body (mem O.the_row) b o γ))) $ fsplit3 ! $ drop ! $ move ! (1 ∷ []) $ drop ! $
      -- [the token; what is shown; the name; the cell; the fields]
      fpack ! Share (λ r. flft ν r) s $ move ! (1 ∷ 0 ∷ []) $ fjoin ! $
      rewrite ! 0 (λ (v : Option Endpoint). ‵ (may_read l.at l.life v)) (sym is) refl $ move ! (3 ∷ 0 ∷ []) $ fjoin ! $
      move ! (2 ∷ 0 ∷ []) $ fjoin ! $ fpack ! (List Val) (λ vs. fsep (cell_at full_share O.the_row.mir vs b o) (O.the_row.own_val l vs)) us $
      fjoin ! $ fpack ! Lent (λ z. fsep ((mem O.the_row).own_at z b o) (fauth γ (O.the_row.coded.code z))) l $ done !

  -- what is lent is shown for κ, and the `Lent` stays as it is
  pub shows_lent : ent 𝓤 (sep 𝓤 (A.obor κ q (Body (mem O.the_row) b o γ)) (sep 𝓤 (A.obs γ (O.the_row.coded.code l)) (sep 𝓤 (sem 𝓛 Said) (sep 𝓤 (sem 𝓛 Cell) (sep 𝓤 (sem 𝓛 Fieldsˢ)
      (sep 𝓤 (sem 𝓛 (Shown ν)) (A.lft ν s))))))) (H.⇛ (sep 𝓤 (sem 𝓛 (Shown κ)) (sep 𝓤 (A.lft κ q) (A.res γ (O.the_row.coded.code l)))))
  unfolding fseps
  shows_lent =
      qed 𝓛 (‵ (fobor κ q (Body (mem O.the_row) b o γ)) ∷ ‵ (fobs γ (O.the_row.coded.code l)) ∷ ‵ Said ∷ ‵ Cell ∷ ‵ Fieldsˢ ∷ ‵ (Shown ν) ∷ ‵ (flft ν s) ∷ []) ∵ updating ! $
      move ! (1 ∷ []) $ use1 𝓛 (‵ (fres γ (O.the_row.coded.code l))) (𝓛.names.obs-res γ (O.the_row.coded.code l)) $
      move ! (5 ∷ []) $ use1 𝓛 (‵ (Shown ν) ⊛ ‵ (Shown ν)) (contraction 𝓛 Shown (lent_laws l.at x) ν) $ split ! $
      -- [twice what is shown; the last value; the open borrow; the name; the cell; the fields; the token]
      move ! (0 ∷ 4 ∷ 5 ∷ 6 ∷ []) $ group ! 4 $ use1 𝓛 (‵ Back) way_back $
      -- [the way back; what is shown; the last value; the open borrow; the token]
      nothing ! $ move ! (5 ∷ 0 ∷ []) $ fjoin ! $ move ! (4 ∷ 0 ∷ 1 ∷ []) $ obor_alter ! tt (flft ν s ∷ []) $
      use1 𝓛 (‵ (fbor κ (flft ν s)) ⊛ raw (emp 𝓤)) (id⊢ 𝓤 _) $ split ! $ bor_fracture ! tt (λ r. flft ν r) s $
      use0 𝓛 (‵ (before (ν ++ κ) ν)) (before-Incl 𝓛 (ν ++ κ) ν (meet_⊑_left ν κ)) $ move ! (1 ∷ 0 ∷ []) $
      use2 𝓛 (‵ (before κ ν)) (before_lent 𝓛 κ ν ν) $ move ! (1 ∷ []) $ drop ! $ move ! (0 ∷ 2 ∷ []) $
      use2 𝓛 (‵ (Shown κ)) ((lent_laws l.at x).mono M 𝓤 𝓛 κ ν) $ now ! $ done !
