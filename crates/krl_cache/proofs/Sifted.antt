-- What a walk over a span makes of what stands at a point.
use Rattle.krl_cache.proofs.Names.{◌≡◌, ◌≢◌, ◌⊎◌, inl, inr, ℕ, suc, ◌≤◌, ◌<◌, Bool, true, false, cond, List, [], ◌∷◌, ◌++◌, Option, None, Some, refl, sym, ap, subst, ◌∙◌, arith, option_and_then}
use Rattle.krl_cache.proofs.Names.{nat_cmp, is_at, nat_eq, nat_tests, eqb_tells, leb_tells, RangePart, lies_in, RiseWithin, at, part_at, IsChanged, KeepsParts, HoldsBefore, BeginsAnew, AreOut, Rise}
use Rattle.krl_cache.proofs.Names.{Sifts, IsSifted}
use Rattle.krl_cache.proofs.Rests.{at_before, apart_after}
use Rattle.krl_cache.proofs.Starts.{merged, gone_here, holds_later, holds_next, keeps_on}
use Rattle.krl_cache.proofs.Merges.{anew_none, anew_here, anew_kept}
use Rattle.krl_cache.proofs.Entries.{rise_le}
use Rattle.krl_cache.proofs.Mapped.{found_head}

-- Points and lists

at_under : {V : Type 0} (a x y : List (ℕ × V)) (q : ℕ) → at x q ≡ at y q → at (a ++ x) q ≡ at (a ++ y) q
at_under [] x y q h = h
at_under {V} (e ∷ a) x y q h = ap (λ (o : Option V). cond (is_at (nat_cmp q) e.0) (Some e.1) o) (at_under a x y q h)

out_apart : (lo hi k q : ℕ) → lies_in lo hi k ≡ false → lies_in lo hi q ≡ true → is_at (nat_cmp q) k ≡ false
out_apart lo hi k q a b = grind (arith, nat_tests)

in_apart : (lo low hi k q : ℕ) → lo ≤ low → low ≤ k → k < hi → lies_in lo hi q ≡ false → is_at (nat_cmp q) k ≡ false
in_apart lo low hi k q l a b c = grind (arith, nat_tests)

pub past_out : {V : Type 0} (lo hi : ℕ) (a x : List (ℕ × V)) (q : ℕ) → AreOut lo hi a → lies_in lo hi q ≡ true → at (a ++ x) q ≡ at x q
past_out lo hi [] x q h i = refl
past_out lo hi (e ∷ a) x q h i = rw (out_apart lo hi e.0 q h.0 i) (past_out lo hi a x q h.1 i)

none_out : {V : Type 0} (lo hi : ℕ) (a : List (ℕ × V)) (q : ℕ) → AreOut lo hi a → lies_in lo hi q ≡ true → at a q ≡ None
none_out lo hi [] q h i = refl
none_out lo hi (e ∷ a) q h i = rw (out_apart lo hi e.0 q h.0 i) (none_out lo hi a q h.1 i)

past_in : {V : Type 0} (lo low hi : ℕ) (m x : List (ℕ × V)) (q : ℕ) → lo ≤ low → RiseWithin low hi m → lies_in lo hi q ≡ false → at (m ++ x) q ≡ at x q
past_in lo low hi [] x q l h i = refl
past_in lo low hi (e ∷ m) x q l h i =
    let up = rise_le (suc e.0) hi m h.1 in
    rw (in_apart lo low hi e.0 q l h.0 (omega (arith, up)) i) (past_in lo (suc e.0) hi m x q (omega (arith, l, h.0)) h.1 i)

at_front : {V : Type 0} (m b : List (ℕ × V)) (q : ℕ) → at b q ≡ None → at (m ++ b) q ≡ at m q
at_front [] b q h = h
at_front {V} (e ∷ m) b q h = ap (λ (o : Option V). cond (is_at (nat_cmp q) e.0) (Some e.1) o) (at_front m b q h)

pub within_less : {V : Type 0} (low more hi : ℕ) (es : List (ℕ × V)) → low ≤ more → RiseWithin more hi es → RiseWithin low hi es
within_less low more hi [] l h = omega (arith, l, h)
within_less low more hi (e ∷ es) l h = (omega (arith, l, h.0), h.1)

within_rise : {V : Type 0} (low hi : ℕ) (es : List (ℕ × V)) → RiseWithin low hi es → Rise low es
within_rise low hi [] h = tt
within_rise low hi (e ∷ es) h = (h.0, within_rise (suc e.0) hi es h.1)

same_key : (q k : ℕ) → is_at (nat_cmp q) k ≡ true → q ≡ k
same_key q k h = grind (arith, nat_tests)

module _ {F V : Type 0} (T : F → ℕ → V → Bool → V → F → Type 0) where
  pub kept_within : (low hi : ℕ) (f : F) (m : List (ℕ × V)) (g : F) (kept : List (ℕ × V)) → Sifts T f m g kept → RiseWithin low hi m → RiseWithin low hi kept
  kept_within low hi f [] g kept s h = subst (λ (z : List (ℕ × V)). RiseWithin low hi z) (sym s.1) h
  kept_within low hi f (e ∷ m) g kept s h =
      let rest = kept_within (suc e.0) hi s.2 m g s.3 s.5 h.1 in
      subst (λ (z : List (ℕ × V)). RiseWithin low hi z) (sym s.6)
      (elim s.0 as (λ (b : Bool). RiseWithin low hi (cond b s.3 ((e.0, s.1) ∷ s.3))) [
        | true ↦ within_less low (suc e.0) hi s.3 (omega (arith, h.0)) rest
        | false ↦ (h.0, rest)
      ])

  -- A test that makes one thing of each value, and stays as it was

  pub Steady : F → (V → Option V) → Type 0
  Steady f Fn = (k : ℕ) (v : V) (b : Bool) (w : V) (g : F) → T f k v b w g → (g ≡ f) × (cond b None (Some w) ≡ Fn v)

  at_kept : (f : F) (Fn : V → Option V) (low hi : ℕ) (m : List (ℕ × V)) (g : F) (kept : List (ℕ × V)) (q : ℕ) → Steady f Fn → Sifts T f m g kept → RiseWithin low hi m → at kept q ≡ option_and_then Fn (at m q)
  unfolding Steady
  at_kept f Fn low hi [] g kept q steady s h = ap (λ (z : List (ℕ × V)). at z q) s.1
  at_kept f Fn low hi (e ∷ m) g kept q steady s h =
      let step = steady e.0 e.1 s.0 s.1 s.2 s.4 in
      let ran : Sifts T f m g s.3 = subst (λ (z : F). Sifts T z m g s.3) step.0 s.5 in
      let rest = at_kept f Fn (suc e.0) hi m g s.3 q steady ran h.1 in
      let behind = kept_within (suc e.0) hi f m g s.3 ran h.1 in
      ap (λ (z : List (ℕ × V)). at z q) s.6
      ∙ elim (is_at (nat_cmp q) e.0) as (λ (t : Bool). is_at (nat_cmp q) e.0 ≡ t → at (cond s.0 s.3 ((e.0, s.1) ∷ s.3)) q ≡ option_and_then Fn (cond t (Some e.1) (at m q))) [
        | true ↦ λ t. (elim s.0 as (λ (b : Bool). cond b None (Some s.1) ≡ Fn e.1 → at (cond b s.3 ((e.0, s.1) ∷ s.3)) q ≡ Fn e.1) [
          | true ↦ λ x. at_before (suc e.0) s.3 q (within_rise (suc e.0) hi s.3 behind) (let is : q ≡ e.0 = same_key q e.0 t in omega (arith, is)) ∙ x
          | false ↦ λ x. rw t x
        ]) step.1
        | false ↦ λ t. (elim s.0 as (λ (b : Bool). at (cond b s.3 ((e.0, s.1) ∷ s.3)) q ≡ at s.3 q) [
          | true ↦ refl
          | false ↦ rw t refl
        ]) ∙ rest
      ] refl

  pub sifted_changes : (f : F) (Fn : V → Option V) (lo hi : ℕ) (es fs : List (ℕ × V)) → ((k : ℕ) (v : V) (b : Bool) (w : V) (g : F) → T f k v b w g → (g ≡ f) × (cond b None (Some w) ≡ Fn v)) → IsSifted T f lo hi es fs → IsChanged Fn (at es) (at fs) lo hi
  unfolding Steady
  sifted_changes f Fn lo hi es fs steady s = record { each = each }
    where
      kept_in : RiseWithin lo hi s.kept
      kept_in = kept_within lo hi f s.middle s.last s.kept s.sifts s.within

      here : (q : ℕ) → lies_in lo hi q ≡ true → at fs q ≡ option_and_then Fn (at es q)
      here q i =
          ap (λ (z : List (ℕ × V)). at z q) s.left ∙ past_out lo hi s.front (s.kept ++ s.back) q s.before i
          ∙ at_front s.kept s.back q (none_out lo hi s.back q s.after i)
          ∙ at_kept f Fn lo hi s.middle s.last s.kept q steady s.sifts s.within
          ∙ ap (λ (o : Option V). option_and_then Fn o)
          (sym (at_front s.middle s.back q (none_out lo hi s.back q s.after i)) ∙ sym (past_out lo hi s.front (s.middle ++ s.back) q s.before i)
          ∙ ap (λ (z : List (ℕ × V)). at z q) (sym s.whole))

      there : (q : ℕ) → lies_in lo hi q ≡ false → at fs q ≡ at es q
      there q i =
          ap (λ (z : List (ℕ × V)). at z q) s.left
          ∙ at_under s.front (s.kept ++ s.back) (s.middle ++ s.back) q
          (past_in lo lo hi s.kept s.back q (omega arith) kept_in i ∙ sym (past_in lo lo hi s.middle s.back q (omega arith) s.within i))
          ∙ ap (λ (z : List (ℕ × V)). at z q) (sym s.whole)

      each : (q : ℕ) → at fs q ≡ cond (lies_in lo hi q) (option_and_then Fn (at es q)) (at es q)
      each q = elim (lies_in lo hi q) as (λ (b : Bool). lies_in lo hi q ≡ b → at fs q ≡ cond b (option_and_then Fn (at es q)) (at es q)) [
        | true ↦ λ b. here q b
        | false ↦ λ b. there q b
      ] refl

-- A test that picks the starts whose part held before

at_behind : {V : Type 0} (e : ℕ × V) (es : List (ℕ × V)) (q : ℕ) → e.0 < q → at (e ∷ es) q ≡ at es q
at_behind e es q l = rw (apart_after q e.0 l) refl

taken_out : (q k : ℕ) (o : Option RangePart) → q ≢ k → o ≡ cond (nat_eq q k) None o
taken_out q k o ne = grind (arith, nat_tests)

keeps_same : (f g : ℕ → Option RangePart) → ((q : ℕ) → g q ≡ f q) → KeepsParts f g
keeps_same f g same = record {
  parts = λ q i. part_at (λ p. same p i) q;
  starts = λ q none. same q ∙ none;
  stay = λ q v h. sym (same q) ∙ h;
}

-- what is asked of each start: it goes if its part held before, and its part holds before the next
pub record Merges {F : Type 0} (T : F → ℕ → RangePart → Bool → RangePart → F → Type 0) (before : F → RangePart) : Type 0 where
  pub stays : (f : F) (k : ℕ) (v : RangePart) (b : Bool) (w : RangePart) (g : F) → T f k v b w g → w ≡ v
  pub next : (f : F) (k : ℕ) (v : RangePart) (b : Bool) (w : RangePart) (g : F) → T f k v b w g → before g ≡ v
  pub same : (f : F) (k : ℕ) (v : RangePart) (w : RangePart) (g : F) → T f k v true w g → v ≡ before f
  pub other : (f : F) (k : ℕ) (v : RangePart) (w : RangePart) (g : F) → T f k v false w g → v ≡ before f → ⊥

-- f begins as the list states from p on below hi, and so does g as the other list states; elsewhere they agree
record Parts (f g : ℕ → Option RangePart) (p hi : ℕ) (xs ys : List (ℕ × RangePart)) : Type 0 where
  old : (q : ℕ) → p ≤ q → q < hi → f q ≡ at xs q
  new : (q : ℕ) → p ≤ q → q < hi → g q ≡ at ys q
  else : (q : ℕ) → (q < p) ⊎ (hi ≤ q) → g q ≡ f q

module _ {F : Type 0} (T : F → ℕ → RangePart → Bool → RangePart → F → Type 0) (before : F → RangePart) (m : Merges T before) (hi : ℕ) where
  merges_all : (s : F) (p : ℕ) (xs : List (ℕ × RangePart)) (last : F) (kept : List (ℕ × RangePart)) (f g : ℕ → Option RangePart) → RiseWithin p hi xs → Sifts T s xs last kept → Parts f g p hi xs kept → HoldsBefore f p (before s) → KeepsParts f g × ((q : ℕ) → p ≤ q → q < hi → BeginsAnew g q)
  merges_all s p [] last kept f g h t x held = (
    keeps_same f g (λ q. elim (leb_tells p q) [
      | inl a ↦ elim (leb_tells hi q) [
        | inl b ↦ x.else q (inr b.1)
        | inr b ↦ x.new q a.1 b.1 ∙ ap (λ (z : List (ℕ × RangePart)). at z q) t.1 ∙ sym (x.old q a.1 b.1)
      ]
      | inr a ↦ x.else q (inl a.1)
    ]),
    λ q a b. anew_none g q (x.new q a b ∙ ap (λ (z : List (ℕ × RangePart)). at z q) t.1),
  )
  merges_all s p (e ∷ xs) last kept f g h t x held =
      (elim t.0 as (λ (b : Bool). T s e.0 e.1 b t.1 t.2 → kept ≡ cond b t.3 ((e.0, t.1) ∷ t.3) → KeepsParts f g × ((q : ℕ) → p ≤ q → q < hi → BeginsAnew g q)) [
        | true ↦ λ told is.
            let out : (q : ℕ) → Option RangePart = λ q. cond (nat_eq q e.0) None (f q) in
            let gone : KeepsParts f out = merged f out e.0 (before s) (here ∙ ap (λ (z : RangePart). Some z) (m.same s e.0 e.1 t.1 t.2 told)) held_here (λ q. refl) in
            let r = merges_all t.2 (suc e.0) xs last t.3 out g h.1 t.5 (record {
              old = λ q a b. sym (taken_out q e.0 (f q) (λ z. omega (arith, a, z))) ∙ old_behind q a b;
              new = λ q a b. x.new q (omega (arith, a, h.0)) b ∙ ap (λ (z : List (ℕ × RangePart)). at z q) is;
              else = λ q w. elim (eqb_tells q e.0) [
                | inl z ↦ ap g z.1 ∙ x.new e.0 h.0 below ∙ ap (λ (l : List (ℕ × RangePart)). at l e.0) is ∙ at_before (suc e.0) t.3 e.0 rest_rises (omega arith) ∙ sym (gone_here e.0 q (f q) z.1)
                | inr z ↦ around q w z.1 (λ a b. ap (λ (l : List (ℕ × RangePart)). at l q) is ∙ at_before (suc e.0) t.3 q rest_rises b) ∙ taken_out q e.0 (f q) z.1
              ];
            }) (subst (λ (z : RangePart). HoldsBefore out (suc e.0) z) (sym (m.next s e.0 e.1 true t.1 t.2 told)) (holds_next f out e.0 (suc e.0) e.1 (omega arith) here gone)) in (
              keeps_on f out g gone r.0,
              λ q a b. elim (leb_tells (suc e.0) q) [
                | inl z ↦ r.1 q z.1 b
                | inr z ↦ anew_none g q (x.new q a b ∙ ap (λ (l : List (ℕ × RangePart)). at l q) is ∙ at_before (suc e.0) t.3 q rest_rises z.1)
              ],
            )
        | false ↦ λ told is.
            let stays = m.stays s e.0 e.1 false t.1 t.2 told in
            let r = merges_all t.2 (suc e.0) xs last t.3 f g h.1 t.5 (record {
              old = old_behind;
              new = λ q a b. x.new q (omega (arith, a, h.0)) b ∙ ap (λ (z : List (ℕ × RangePart)). at z q) is ∙ at_behind (e.0, t.1) t.3 q a;
              else = λ q w. elim (eqb_tells q e.0) [
                | inl z ↦ ap g z.1 ∙ x.new e.0 h.0 below ∙ ap (λ (l : List (ℕ × RangePart)). at l e.0) is ∙ found_head (e.0, t.1) t.3 ∙ ap (λ (v : RangePart). Some v) stays ∙ sym here ∙ sym (ap f z.1)
                | inr z ↦ around q w z.1 (λ a b. ap (λ (l : List (ℕ × RangePart)). at l q) is ∙ at_before e.0 ((e.0, t.1) ∷ t.3) q (omega arith, rest_rises) (omega (arith, b, z.1)))
              ];
            }) (subst (λ (z : RangePart). HoldsBefore f (suc e.0) z) (sym (m.next s e.0 e.1 false t.1 t.2 told)) (holds_next f f e.0 (suc e.0) e.1 (omega arith) here (keeps_same f f (λ q. refl)))) in (
              r.0,
              λ q a b. elim (leb_tells (suc e.0) q) [
                | inl z ↦ r.1 q z.1 b
                | inr z ↦ elim (eqb_tells q e.0) [
                  | inl y ↦ subst (λ (n : ℕ). BeginsAnew g n) (sym y.1) (anew_kept f g e.0 r.0 (anew_here f e.0 e.1 (before s) here held_here (m.other s e.0 e.1 t.1 t.2 told)))
                  | inr y ↦ anew_none g q (x.new q a b ∙ ap (λ (l : List (ℕ × RangePart)). at l q) is ∙ at_before e.0 ((e.0, t.1) ∷ t.3) q (omega arith, rest_rises) (omega (arith, z.1, y.1)))
                ]
              ],
            )
      ]) t.4 t.6
    where
      below : e.0 < hi
      below = omega (arith, rise_le (suc e.0) hi xs h.1)

      rest_rises : Rise (suc e.0) t.3
      rest_rises = within_rise (suc e.0) hi t.3 (kept_within T (suc e.0) hi t.2 xs last t.3 t.5 h.1)

      here : f e.0 ≡ Some e.1
      here = x.old e.0 h.0 below ∙ found_head e xs

      old_behind : (q : ℕ) → suc e.0 ≤ q → q < hi → f q ≡ at xs q
      old_behind q a b = x.old q (omega (arith, a, h.0)) b ∙ at_behind e xs q a

      none_before : (q : ℕ) → p ≤ q → q < e.0 → f q ≡ None
      none_before q a b = x.old q a (omega (arith, b, below)) ∙ at_before e.0 (e ∷ xs) q (omega arith, within_rise (suc e.0) hi xs h.1) b

      held_here : HoldsBefore f e.0 (before s)
      held_here = holds_later f p e.0 (before s) h.0 none_before held

      around : (q : ℕ) → (q < suc e.0) ⊎ (hi ≤ q) → q ≢ e.0 → (p ≤ q → q < suc e.0 → at kept q ≡ None) → g q ≡ f q
      around q (inl a) ne none =
          elim (leb_tells p q) [
            | inl b ↦ x.new q b.1 (omega (arith, a, below)) ∙ none b.1 a ∙ sym (none_before q b.1 (omega (arith, a, ne)))
            | inr b ↦ x.else q (inl b.1)
          ]
      around q (inr a) ne none = x.else q (inr a)

  pub sifted_merges : (s : F) (lo : ℕ) (es fs : List (ℕ × RangePart)) → IsSifted T s lo hi es fs → HoldsBefore (at es) lo (before s) → KeepsParts (at es) (at fs) × ((q : ℕ) → lo ≤ q → q < hi → BeginsAnew (at fs) q)
  sifted_merges s lo es fs x held =
      merges_all s lo x.middle x.last x.kept (at es) (at fs) x.within x.sifts (record {
        old = λ q a b. ap (λ (z : List (ℕ × RangePart)). at z q) x.whole ∙ past_out lo hi x.front (x.middle ++ x.back) q x.before (in_span q a b) ∙ at_front x.middle x.back q (none_out lo hi x.back q x.after (in_span q a b));
        new = λ q a b. ap (λ (z : List (ℕ × RangePart)). at z q) x.left ∙ past_out lo hi x.front (x.kept ++ x.back) q x.before (in_span q a b) ∙ at_front x.kept x.back q (none_out lo hi x.back q x.after (in_span q a b));
        else = λ q w.
            ap (λ (z : List (ℕ × RangePart)). at z q) x.left
            ∙ at_under x.front (x.kept ++ x.back) (x.middle ++ x.back) q
            (past_in lo lo hi x.kept x.back q (omega arith) (kept_within T lo hi s x.middle x.last x.kept x.sifts x.within) (out_span q w)
            ∙ sym (past_in lo lo hi x.middle x.back q (omega arith) x.within (out_span q w)))
            ∙ ap (λ (z : List (ℕ × RangePart)). at z q) (sym x.whole);
      }) held
    where
      in_span : (q : ℕ) → lo ≤ q → q < hi → lies_in lo hi q ≡ true
      in_span q a b = grind (arith, nat_tests)

      out_span : (q : ℕ) → (q < lo) ⊎ (hi ≤ q) → lies_in lo hi q ≡ false
      out_span q (inl a) = grind (arith, nat_tests)
      out_span q (inr a) = grind (arith, nat_tests)
