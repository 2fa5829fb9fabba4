-- Facts about each view, after one view changed or a seat came.
use Rattle.krl_nodes.proofs.Names.{◌≡◌, ◌≢◌, ℕ, zero, suc, List, [], ◌∷◌, ◌++◌, set, ⊎_elim, refl, sym, ap, ◌∙◌, subst, some-injective, some-ne-none, dite, ℕ_discrete, get_elem?, at_set, at_snoc}
use Rattle.krl_nodes.proofs.Names.{at_longer, set_else, Chair, View, Shown, Nobody, shown, Each, Sits, Seated, IsServer, IsClient, HasView}
use mathlib.Core.Option as opt

pub there_set : (views : List View) (i : ℕ) (v w : View) → get_elem? views i ≡ opt.some v → get_elem? (set views i w) i ≡ opt.some w
there_set [] i v w e = absurd (some-ne-none v (sym e))
there_set (x ∷ xs) zero v w e = refl
there_set (x ∷ xs) (suc i) v w e = there_set xs i v w e

pub each_set : (P : ℕ → View → Type 0) (views : List View) (id : ℕ) (w : View) → ((j : ℕ) (u : View) → j ≢ id → get_elem? views j ≡ opt.some u → P j u) → P id w → Each (set views id w) P
each_set P views id w others mine j u e =
    ⊎_elim
    (λ (x : (j ≡ id) × (w ≡ u)). subst (λ (y : ℕ × View). P y.0 y.1) (λ i. (sym x.0 i, x.1 i)) mine)
    (λ (x : (j ≢ id) × (get_elem? views j ≡ opt.some u)). others j u x.0 x.1)
    (at_set views id j w u e)

pub each_snoc : (P : ℕ → View → Type 0) (views : List View) (w : View) → Each views P → ((j : ℕ) → P j w) → Each (views ++ w ∷ []) P
each_snoc P views w all new j u e = ⊎_elim (λ (was : get_elem? views j ≡ opt.some u). all j u was) (λ (same : w ≡ u). subst (P j) same (new j)) (at_snoc views w u j e)

-- a view that stays in place
pub stays_set : (views : List View) (id j : ℕ) (w u : View) → j ≢ id → get_elem? views j ≡ opt.some u → get_elem? (set views id w) j ≡ opt.some u
stays_set views id j w u ne e = set_else views id j w ne ∙ e

-- the view at a seat, after a view of which the same holds changed
pub has_set : (views : List View) (id j : ℕ) (P : Shown → Type 0) (v w : View) → get_elem? views id ≡ opt.some v → (P (shown v.node) → P (shown w.node)) → HasView views j P → HasView (set views id w) j P
has_set views id j P v w at keeps t = dite (ℕ_discrete j id)
    (λ (e : j ≡ id). (w, subst (λ k. get_elem? (set views id w) k ≡ opt.some w) (sym e) (there_set views id v w at), keeps (subst (λ (u : View). P (shown u.node)) (some-injective _ _ (sym t.1 ∙ ap (get_elem? views) e ∙ at)) t.2)))
    (λ ne. (t.0, stays_set views id j w t.0 ne t.1, t.2))

-- and if the view that changed is not the one at that seat
pub has_set_else : (views : List View) (id j : ℕ) (P : Shown → Type 0) (v w : View) → get_elem? views id ≡ opt.some v → (P (shown v.node) → ⊥) → HasView views j P → HasView (set views id w) j P
has_set_else views id j P v w at not t =
    let apart : j ≢ id = λ (e : j ≡ id). not (subst (λ (u : View). P (shown u.node)) (some-injective _ _ (sym t.1 ∙ ap (get_elem? views) e ∙ at)) t.2) in
    (t.0, stays_set views id j w t.0 apart t.1, t.2)

-- (ii), after a view changed whose node, if any, stays
pub seated_set : (at : ℕ → ℕ) (chairs chairs' : List Chair) (views : List View) (id : ℕ) (v w : View) → get_elem? views id ≡ opt.some v → Seated at chairs views → chairs' ≡ chairs
    → ((i : ℕ) → Sits at chairs i (shown v.node) → Sits at chairs i (shown w.node)) → (IsServer (shown v.node) → IsServer (shown w.node)) → ((c : ℕ) → IsClient c (shown v.node) → IsClient c (shown w.node)) → Seated at chairs' (set views id w)
seated_set at chairs chairs' views id v w there h same sits server keeps = subst (λ (cs : List Chair). Seated at cs (set views id w)) (sym same) (record {
  each = each_set (λ i u. Sits at chairs i (shown u.node)) views id w (λ j u _ e. h.each j u e) (sits id (h.each id v there));
  server = has_set views id 0 IsServer v w there server h.server;
  every = λ c taken. has_set views id (at c) (IsClient c) v w there (keeps c) (h.every c taken);
})

pub has_snoc : (views : List View) (w : View) (j : ℕ) (P : Shown → Type 0) → HasView views j P → HasView (views ++ w ∷ []) j P
has_snoc views w j P t = (t.0, at_longer views (w ∷ []) j t.0 t.1, t.2)

pub seated_snoc : (at : ℕ → ℕ) (chairs : List Chair) (views : List View) (w : View) → Seated at chairs views → shown w.node ≡ Nobody → Seated at chairs (views ++ w ∷ [])
seated_snoc at chairs views w h blank = record {
  each = each_snoc (λ i u. Sits at chairs i (shown u.node)) views w h.each (λ j. subst (Sits at chairs j) (sym blank) tt);
  server = has_snoc views w 0 IsServer h.server;
  every = λ c taken. has_snoc views w (at c) (IsClient c) (h.every c taken);
}
