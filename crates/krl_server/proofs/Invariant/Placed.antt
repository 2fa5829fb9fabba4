-- After a write each waiter still stands at the slot of its point.
use Rattle.krl_server.proofs.Names.{◌≡◌, ◌≢◌, ℕ, suc, ◌≤◌, ◌<◌, true, Some, None, refl, sym, ap, subst, ◌∙◌, ⊎_elim, arith, ne_eqb, cases_lt, nat_tests, nat_lt, nat_le, if◌then◌else◌, END, range_of}
use Rattle.krl_server.proofs.Names.{at_or_above, Value, In, in_both, Waiter, Index, slot_of, eq_cases, Row, Rows, blank_row, max_clients, mode_at, set_row, mode_beside, split, merged, in_filter}
use Rattle.std.specs.FinMap as map
use Rattle.krl_modes.specs.declared.part.KeyPart.TheVariants as key
use Rattle.krl_modes.specs.declared.mode.Mode.TheVariants as mode
use Rattle.krl_server.proofs.Slots.{IsSlot, InSpan, slot_unique, slot_here}
use Rattle.krl_server.proofs.Updates.{row_here, row_other, get_here, get_other, set_modes, gone_here, gone_other}

-- what holds of the row at k, of that at n, and of each other row, holds of each row
pub two_rows : (rows : Rows) (n k j : ℕ) (at_n at_k : Row) (P : Row → Type 0) → (j ≡ k → P at_k) → (j ≢ k → j ≡ n → P at_n) → (j ≢ k → j ≢ n → P (rows j)) → P (set_row (set_row rows n at_n) k at_k j)
two_rows rows n k j at_n at_k P f g h = eq_cases j k
    (λ e. subst P (sym (ap (set_row (set_row rows n at_n) k at_k) e ∙ row_here (set_row rows n at_n) k at_k)) (f e))
    (λ ne. subst P (sym (row_other (set_row rows n at_n) k at_k j ne)) (eq_cases j n (λ e. subst P (sym (ap (set_row rows n at_n) e ∙ row_here rows n at_n)) (g ne e)) (λ no. subst P (sym (row_other rows n at_n j no)) (h ne no))))

-- so for those that wait there
queue_cases : (rows : Rows) (n k j : ℕ) (at_n at_k : Row) (u : Waiter) (P : Type 0) → (j ≡ k → In u at_k.queue → P) → (j ≢ k → j ≡ n → In u at_n.queue → P) → (j ≢ k → j ≢ n → In u (rows j).queue → P) → In u (set_row (set_row rows n at_n) k at_k j).queue → P
queue_cases rows n k j at_n at_k u P f g h = two_rows rows n k j at_n at_k (λ r. In u r.queue → P) f g h

-- each waiter stands at the slot of its point
abbrev pub ArePlaced : Index → Rows → Type 0
ArePlaced m rows = (n : ℕ) (u : Waiter) → In u (rows n).queue → (u.point ≤ END) × (slot_of m u.point ≡ n)

-- each waiter stood in some queue of the old rows
abbrev pub ComeFrom : Rows → Rows → Type 0
ComeFrom old new = (n : ℕ) (u : Waiter) → In u (new n).queue → (k : ℕ) × In u (old k).queue

module _ (m : Index) (near : (q : ℕ) → END ≤ q → map.get m q ≡ None) (rows : Rows) (placed : ArePlaced m rows) where
  -- where a waiter stands, as slot and span
  stands : (n : ℕ) (u : Waiter) → In u (rows n).queue → IsSlot m n × InSpan m n u.point
  stands n u at = let p = placed n u at in let x = slot_here m near u.point p.0 in
      (subst (λ y. IsSlot m y) p.1 x.0, subst (λ y. InSpan m y u.point) p.1 x.1)

  -- it is the slot of the point in another index, if it is a slot and no key lies between
  there : (m' : Index) → ((q : ℕ) → END ≤ q → map.get m' q ≡ None) → (n p : ℕ) → p ≤ END → IsSlot m' n → InSpan m' n p → slot_of m' p ≡ n
  there m' near' n p le slot span = let x = slot_here m' near' p le in slot_unique m' (slot_of m' p) n p x.0 slot x.1 span

  pub put_placed : (k : ℕ) (v u : Value) → map.get m k ≡ Some u → ((q : ℕ) → END ≤ q → map.get (map.insert m k v) q ≡ None) → ArePlaced (map.insert m k v) rows
  put_placed k v u present near' n w at =
      let p = placed n w at in let x = stands n w at in
      let kept : (j : ℕ) → map.get m j ≡ None → map.get (map.insert m k v) j ≡ None = λ j none. get_other m k v j (λ e. no_value u (sym none ∙ ap (map.get m) e ∙ present)) ∙ none in (
        p.0,
        there (map.insert m k v) near' n w.point p.0
            (λ far none. eq_cases n k (λ e. no_value v (sym none ∙ ap (map.get (map.insert m k v)) e ∙ get_here m k v)) (λ ne. x.0 far (sym (get_other m k v n ne) ∙ none)))
            (x.1.0, λ j a b. let y = x.1.1 j a b in (kept j y.0, y.1)),
      )
    where
      no_value : (v : Value) → None ≡ Some v → ⊥
      no_value v e = absurd (cc)

  module _ (k : ℕ) (v : Value) (c : ℕ) (lt : k < END) (absent : map.get m k ≡ None) (near' : (q : ℕ) → END ≤ q → map.get (map.insert m k v) q ≡ None) where
    no_some : (v : Value) → Some v ≡ None → ⊥
    no_some v e = absurd (cc)

    pub split_from : ComeFrom rows (split m rows k c)
    split_from n u at = queue_cases rows (slot_of m k) k n _ _ u ((j : ℕ) × In u (rows j).queue)
        (λ e x. (slot_of m k, (in_filter (λ w. nat_le w.point k) (rows (slot_of m k)).queue u x).0))
        (λ ne e x. (slot_of m k, (in_filter (λ w. nat_lt k w.point) (rows (slot_of m k)).queue u x).0))
        (λ ne no x. (n, x)) at

    pub split_placed : ArePlaced (map.insert m k v) (split m rows k c)
    split_placed j u at = queue_cases rows (slot_of m k) k j _ _ u ((u.point ≤ END) × (slot_of (map.insert m k v) u.point ≡ j))
        (λ e x. let f = in_filter (λ w. nat_le w.point k) (rows n).queue u x in let p = placed n u f.0 in let y = stands n u f.0 in
        let le : u.point ≤ k = low_point u.point k f.1 in (
          p.0,
          there (map.insert m k v) near' k u.point p.0 (λ far none. no_some v (sym (get_here m k v) ∙ none))
              (le, λ i a b. let z = y.1.1 i a (omega (arith, b, here.1.0)) in (get_other m k v i (λ g. omega (arith, g, b)) ∙ z.0, z.1)) ∙ sym e,
        ))
        (λ ne e x. let f = in_filter (λ w. nat_lt k w.point) (rows n).queue u x in let p = placed n u f.0 in let y = stands n u f.0 in
        let gt : k < u.point = high_point u.point k f.1 in (
          p.0,
          there (map.insert m k v) near' n u.point p.0 (λ far none. y.0 far (sym (get_other m k v n (λ g. ne (e ∙ g))) ∙ none))
              (y.1.0, λ i a b. let z = y.1.1 i a b in (get_other m k v i (λ g. omega (arith, g, a, gt)) ∙ z.0, z.1)) ∙ sym e,
        ))
        (λ ne no x. let p = placed j u x in let y = stands j u x in (
          p.0,
          there (map.insert m k v) near' j u.point p.0 (λ far none. y.0 far (sym (get_other m k v j ne) ∙ none))
              (y.1.0, λ i a b. let z = y.1.1 i a b in (get_other m k v i (λ g. no (slot_unique m j n k y.0 here.0 (omega (arith, g, b), λ h c d. y.1.1 h (omega (arith, g, a, c)) d) here.1)) ∙ z.0, z.1)),
        )) at
      where
        n : ℕ
        n = slot_of m k

        here : IsSlot m (slot_of m k) × InSpan m (slot_of m k) k
        here = slot_here m near k (omega (arith, lt))

        low_point : (p k : ℕ) → nat_le p k ≡ true → p ≤ k
        low_point p k e = grind (arith, nat_tests)

        high_point : (p k : ℕ) → nat_lt k p ≡ true → k < p
        high_point p k e = grind (arith, nat_tests)

  module _ (k : ℕ) (u : Value) (lt : k < END) (present : map.get m k ≡ Some u) (near' : (q : ℕ) → END ≤ q → map.get (map.remove m k) q ≡ None) where
    pub merge_from : ComeFrom rows (merged m rows k)
    merge_from n w at = queue_cases rows (slot_of m (suc k)) k n _ _ w ((j : ℕ) × In w (rows j).queue)
        (λ e x. absurd x)
        (λ ne e x. ⊎_elim (λ (a : In w (rows k).queue). (let z : (j : ℕ) × In w (rows j).queue = (k, a) in z)) (λ (a : In w (rows (slot_of m (suc k))).queue). (let z : (j : ℕ) × In w (rows j).queue = (slot_of m (suc k), a) in z)) (in_both (rows k).queue (rows (slot_of m (suc k))).queue w x))
        (λ ne no x. (n, x)) at

    -- a key that is none is none afterwards
    gone_too : (j : ℕ) → map.get m j ≡ None → map.get (map.remove m k) j ≡ None
    gone_too j none = eq_cases j k (λ e. ap (map.get (map.remove m k)) e ∙ gone_here m k) (λ ne. gone_other m k j ne ∙ none)

    pub merge_placed : ArePlaced (map.remove m k) (merged m rows k)
    merge_placed j w at = queue_cases rows (slot_of m (suc k)) k j _ _ w ((w.point ≤ END) × (slot_of (map.remove m k) w.point ≡ j))
        (λ e x. absurd x)
        (λ ne e x. ⊎_elim
        (λ (a : In w (rows k).queue). let p = placed k w a in let y = stands k w a in
        (let z : (w.point ≤ END) × (slot_of (map.remove m k) w.point ≡ j) = (
          p.0,
          there (map.remove m k) near' (slot_of m (suc k)) w.point p.0 (slot_left (slot_of m (suc k)) (λ g. ne (e ∙ g)) here.0)
              (omega (arith, y.1.0, here.1.0), λ i b d. by_side i b d y.1.1) ∙ sym e,
        ) in z))
        (λ (a : In w (rows (slot_of m (suc k))).queue). let p = placed (slot_of m (suc k)) w a in let y = stands (slot_of m (suc k)) w a in
        (let z : (w.point ≤ END) × (slot_of (map.remove m k) w.point ≡ j) = (
          p.0,
          there (map.remove m k) near' (slot_of m (suc k)) w.point p.0 (slot_left (slot_of m (suc k)) (λ g. ne (e ∙ g)) y.0)
              (y.1.0, λ i b d. let r = y.1.1 i b d in (gone_too i r.0, r.1)) ∙ sym e,
        ) in z))
        (in_both (rows k).queue (rows (slot_of m (suc k))).queue w x))
        (λ ne no x. let p = placed j w x in let y = stands j w x in
        (p.0, there (map.remove m k) near' j w.point p.0 (slot_left j ne y.0) (y.1.0, λ i b d. let r = y.1.1 i b d in (gone_too i r.0, r.1)))) at
      where
        here : IsSlot m (slot_of m (suc k)) × InSpan m (slot_of m (suc k)) (suc k)
        here = slot_here m near (suc k) (omega (arith, lt))

        slot_left : (n : ℕ) → n ≢ k → IsSlot m n → IsSlot (map.remove m k) n
        slot_left n ne slot far none = slot far (sym (gone_other m k n ne) ∙ none)

        by_side : (i : ℕ) → w.point ≤ i → i < slot_of m (suc k) → ((i : ℕ) → w.point ≤ i → i < k → (map.get m i ≡ None) × (i ≢ END)) → (map.get (map.remove m k) i ≡ None) × (i ≢ END)
        by_side i a b below = ⊎_elim
            (λ (c : i < k). let z = below i a c in (let r : (map.get (map.remove m k) i ≡ None) × (i ≢ END) = (gone_too i z.0, z.1) in r))
            (λ (c : k ≤ i). eq_cases i k (λ e. (let r : (map.get (map.remove m k) i ≡ None) × (i ≢ END) = (ap (map.get (map.remove m k)) e ∙ gone_here m k, λ f. omega (arith, e, f, lt)) in r))
            (λ ne. let above : suc k ≤ i = ⊎_elim (λ (d : k < i). d) (λ (d : i ≤ k). absurd (ne (omega arith))) (cases_lt k i) in let z = here.1.1 i above b in (let r : (map.get (map.remove m k) i ≡ None) × (i ≢ END) = (gone_too i z.0, z.1) in r)))
            (cases_lt i k)

-- Nobody past the last client holds anything

beside_nothing : mode_beside (range_of mode.N) ≡ mode.N
beside_nothing = refl

pub split_strangers : (m : Index) (rows : Rows) (k c : ℕ) → c < max_clients → ((n d : ℕ) → max_clients ≤ d → mode_at rows n d ≡ mode.N) → (n d : ℕ) → max_clients ≤ d → mode_at (split m rows k c) n d ≡ mode.N
split_strangers m rows k c lt none n d le = eq_cases n k
    (λ e. ap (λ x. (split m rows k c x).modes d) e ∙ ap (λ r. r.modes d) (row_here (set_row rows (slot_of m k) _) k _)
    ∙ ap (λ b. if b then at_or_above (range_of ((rows (slot_of m k)).modes c)) key.X else mode_beside (range_of ((rows (slot_of m k)).modes d))) (ne_eqb d c (λ f. omega (arith, f, lt, le)))
    ∙ ap (λ g. mode_beside (range_of g)) (none (slot_of m k) d le))
    (λ ne. set_modes rows (slot_of m k) k d n _ _ refl ne ∙ none n d le)

pub merge_strangers : (m : Index) (rows : Rows) (k : ℕ) → ((n d : ℕ) → max_clients ≤ d → mode_at rows n d ≡ mode.N) → (n d : ℕ) → max_clients ≤ d → mode_at (merged m rows k) n d ≡ mode.N
merge_strangers m rows k none n d le = eq_cases n k
    (λ e. ap (λ x. (merged m rows k x).modes d) e ∙ ap (λ r. r.modes d) (row_here (set_row rows (slot_of m (suc k)) _) k blank_row))
    (λ ne. set_modes rows (slot_of m (suc k)) k d n _ _ refl ne ∙ none n d le)
