-- The part of a row is a row, and parts of rows that agree, agree.
use Rattle.krl_split.proofs.Names.{◌≡◌, ◌≢◌, ℕ, suc, ◌≤◌, ◌<◌, None, ◌⊎◌, inl, inr, ap, subst, sym, ◌∙◌, ⊎_elim, arith, cases_lt, lt-ltb, le-ltb, eq-eqb, ne_eqb, if◌then◌else◌, nat_lt}
use Rattle.std.specs.Prelude.{◌==◌}
use Rattle.krl_split.proofs.Names.{RangePart, KeyPart, RangesAgree, KeysAgree, IsMode, off_slot, Shared, IsRow}
use Rattle.krl_modes.specs.declared.part.RangePart.TheVariants as range
use Rattle.krl_machine.proofs.Worlds.{eq_cases}
use Rattle.krl_split.specs.Parts.{index_part, row_range, end_key, row_key}
use Rattle.krl_split.proofs.Clips.{Out, where_is, choose_in, choose_out}

pub end_mode : (a : RangePart) → IsMode a (end_key a)
end_mode a = grind arith

pub end_agree : (a b : RangePart) → KeysAgree (end_key a) (end_key b)
end_agree a b = grind arith

pub off_agree : (a b : RangePart) → RangesAgree a b → KeysAgree (off_slot a) (off_slot b)
off_agree a b h = grind arith

module _ (lo hi end : ℕ) (f : ℕ → RangePart) (q : ℕ) where
  pub row_below : q < lo → row_range lo hi end f q ≡ f lo
  row_below low = ap (λ t. if t then f lo else (if nat_lt q hi then f q else (if nat_lt end q then range.N else f hi))) (lt-ltb q lo low)

  pub row_in : lo ≤ q → q < hi → row_range lo hi end f q ≡ f q
  row_in low high = ap (λ t. if t then f lo else (if nat_lt q hi then f q else (if nat_lt end q then range.N else f hi))) (le-ltb q lo low)
      ∙ ap (λ t. if t then f q else (if nat_lt end q then range.N else f hi)) (lt-ltb q hi high)

  beyond : lo ≤ q → hi ≤ q → row_range lo hi end f q ≡ (if nat_lt end q then range.N else f hi)
  beyond low high = ap (λ t. if t then f lo else (if nat_lt q hi then f q else (if nat_lt end q then range.N else f hi))) (le-ltb q lo low)
      ∙ ap (λ t. if t then f q else (if nat_lt end q then range.N else f hi)) (le-ltb q hi high)

  pub row_above : lo ≤ q → hi ≤ q → q ≤ end → row_range lo hi end f q ≡ f hi
  row_above low high near = beyond low high ∙ ap (λ t. if t then range.N else f hi) (le-ltb end q near)

  pub row_past : lo ≤ q → hi ≤ q → end < q → row_range lo hi end f q ≡ range.N
  row_past low high far = beyond low high ∙ ap (λ t. if t then range.N else f hi) (lt-ltb end q far)

-- each point has the range part of one point of the whole, the same one in each row, or none
pub row_at : (lo hi end q : ℕ) → ((p : ℕ) × ((f : ℕ → RangePart) → row_range lo hi end f q ≡ f p)) ⊎ ((f : ℕ → RangePart) → row_range lo hi end f q ≡ range.N)
row_at lo hi end q = ⊎_elim (λ (a : q < lo). inl (lo, λ f. row_below lo hi end f q a))
    (λ (a : lo ≤ q). ⊎_elim (λ (b : q < hi). inl (q, λ f. row_in lo hi end f q a b))
    (λ (b : hi ≤ q). ⊎_elim (λ (c : end < q). inr (λ f. row_past lo hi end f q a b c)) (λ (c : q ≤ end). inl (hi, λ f. row_above lo hi end f q a b c)) (cases_lt end q)) (cases_lt q hi)) (cases_lt q lo)

module _ (lo hi end : ℕ) (f : ℕ → RangePart) (g : ℕ → KeyPart) (q : ℕ) where
  pub key_in : lo ≤ q → q < hi → row_key lo hi end f g q ≡ g q
  key_in low high = choose_in lo hi q (g q) (if q == end then end_key (row_range lo hi end f q) else off_slot (row_range lo hi end f q)) low high

  pub key_end : Out lo hi q → q ≡ end → row_key lo hi end f g q ≡ end_key (row_range lo hi end f q)
  key_end out e = choose_out lo hi q (g q) (if q == end then end_key (row_range lo hi end f q) else off_slot (row_range lo hi end f q)) out
      ∙ ap (λ t. if t then end_key (row_range lo hi end f q) else off_slot (row_range lo hi end f q)) (eq-eqb q end e)

  pub key_out : Out lo hi q → q ≢ end → row_key lo hi end f g q ≡ off_slot (row_range lo hi end f q)
  key_out out ne = choose_out lo hi q (g q) (if q == end then end_key (row_range lo hi end f q) else off_slot (row_range lo hi end f q)) out
      ∙ ap (λ t. if t then end_key (row_range lo hi end f q) else off_slot (row_range lo hi end f q)) (ne_eqb q end ne)

-- the part of a row
module _ (s : Shared) (lo hi : ℕ) (some : lo < hi) (near : hi ≤ suc s.end) (f : ℕ → RangePart) (g : ℕ → KeyPart) (r : IsRow s f g) where
  index_in : (q : ℕ) → lo ≤ q → q < hi → index_part lo hi s.index q ≡ s.index q
  index_in q low high = choose_in lo hi q (s.index q) None low high

  same_part : (q : ℕ) → q ≢ s.end → index_part lo hi s.index q ≡ None → row_range lo hi s.end f q ≡ row_range lo hi s.end f (suc q)
  same_part q ne none = ⊎_elim
      (λ (a : q < lo). row_below lo hi s.end f q a ∙ ⊎_elim
      (λ (b : suc q < lo). sym (row_below lo hi s.end f (suc q) b))
      (λ (b : lo ≤ suc q). let e : lo ≡ suc q = omega (arith, a, b) in ap f e ∙ sym (row_in lo hi s.end f (suc q) b (omega (arith, e, some)))) (cases_lt (suc q) lo))
      (λ (a : lo ≤ q). ⊎_elim
      (λ (b : q < hi). row_in lo hi s.end f q a b ∙ r.same q ne (sym (index_in q a b) ∙ none) ∙ ⊎_elim
      (λ (c : suc q < hi). sym (row_in lo hi s.end f (suc q) (omega (arith, a)) c))
      (λ (c : hi ≤ suc q). let e : suc q ≡ hi = omega (arith, b, c) in ap f e ∙ sym (row_above lo hi s.end f (suc q) (omega (arith, a)) c (le_end q ne b))) (cases_lt (suc q) hi))
      (λ (b : hi ≤ q). ⊎_elim
      (λ (c : s.end < q). row_past lo hi s.end f q a b c ∙ sym (row_past lo hi s.end f (suc q) (omega (arith, a)) (omega (arith, b)) (omega (arith, c))))
      (λ (c : q ≤ s.end). row_above lo hi s.end f q a b c ∙ sym (row_above lo hi s.end f (suc q) (omega (arith, a)) (omega (arith, b)) (below_end q ne c))) (cases_lt s.end q)) (cases_lt q hi)) (cases_lt q lo)
    where
      below_end : (q : ℕ) → q ≢ s.end → q ≤ s.end → suc q ≤ s.end
      below_end q ne le = ⊎_elim (λ (a : q < s.end). omega (arith, a)) (λ (a : s.end ≤ q). absurd (ne (omega (arith, a, le)))) (cases_lt q s.end)

      le_end : (q : ℕ) → q ≢ s.end → q < hi → suc q ≤ s.end
      le_end q ne lt = below_end q ne (omega (arith, near, lt))

  pub row_part : IsRow (record s { index = index_part lo hi s.index }) (row_range lo hi s.end f) (row_key lo hi s.end f g)
  row_part = record {
    same = same_part;
    past = λ q far.
        let low : lo ≤ q = omega (arith, some, near, far) in
        let high : hi ≤ q = omega (arith, near, far) in
        let e : row_range lo hi s.end f q ≡ range.N = row_past lo hi s.end f q low high far in
        (e, key_out lo hi s.end f g q (inr high) (λ x. omega (arith, x, far)) ∙ ap off_slot e);
    mode = λ n slot. where_is lo hi n
        (λ a b. subst (λ x. IsMode x (row_key lo hi s.end f g n)) (sym (row_in lo hi s.end f n a b))
        (subst (λ x. IsMode (f n) x) (sym (key_in lo hi s.end f g n a b)) (r.mode n (λ far none. slot far (index_in n a b ∙ none)))))
        (λ out. eq_cases n s.end
        (λ e. subst (λ x. IsMode (row_range lo hi s.end f n) x) (sym (key_end lo hi s.end f g n out e)) (end_mode (row_range lo hi s.end f n)))
        (λ ne. absurd (slot ne (choose_out lo hi n (s.index n) None out))));
    off = λ q ne none. where_is lo hi q
        (λ a b. key_in lo hi s.end f g q a b ∙ r.off q ne (sym (index_in q a b) ∙ none) ∙ ap off_slot (sym (row_in lo hi s.end f q a b)))
        (λ out. key_out lo hi s.end f g q out ne);
  }

-- parts of two rows that agree
module _ (lo hi end : ℕ) (f h : ℕ → RangePart) (g k : ℕ → KeyPart) (agree : (q : ℕ) → RangesAgree (f q) (h q) × KeysAgree (g q) (k q)) where
  pub ranges_part : (q : ℕ) → RangesAgree (row_range lo hi end f q) (row_range lo hi end h q)
  ranges_part q = by (row_at lo hi end q)
    where
      by : ((p : ℕ) × ((f : ℕ → RangePart) → row_range lo hi end f q ≡ f p)) ⊎ ((f : ℕ → RangePart) → row_range lo hi end f q ≡ range.N) → RangesAgree (row_range lo hi end f q) (row_range lo hi end h q)
      by (inl x) = subst (λ y. RangesAgree y (row_range lo hi end h q)) (sym (x.1 f)) (subst (λ y. RangesAgree (f x.0) y) (sym (x.1 h)) (agree x.0).0)
      by (inr x) = subst (λ y. RangesAgree y (row_range lo hi end h q)) (sym (x f)) (subst (λ y. RangesAgree range.N y) (sym (x h)) (omega arith, omega arith))

  pub keys_part : (q : ℕ) → KeysAgree (row_key lo hi end f g q) (row_key lo hi end h k q)
  keys_part q = where_is lo hi q
      (λ a b. subst (λ y. KeysAgree y (row_key lo hi end h k q)) (sym (key_in lo hi end f g q a b)) (subst (λ y. KeysAgree (g q) y) (sym (key_in lo hi end h k q a b)) (agree q).1))
      (λ out. eq_cases q end
      (λ e. subst (λ y. KeysAgree y (row_key lo hi end h k q)) (sym (key_end lo hi end f g q out e)) (subst (λ y. KeysAgree (end_key (row_range lo hi end f q)) y) (sym (key_end lo hi end h k q out e)) (end_agree (row_range lo hi end f q) (row_range lo hi end h q))))
      (λ ne. subst (λ y. KeysAgree y (row_key lo hi end h k q)) (sym (key_out lo hi end f g q out ne)) (subst (λ y. KeysAgree (off_slot (row_range lo hi end f q)) y) (sym (key_out lo hi end h k q out ne)) (off_agree (row_range lo hi end f q) (row_range lo hi end h q) (ranges_part q)))))
