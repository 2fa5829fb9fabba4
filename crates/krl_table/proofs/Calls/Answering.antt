-- What a slot's first waiter can be answered, by only the slot's row.
use Rattle.krl_table.proofs.Names.{◌≡◌, ℕ, ◌≤◌, ◌<◌, Bool, true, false, not, ◌&&◌, ◌||◌, List, [], ◌∷◌, Some, None, IfSome, inl, refl, sym, ap, subst, ◌∙◌, arith, nat_eq, eq-eqb, ne_eqb, ltb-true}
use Rattle.krl_table.proofs.Names.{ltb-false, is_some, nat_lt, if◌then◌else◌, get, END, needs_entry, In, Waiter, Index, IsSlotOf, Row, is_compatible_in_row, front_of, wanted, asks_absent}
use Rattle.krl_table.proofs.Names.{lacks_entry, is_wanted_compatible, first_reply, first_reply_on, row_reply, Kept, rows_of, IsOver}
use Rattle.krl_table.specs.declared.reply.Reply.TheVariants as reply
use Rattle.krl_table.proofs.Rows.RowChanges.{eq_cases}
use Rattle.krl_table.proofs.Rows.Slots.{none_false, next_of}

-- the waiter stands on the slot of its point, so its point is a key exactly if it is that slot, below END
module _ (m : Index) (near : (n : ℕ) → END ≤ n → get m n ≡ None) (n : ℕ) (u : Waiter) (at : IsSlotOf m u.point n) where
  key_here : (b : Bool) → nat_lt n END ≡ b → is_some (get m n) ≡ b
  key_here true e = let lt = ltb-true n END e in
      ap (λ b. b || is_some (get m n)) (sym (ne_eqb n END (λ f. omega (arith, f, lt)))) ∙ at.slot
  key_here false e = none_false (get m n) (near n (ltb-false n END e))

  no_key : u.point < n → is_some (get m u.point) ≡ false
  no_key lt = second (nat_eq u.point END) (is_some (get m u.point)) (at.least u.point (omega arith) lt)
    where
      second : (a b : Bool) → (a || b) ≡ false → b ≡ false
      second true b e = absurd (cc)
      second false b e = e

  key_is : is_some (get m u.point) ≡ (nat_eq u.point n && nat_lt n END)
  key_is = eq_cases u.point n
      (λ e. ap (λ p. is_some (get m p)) e ∙ key_here (nat_lt n END) refl ∙ ap (λ b. b && nat_lt n END) (sym (eq-eqb u.point n e)))
      (λ ne. no_key (let le = at.above in omega (arith, le, ne)) ∙ ap (λ b. b && nat_lt n END) (sym (ne_eqb u.point n ne)))

  pub lacks_is : lacks_entry n u ≡ asks_absent m u
  lacks_is = ap (λ b. needs_entry u.mode && not b) (sym key_is)

pub reply_is : (m : Index) (t : Kept) → IsOver m t → (n : ℕ) → row_reply n (rows_of t n) ≡ first_reply m (rows_of t) n (rows_of t n).queue
reply_is m t over n = by_queue (rows_of t n).queue refl
  where
    by_queue : (us : List Waiter) → (rows_of t n).queue ≡ us → first_reply_on n (rows_of t n) us ≡ first_reply m (rows_of t) n us
    by_queue [] e = refl
    by_queue (u ∷ us) e = let at = subst (In u) (sym e) (inl refl) in
        ap (λ b. if b then Some reply.Absent else (if is_wanted_compatible (rows_of t) n u then Some reply.Grant
        else None))
        (lacks_is m over.near n u (subst (IsSlotOf m u.point) (over.placed n u at) (next_of m over.near u.point (over.points n u at))))

pub reply_grants : (n : ℕ) (row : Row) → row_reply n row ≡ Some reply.Grant → IfSome (front_of row.queue) (λ u. is_compatible_in_row row u.client (wanted row u) ≡ true)
reply_grants n row e = by_queue row.queue e
  where
    by_queue : (us : List Waiter) → first_reply_on n row us ≡ Some reply.Grant → IfSome (front_of us) (λ u. is_compatible_in_row row u.client (wanted row u) ≡ true)
    by_queue [] e = absurd (cc)
    by_queue (u ∷ us) e = by_tests (lacks_entry n u) (is_compatible_in_row row u.client (wanted row u)) e
      where
        by_tests : (a b : Bool) → (if a then Some reply.Absent else (if b then Some reply.Grant else None)) ≡ Some reply.Grant → b ≡ true
        by_tests true b e = absurd (cc)
        by_tests false true e = refl
        by_tests false false e = absurd (cc)
