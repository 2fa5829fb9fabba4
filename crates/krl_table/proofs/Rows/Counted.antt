-- How many clients wait.
use Rattle.krl_table.proofs.Names.{◌≡◌, ℕ, zero, suc, List, [], ◌∷◌, length, Option, Some, None, inl, refl, sym, ◌∙◌, arith, is_some, count_by, filter, length-filter, In, Waiter, Kept, rows_of}
use Rattle.krl_table.proofs.Names.{waiter_in, AreListed}
use Rattle.krl_table.proofs.Invariant.Sounds.{some_none}

none_kept : (ws : List (Option Waiter)) → length (filter is_some ws) ≡ 0 → (c : ℕ) → waiter_in ws c ≡ None
none_kept [] e c = refl
none_kept (None ∷ ws) e zero = refl
none_kept (None ∷ ws) e (suc c) = none_kept ws e c
none_kept (Some u ∷ ws) e c = absurd (omega (arith, e))

keeps_none : (ws : List (Option Waiter)) → ((c : ℕ) → waiter_in ws c ≡ None) → length (filter is_some ws) ≡ 0
keeps_none [] h = refl
keeps_none (None ∷ ws) h = keeps_none ws (λ c. h (suc c))
keeps_none (Some u ∷ ws) h = absurd (let e = h zero in cc)

pub none_counted : (ws : List (Option Waiter)) → count_by is_some ws ≡ 0 → (c : ℕ) → waiter_in ws c ≡ None
none_counted ws e = none_kept ws (length-filter is_some ws ∙ e)

pub counts_none : (ws : List (Option Waiter)) → ((c : ℕ) → waiter_in ws c ≡ None) → count_by is_some ws ≡ 0
counts_none ws h = sym (length-filter is_some ws) ∙ keeps_none ws h

-- nobody waits, by client and by slot
module _ (t : Kept) (waiting : List (Option Waiter)) (l : AreListed waiting t) where
  pub no_queues : ((c : ℕ) → waiter_in waiting c ≡ None) → (n : ℕ) → (rows_of t n).queue ≡ []
  no_queues none n = by_queue (rows_of t n).queue (λ u at. some_none (waiter_in waiting u.client) u (l.here n u at) (none u.client))
    where
      by_queue : (us : List Waiter) → ((u : Waiter) → In u us → ⊥) → us ≡ []
      by_queue [] h = refl
      by_queue (u ∷ us) h = absurd (h u (inl refl))

  pub no_waiters : ((n : ℕ) → (rows_of t n).queue ≡ []) → (c : ℕ) → waiter_in waiting c ≡ None
  no_waiters none c = by_waiter (waiter_in waiting c) refl
    where
      nowhere : (us : List Waiter) (u : Waiter) → us ≡ [] → In u us → ⊥
      nowhere [] u e at = at
      nowhere (w ∷ ws) u e at = absurd (cc)

      by_waiter : (o : Option Waiter) → waiter_in waiting c ≡ o → o ≡ None
      by_waiter None e = refl
      by_waiter (Some u) e = let x = l.there c u e in absurd (nowhere (rows_of t x.1.0).queue u (none x.1.0) x.1.1)
