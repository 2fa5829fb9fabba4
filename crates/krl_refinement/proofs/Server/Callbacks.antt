-- Callbacks may always be sent.
use Rattle.krl_refinement.proofs.Names.{ℕ, zero, suc, ◌≤◌, Bool, true, false, List, [], ◌∷◌, inl, inr, sym, subst, ⊎_elim, arith, if◌then◌else◌, cap, ToClient, In, in_both, Waiter, span_of, slots}
use Rattle.krl_refinement.proofs.Names.{max_clients, wanted, Link, Server, callback_to, Following, Nothing, Answers, Calls, callbacks_after, WasSent}
use Rattle.krl_table.specs.Replies.{asks_absent}
use Rattle.krl_table.proofs.Rows.Slots.{low_under}
use Rattle.krl_server.specs.Callbacks.{is_compatible, callbacks_from, callbacks_for, callbacks_among, callbacks_at}

module _ (s : Server) (of : ℕ → Link) (begun : 1 ≤ s.durable.epoch) where
  abbrev Sent : ToClient → Type 0
  Sent o = WasSent (of o.client) o.incarnation o.body

  from_sent : (n : ℕ) (u : Waiter) (d k : ℕ) (o : ToClient) → In o (callbacks_from s n u d k) → Sent o
  from_sent n u d zero o at = absurd at
  from_sent n u d (suc k) o at = by_compatible (is_compatible s n u d) (from_sent n u (suc d) k o) at
    where
      by_compatible : (b : Bool) → (In o (callbacks_from s n u (suc d) k) → Sent o) → In o (if b then callbacks_from s n u (suc d) k else callback_to s d (span_of s.durable.index n) (cap (wanted (s.rows n) u)) ∷ callbacks_from s n u (suc d) k) → Sent o
      by_compatible true ih h = ih h
      by_compatible false ih (inl e) = let low = low_under s.durable.index n in subst (λ x. WasSent (of x.client) x.incarnation x.body) (sym e) (begun, omega (arith, low))
      by_compatible false ih (inr h) = ih h

  -- those for one waiter
  pub callbacks_for_sent : (n : ℕ) (u : Waiter) (o : ToClient) → In o (callbacks_for s n u) → WasSent (of o.client) o.incarnation o.body
  callbacks_for_sent n u o at = by_absent (asks_absent s.durable.index u) at
    where
      by_absent : (b : Bool) → In o (if b then [] else callbacks_from s n u 0 max_clients) → Sent o
      by_absent true h = absurd h
      by_absent false h = from_sent n u 0 max_clients o h

  at_sent : (n : ℕ) (us : List Waiter) (o : ToClient) → In o (callbacks_at s n us) → Sent o
  at_sent n [] o at = absurd at
  at_sent n (u ∷ us) o at = callbacks_for_sent n u o at

  among_sent : (ns : List ℕ) (o : ToClient) → In o (callbacks_among s ns) → Sent o
  among_sent [] o at = absurd at
  among_sent (n ∷ ns) o at = ⊎_elim (λ (x : In o (callbacks_at s n (s.rows n).queue)). at_sent n (s.rows n).queue o x) (λ (x : In o (callbacks_among s ns)). among_sent ns o x) (in_both (callbacks_at s n (s.rows n).queue) (callbacks_among s ns) o at)

  pub calls_sent : (k : Following) (o : ToClient) → In o (callbacks_after k s) → WasSent (of o.client) o.incarnation o.body
  calls_sent Nothing o at = absurd at
  calls_sent Answers o at = absurd at
  calls_sent Calls o at = among_sent (slots s.durable.index) o at
