-- A greater incarnation is registered: a step of the machine, if it is this one.
use Rattle.std.proofs.Common.{◌≡◌, ◌<◌, ◌⊎◌, inl, inr, ℕ, Bool, true, false, Ok, Err, refl, sym, ap, subst, arith, eq-eqb}
use Rattle.std.specs.Prelude.{nat_le, ◌==◌, not, is_some, if◌then◌else◌}
use Rattle.std.proofs.lemmas.Bool.{and_left, and_right, and_from, cases_eq, leb-false, ne_eqb, not_from_false}
use Rattle.krl_leases.specs.declared.length.TheConstants.{FOR_EVER}
use Rattle.krl_leases.specs.Servers as servers
use Rattle.krl_leases.specs.Clocks.{Clocks, Limits}
use Rattle.krl_leases.specs.Machine as machine
use Rattle.krl_leases.specs.Machine.{Server, State, Registered, Evicted}
use Rattle.krl_leases.proofs.Lengths.{no_shorter}
use Rattle.krl_lease_table.specs.declared.refused.Refused.TheVariants.{NotGreater, StillAnswers}
use Rattle.krl_lease_table.specs.declared.row.Row.{Row}
use Rattle.krl_lease_table.specs.Standings as standings
use Rattle.krl_lease_table.specs.Rows as rows
use Rattle.krl_lease_table.specs.Tables as tables
use Rattle.krl_lease_table.specs.Systems as systems
use Rattle.krl_lease_table.specs.Systems.{may_answer, ends, begins, with_standing, with_registered}
use Rattle.krl_lease_table.proofs.Facts.{unmoved, unregistered, registered_as, not_and, and_not}
use Rattle.krl_lease_table.proofs.Follows.{NoEarlier, Follows, same, moved}

module _ (limits : Limits) (clocks : Clocks) (i : ℕ) (s : Server) where
  -- Nobody is registered while the incarnation may answer

  no_end : (row : Row) (j : ℕ) (f : Row → Row) → ends i row (systems.unless_refused row (tables.free_if j (Ok row)) f) ≡ false
  no_end row j f = by (nat_le j row.registered) (standings.may_answer row.standing) refl
    where
      by : (b c : Bool) → standings.may_answer row.standing ≡ c → ends i row (systems.unless_refused row (if b then Err NotGreater else (if c then Err StillAnswers else Ok row)) f) ≡ false
      by true c q = and_not (may_answer i row)
      by false true q = and_not (may_answer i row)
      by false false q = and_left (may_answer i row) (not (may_answer i (f row))) (and_right (row.registered == i) (standings.may_answer row.standing) q)

  pub as_before : (row : Row) (j : ℕ) (v : State) (f : Row → Row) → with_standing v (ends i row (systems.unless_refused row (tables.free_if j (Ok row)) f)) Evicted ≡ v
  as_before row j v f = unmoved v (with_standing v (ends i row (systems.unless_refused row (tables.free_if j (Ok row)) f)) Evicted) (ends i row (systems.unless_refused row (tables.free_if j (Ok row)) f)) Evicted refl (no_end row j f)

  -- A greater incarnation is registered

  granted_at_most : (row : Row) (j : ℕ) (v : State) → NoEarlier limits clocks i s v (servers.since s.terms (clocks.server s.machine v.now)) (servers.since (rows.terms_of s.terms row j) (clocks.server s.machine v.now))
  granted_at_most row j v = by (is_some (rows.older_than row.signer j))
    where
      by : (b : Bool) → NoEarlier limits clocks i s v (servers.since s.terms (clocks.server s.machine v.now)) (servers.since (if b then s.terms else record { length = FOR_EVER; drift = s.terms.drift }) (clocks.server s.machine v.now))
      by true = inl refl
      by false = let h = no_shorter s.terms.drift FOR_EVER in inr (omega arith, omega arith)

  pub registers : (row : Row) (j : ℕ) (v v' : State) → (begins i row (systems.unless_refused row (tables.free_if j (Ok row)) (λ (r : Row). rows.registered s.terms r j (clocks.server s.machine v.now))) ≡ true → v.says_hello ≡ true) → v' ≡ with_registered s v (begins i row (systems.unless_refused row (tables.free_if j (Ok row)) (λ (r : Row). rows.registered s.terms r j (clocks.server s.machine v.now)))) → Follows limits clocks i s row v → Follows limits clocks i s (systems.unless_refused row (tables.free_if j (Ok row)) (λ (r : Row). rows.registered s.terms r j (clocks.server s.machine v.now))) v'
  registers row j v v' hello g f = by (nat_le j row.registered) refl (standings.may_answer row.standing) refl hello g
    where
      refused : v' ≡ with_registered s v (begins i row row) → Follows limits clocks i s row v'
      refused g = subst (Follows limits clocks i s row) (sym (unregistered s v v' (begins i row row) g (not_and (may_answer i row)))) f

      accepted : (j ≡ i) ⊎ (j ≡ i → ⊥) → row.registered < j → standings.may_answer row.standing ≡ false → (begins i row (rows.registered s.terms row j (clocks.server s.machine v.now)) ≡ true → v.says_hello ≡ true) → v' ≡ with_registered s v (begins i row (rows.registered s.terms row j (clocks.server s.machine v.now))) → Follows limits clocks i s (rows.registered s.terms row j (clocks.server s.machine v.now)) v'
      accepted (inl q) l a hello g =
          let out = and_right (row.registered == i) (standings.may_answer row.standing) a in
          let into = and_from (j == i) true (eq-eqb j i q) refl in
          let b = and_from (not (may_answer i row)) (may_answer i (rows.registered s.terms row j (clocks.server s.machine v.now))) (not_from_false (may_answer i row) out) into in
          subst (Follows limits clocks i s (rows.registered s.terms row j (clocks.server s.machine v.now))) (sym (registered_as s v v' (begins i row (rows.registered s.terms row j (clocks.server s.machine v.now))) g b)) (
          moved limits clocks i s row (rows.registered s.terms row j (clocks.server s.machine v.now)) v (record v { standing = Registered; kept = servers.kept_registered v.kept s.terms })
          (servers.since s.terms (clocks.server s.machine v.now)) (servers.kept_registered f.kept s.terms) machine.Register f
          (record s { until = f.until }, refl, hello b, f.shows.unknown (omega arith), refl)
          (record {
            served = f.shows.served;
            unknown = λ k. absurd (omega arith);
            present = λ e. (refl, granted_at_most row j v);
          }) (ap (λ k. servers.kept_registered k s.terms) f.same_kept))
      accepted (inr n) l a hello g =
          let out = and_left (j == i) true (ne_eqb j i n) in
          let b = and_right (not (may_answer i row)) (may_answer i (rows.registered s.terms row j (clocks.server s.machine v.now))) out in
          subst (Follows limits clocks i s (rows.registered s.terms row j (clocks.server s.machine v.now))) (sym (unregistered s v v' (begins i row (rows.registered s.terms row j (clocks.server s.machine v.now))) g b)) (
          same limits clocks i s row (rows.registered s.terms row j (clocks.server s.machine v.now)) v f (λ k. omega arith) (λ u h e. absurd (n e)))

      by : (b : Bool) → nat_le j row.registered ≡ b → (c : Bool) → standings.may_answer row.standing ≡ c → (begins i row (systems.unless_refused row (if b then Err NotGreater else (if c then Err StillAnswers else Ok row)) (λ (r : Row). rows.registered s.terms r j (clocks.server s.machine v.now))) ≡ true → v.says_hello ≡ true) → v' ≡ with_registered s v (begins i row (systems.unless_refused row (if b then Err NotGreater else (if c then Err StillAnswers else Ok row)) (λ (r : Row). rows.registered s.terms r j (clocks.server s.machine v.now)))) → Follows limits clocks i s (systems.unless_refused row (if b then Err NotGreater else (if c then Err StillAnswers else Ok row)) (λ (r : Row). rows.registered s.terms r j (clocks.server s.machine v.now))) v'
      by true p c q hello g = refused g
      by false p true q hello g = refused g
      by false p false q hello g = accepted (cases_eq j i) (leb-false j row.registered p) q hello g

  pub succeeds : (row : Row) (j : ℕ) (v : State) → Follows limits clocks i s row v → Follows limits clocks i s (systems.unless_refused row (tables.free_if j (Ok row)) (λ (r : Row). rows.evicted r j)) v
  succeeds row j v f = by (nat_le j row.registered) refl (standings.may_answer row.standing)
    where
      by : (b : Bool) → nat_le j row.registered ≡ b → (c : Bool) → Follows limits clocks i s (systems.unless_refused row (if b then Err NotGreater else (if c then Err StillAnswers else Ok row)) (λ (r : Row). rows.evicted r j)) v
      by true p c = f
      by false p true = f
      by false p false =
          let l = leb-false j row.registered p in
          same limits clocks i s row (rows.evicted row j) v f (λ k. omega arith) (λ u h e. tt)
