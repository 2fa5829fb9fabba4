-- A sign that waits in the row for its terms waits on the connection too, if any does.
use Rattle.std.proofs.Common.{◌≡◌, inl, inr, ℕ, Bool, true, false, [], ◌∷◌, Option, Some, None, Ok, Err, refl, sym, ◌∙◌, ap, subst, eqb-true}
use Rattle.std.specs.Prelude.{nat_lt, nat_le, ◌==◌, not, ◌&&◌, is_some, if◌then◌else◌}
use Rattle.std.proofs.lemmas.Bool.{and_parts, eqb-false, false≢true, not-true}
use Rattle.std.proofs.lemmas.Option.{none-some, same_Some}
use Rattle.krl_leases.specs.Clocks.{Clocks, Limits}
use Rattle.krl_leases.specs.Machine as machine
use Rattle.krl_leases.specs.Machine.{Server, State, In}
use Rattle.krl_lease_table.specs.declared.refused.Refused.TheVariants.{NotGreater, StillAnswers}
use Rattle.krl_lease_table.specs.declared.sign.Sign.{Sign}
use Rattle.krl_lease_table.specs.declared.sign.Asked.{Asked}
use Rattle.krl_lease_table.specs.declared.sign.Grant.{Grant}
use Rattle.krl_lease_table.specs.declared.standing.Standing.TheVariants.{Ended}
use Rattle.krl_lease_table.specs.declared.row.Row.{Row}
use Rattle.krl_lease_table.specs.Standings as standings
use Rattle.krl_lease_table.specs.Rows as rows
use Rattle.krl_lease_table.specs.Tables as tables
use Rattle.krl_lease_table.specs.Systems as systems
use Rattle.krl_lease_table.specs.Systems.{Call, Step, Signs, TakesTerms, Admits, Registers, Leaves, Evicts, Succeeds, Revises, Client, Calls, Goes, Happens, after}

-- a sign of this stamp waits on the connection
abbrev pub OfStamp : Clocks → Server → ℕ → State → Type 0
OfStamp clocks s stamp v =
    (moment : ℕ) × In (record { moment = moment; length = s.terms.length }) v.waiting × (stamp ≡ clocks.client moment)

abbrev pub Asks : Clocks → ℕ → Server → Row → State → Type 0
Asks clocks i s row v =
    (asked : Asked) → row.asked ≡ Some asked → asked.incarnation ≡ i → (v.waiting ≡ [] → ⊥) → OfStamp clocks s asked.stamp v

module _ (limits : Limits) (clocks : Clocks) (i : ℕ) (s : Server) where
  -- neither what waits in the row nor what waits on the connection changes
  kept : (row row' : Row) (v v' : State) → row'.asked ≡ row.asked → v'.waiting ≡ v.waiting → Asks clocks i s row v → Asks clocks i s row' v'
  kept row row' v v' p q h asked e k n =
      let r = h asked (sym p ∙ e) k (λ z. n (q ∙ z)) in
      (r.0, subst (In (record { moment = r.0; length = s.terms.length })) (sym q) r.1, r.2)

  client : (e : machine.Event) (row row' : Row) (v v' : State) → systems.IsClients e → machine.Goes limits clocks v e v' → row' ≡ row → Asks clocks i s row v → Asks clocks i s row' v'
  client (machine.Pass n) row row' v v' p g r h = kept row row' v v' (ap (λ (y : Row). y.asked) r) (ap (λ (y : State). y.waiting) g) h
  client machine.Connect row row' v v' p g r h = λ asked e k n. absurd (n (ap (λ (y : State). y.waiting) g.2))
  client machine.Say row row' v v' p g r h = kept row row' v v' (ap (λ (y : Row). y.asked) r) (ap (λ (y : State). y.waiting) g.1) h
  client (machine.Take t) row row' v v' p g r h = kept row row' v v' (ap (λ (y : Row). y.asked) r) (ap (λ (y : State). y.waiting) g.2) h
  client machine.Hello row row' v v' p g r h = kept row row' v v' (ap (λ (y : Row). y.asked) r) (ap (λ (y : State). y.waiting) g.2) h
  client (machine.Hear x) row row' v v' p g r h = absurd p
  client (machine.Confirm x) row row' v v' p g r h = absurd p
  client machine.Register row row' v v' p g r h = absurd p
  client machine.Stop row row' v v' p g r h = absurd p
  client (machine.Start n t) row row' v v' p g r h = absurd p
  client machine.Revise row row' v v' p g r h = absurd p
  client machine.Evict row row' v v' p g r h = absurd p

  -- Signs

  abbrev heard : Row → Sign → ℕ → ℕ → Row
  heard row x commits now = record row { standing = rows.standing_after s.terms row x now; signer = rows.signer_after row.signer x; asked = rows.asked_after row x commits }

  other : (row : Row) (x : Sign) (commits now : ℕ) (v : State) → (x.incarnation ≡ i → rows.has_ended row i ≡ true) → Asks clocks i s row v → Asks clocks i s (rows.signed s.terms row x commits now) v
  other row x commits now v n h = by (rows.has_ended row x.incarnation) refl
    where
      asks : (c : Bool) → rows.has_ended row x.incarnation ≡ false → (asked : Asked) → (if c then row.asked else Some (record { incarnation = x.incarnation; stamp = x.stamp; commits = commits })) ≡ Some asked → asked.incarnation ≡ i → (v.waiting ≡ [] → ⊥) → OfStamp clocks s asked.stamp v
      asks true e asked a k m = h asked a k m
      asks false e asked a k m =
          let q : x.incarnation ≡ i = ap (λ (y : Asked). y.incarnation) (same_Some (record { incarnation = x.incarnation; stamp = x.stamp; commits = commits }) asked a) ∙ k in
          absurd (false≢true (sym e ∙ ap (λ z. rows.has_ended row z) q ∙ n q))

      by : (b : Bool) → rows.has_ended row x.incarnation ≡ b → Asks clocks i s (if b then row else heard row x commits now) v
      by true e = h
      by false e = asks (not (row.registered == x.incarnation) && rows.serves_registered row) e

  -- the registered incarnation's own sign takes the place of each earlier one
  pub stays : (row : Row) (x : Sign) → x.incarnation ≡ i → (o : Option Asked) → row.asked ≡ o → (not (row.registered == x.incarnation) && (rows.is_of o row.registered && standings.may_answer row.standing)) ≡ true → (asked : Asked) → row.asked ≡ Some asked → asked.incarnation ≡ i → ⊥
  stays row x k None e c asked a q = none-some asked (sym e ∙ a)
  stays row x k (Some found) e c asked a q =
      let p = and_parts (not (row.registered == x.incarnation)) (rows.is_of (Some found) row.registered && standings.may_answer row.standing) c in
      let r = and_parts (found.incarnation == row.registered) (standings.may_answer row.standing) p.1 in
      let same = same_Some found asked (sym e ∙ a) in
      eqb-false row.registered x.incarnation (not-true (row.registered == x.incarnation) p.0)
      (sym (eqb-true found.incarnation row.registered r.0) ∙ ap (λ (y : Asked). y.incarnation) same ∙ q ∙ sym k)

  own : (row : Row) (x : Sign) (commits now : ℕ) (v : State) (sign : machine.Sign) → x.incarnation ≡ i → x.stamp ≡ clocks.client sign.moment → rows.has_ended row i ≡ false → Asks clocks i s (rows.signed s.terms row x commits now) (record v { waiting = record { moment = sign.moment; length = s.terms.length } ∷ v.waiting })
  own row x commits now v sign k stamp n = by (rows.has_ended row x.incarnation) refl
    where
      v' : State
      v' = record v { waiting = record { moment = sign.moment; length = s.terms.length } ∷ v.waiting }

      asks : (c : Bool) → (not (row.registered == x.incarnation) && rows.serves_registered row) ≡ c → (asked : Asked) → (if c then row.asked else Some (record { incarnation = x.incarnation; stamp = x.stamp; commits = commits })) ≡ Some asked → asked.incarnation ≡ i → (v'.waiting ≡ [] → ⊥) → OfStamp clocks s asked.stamp v'
      asks true c asked a q m = absurd (stays row x k row.asked refl c asked a q)
      asks false c asked a q m =
          (sign.moment, inl refl, sym (ap (λ (y : Asked). y.stamp) (same_Some (record { incarnation = x.incarnation; stamp = x.stamp; commits = commits }) asked a)) ∙ stamp)

      by : (b : Bool) → rows.has_ended row x.incarnation ≡ b → Asks clocks i s (if b then row else heard row x commits now) v'
      by true e = absurd (false≢true (sym n ∙ sym (ap (λ z. rows.has_ended row z) k) ∙ e))
      by false e = asks (not (row.registered == x.incarnation) && rows.serves_registered row) refl

  -- Terms

  taken : (row : Row) (made : ℕ) (v v' : State) → v'.waiting ≡ v.waiting → Asks clocks i s row v → Asks clocks i s (rows.granted row made) v'
  taken row made v v' q h = by (is_some (rows.due row.asked made))
    where
      by : (b : Bool) → Asks clocks i s (if b then record row { asked = None } else row) v'
      by true = λ asked e k n. absurd (none-some asked e)
      by false = kept row row v v' refl q h

  -- what the table gives is for a sign that waits in the row, and as long as the server's leases are
  pub given : (row : Row) (made : ℕ) (g : Grant) → rows.grant s.terms row made ≡ Some g → (asked : Asked) × (row.asked ≡ Some asked) × (g.incarnation ≡ asked.incarnation) × (g.stamp ≡ asked.stamp) × (g.length ≡ s.terms.length) × (nat_lt asked.commits made ≡ true)
  given row made g e = by row.asked refl e
    where
      granted : (asked : Asked) (c : Bool) → (if c then None else Some (record { incarnation = asked.incarnation; stamp = asked.stamp; length = s.terms.length })) ≡ Some g → (g.incarnation ≡ asked.incarnation) × (g.stamp ≡ asked.stamp) × (g.length ≡ s.terms.length)
      granted asked true e = absurd (none-some g e)
      granted asked false e =
          let same = sym (same_Some (record { incarnation = asked.incarnation; stamp = asked.stamp; length = s.terms.length }) g e) in
          (ap (λ (y : Grant). y.incarnation) same, ap (λ (y : Grant). y.stamp) same, ap (λ (y : Grant). y.length) same)

      due : (asked : Asked) (c : Bool) → rows.grant_for s.terms row (if c then Some asked else None) ≡ Some g → (g.incarnation ≡ asked.incarnation) × (g.stamp ≡ asked.stamp) × (g.length ≡ s.terms.length) × (c ≡ true)
      due asked true e = let r = granted asked (rows.has_ended row asked.incarnation) e in (r.0, r.1, r.2, refl)
      due asked false e = absurd (none-some g e)

      by : (o : Option Asked) → row.asked ≡ o → rows.grant_for s.terms row (rows.due o made) ≡ Some g → (asked : Asked) × (row.asked ≡ Some asked) × (g.incarnation ≡ asked.incarnation) × (g.stamp ≡ asked.stamp) × (g.length ≡ s.terms.length) × (nat_lt asked.commits made ≡ true)
      by None q e = absurd (none-some g e)
      by (Some asked) q e = let r = due asked (nat_lt asked.commits made) e in (asked, q, r.0, r.1, r.2, r.3)

  -- Calls that leave what waits

  unless : (row : Row) (j : ℕ) (v v' : State) (f : Row → Row) → ((f row).asked ≡ row.asked) → v'.waiting ≡ v.waiting → Asks clocks i s row v → Asks clocks i s (systems.unless_refused row (tables.free_if j (Ok row)) f) v'
  unless row j v v' f p q h = by (nat_le j row.registered) (standings.may_answer row.standing)
    where
      by : (b c : Bool) → Asks clocks i s (systems.unless_refused row (if b then Err NotGreater else (if c then Err StillAnswers else Ok row)) f) v'
      by true c = kept row row v v' refl q h
      by false true = kept row row v v' refl q h
      by false false = kept row (f row) v v' p q h

  chosen : (row : Row) (b : Bool) (v v' : State) (row' : Row) → row'.asked ≡ row.asked → v'.waiting ≡ v.waiting → Asks clocks i s row v → Asks clocks i s (if b then row' else row) v'
  chosen row true v v' row' p q h = kept row row' v v' p q h
  chosen row false v v' row' p q h = kept row row v v' refl q h

  calls : (call : Call) (row : Row) (v v' : State) → Happens i clocks s row (after s row (clocks.server s.machine v.now) call) v call v' → Asks clocks i s row v → Asks clocks i s (after s row (clocks.server s.machine v.now) call) v'
  calls (Signs x commits) row v v' (inl t) h = subst (Asks clocks i s (rows.signed s.terms row x commits (clocks.server s.machine v.now))) (sym t.1) (other row x commits (clocks.server s.machine v.now) v t.0 h)
  calls (Signs x commits) row v v' (inr t) h = subst (Asks clocks i s (rows.signed s.terms row x commits (clocks.server s.machine v.now))) (sym t.6) (own row x commits (clocks.server s.machine v.now) v t.0 t.2 t.4 t.5)
  calls (TakesTerms made) row v v' (inl t) h = taken row made v v' (ap (λ (y : State). y.waiting) t) h
  calls (TakesTerms made) row v v' (inr t) h = taken row made v v' (ap (λ (y : State). y.waiting) t.7) h
  calls (Admits j) row v v' t h = chosen row (nat_lt row.registered j && (standings.may_answer row.standing && rows.admits s.terms row j (clocks.server s.machine v.now))) v v' (record row { standing = Ended }) refl (ap (λ (y : State). y.waiting) t) h
  calls (Registers j) row v v' t h = unless row j v v' (λ (r : Row). rows.registered s.terms r j (clocks.server s.machine v.now)) refl (ap (λ (y : State). y.waiting) t.1) h
  calls Leaves row v v' t h = kept row (rows.left row) v v' refl (ap (λ (y : State). y.waiting) t) h
  calls Evicts row v v' t h = chosen row (is_some (rows.successor row (clocks.server s.machine v.now))) v v' (record row { standing = Ended }) refl (ap (λ (y : State). y.waiting) t) h
  calls (Succeeds j) row v v' t h = unless row j v v' (λ (r : Row). rows.evicted r j) refl (ap (λ (y : State). y.waiting) t) h
  calls (Revises longest old) row v v' t h = kept row (tables.revised_row longest s.terms old (clocks.server s.machine v.now) row) v v' refl (ap (λ (y : State). y.waiting) t) h

  pub asks_goes : (step : Step) (row row' : Row) (v v' : State) → Goes limits clocks i s row v step row' v' → Asks clocks i s row v → Asks clocks i s row' v'
  asks_goes (Client e) row row' v v' g h = client e row row' v v' g.0 g.1 g.2 h
  asks_goes (Calls call) row row' v v' g h =
      let t = subst (λ r. Happens i clocks s row r v call v') g.0 g.1 in
      subst (λ r. Asks clocks i s r v') (sym g.0) (calls call row v v' t h)
