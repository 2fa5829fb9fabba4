-- A sign comes, and its terms leave: each a step of the machine.
use Rattle.std.proofs.Common.{◌≡◌, ◌≤◌, inl, inr, ℕ, Bool, true, false, [], ◌∷◌, Some, None, refl, sym, ◌∙◌, ap, subst, arith, eqb-true}
use Rattle.std.specs.Prelude.{nat_le, ◌==◌, not, is_some, max, if◌then◌else◌}
use Rattle.std.proofs.lemmas.Bool.{eqb-false, and_parts, and_cases, false≢true, leb-false, not-false}
use Rattle.krl_leases.specs.declared.until.Until.{Until}
use Rattle.krl_leases.specs.Lengths.{end_of}
use Rattle.krl_leases.specs.Servers as servers
use Rattle.krl_leases.specs.Clocks.{Clocks, Limits, Agree}
use Rattle.krl_leases.specs.Machine as machine
use Rattle.krl_leases.specs.Machine.{Server, State, Evicted, In}
use Rattle.krl_leases.proofs.Lengths.{longer}
use Rattle.krl_leases.proofs.Sound.{Serves, sound_begun}
use Rattle.krl_leases.proofs.Evicted as leases
use Rattle.krl_lease_table.specs.declared.sign.Sign.{Sign}
use Rattle.krl_lease_table.specs.declared.sign.Grant.{Grant}
use Rattle.krl_lease_table.specs.declared.standing.Standing.{Standing}
use Rattle.krl_lease_table.specs.declared.standing.Standing.TheVariants.{Absent, Present, Ended}
use Rattle.krl_lease_table.specs.declared.row.Row.{Row}
use Rattle.krl_lease_table.specs.Standings as standings
use Rattle.krl_lease_table.specs.Rows as rows
use Rattle.krl_lease_table.specs.Systems as systems
use Rattle.krl_lease_table.specs.Systems.{Signs, may_answer}
use Rattle.krl_lease_table.proofs.Waiting.{Asks, given}
use Rattle.krl_lease_table.proofs.Facts.{ends_at, never_at, unknown_differs, registered_differs}
use Rattle.krl_lease_table.proofs.Follows.{view, NoEarlier, Stands, Shows, Follows, same, moved, shown}
use Rattle.krl_lease_table.proofs.Evicting.{is_registered}

module _ (limits : Limits) (clocks : Clocks) (agree : Agree limits clocks) (i : ℕ) (s : Server) where
  -- Signs

  by_sign : (v : State) (u x : Until) (said : ℕ) → NoEarlier limits clocks i s v u x → servers.signed s.terms x said (clocks.server s.machine v.now) ≡ servers.signed s.terms u said (clocks.server s.machine v.now)
  by_sign v u x said (inl e) = ap (λ y. servers.signed s.terms y said (clocks.server s.machine v.now)) e
  by_sign v u x said (inr p) =
      let l = p.1 in
      let k = longer s.terms.drift s.terms.length (max said s.terms.length) (omega arith) in
      let up : u.moment ≤ end_of s.terms.drift (clocks.server s.machine v.now) (max said s.terms.length) = omega arith in
      ap (λ (m : ℕ). record { moment = m }) (never_at x (end_of s.terms.drift (clocks.server s.machine v.now) (max said s.terms.length)) p.0 ∙ sym (ends_at u (end_of s.terms.drift (clocks.server s.machine v.now) (max said s.terms.length)) up))

  later_by_sign : (v v' : State) (u : Until) (said : ℕ) (st : Standing) → v'.standing ≡ v.standing → v'.now ≡ v.now → Stands limits clocks i s v u st → Stands limits clocks i s v' (servers.signed s.terms u said (clocks.server s.machine v.now)) (standings.signed s.terms st said (clocks.server s.machine v.now))
  later_by_sign v v' u said Absent a b h = tt
  later_by_sign v v' u said Ended a b h = tt
  later_by_sign v v' u said (Present x) a b h = (a ∙ h.0, inl (by_sign v u x said h.1))

  stays_in : (row : Row) (v : State) (u : Until) → rows.has_ended row i ≡ false → Shows limits clocks i s row v u → v.standing ≡ Evicted → ⊥
  stays_in row v u n h e = elim (and_cases (nat_le i row.registered) (not (may_answer i row)) n) [
    | inl a ↦ unknown_differs (sym (h.unknown (leb-false i row.registered a)) ∙ e)
    | inr b ↦ (let p = and_parts (row.registered == i) (standings.may_answer row.standing) (not-false (may_answer i row) b) in
        registered_differs (sym (is_registered limits clocks i s v u row.standing p.1 (h.present (eqb-true row.registered i p.0))) ∙ e))
  ]

  pub other : (row : Row) (x : Sign) (commits : ℕ) (v : State) → (x.incarnation ≡ i → rows.has_ended row i ≡ true) → Follows limits clocks i s row v → Follows limits clocks i s (rows.signed s.terms row x commits (clocks.server s.machine v.now)) v
  other row x commits v n f = by (rows.has_ended row x.incarnation) refl
    where
      st : (c : Bool) → row.registered == x.incarnation ≡ c → rows.has_ended row x.incarnation ≡ false → (u : Until) → Shows limits clocks i s row v u → row.registered ≡ i → Stands limits clocks i s v u (if c then standings.signed s.terms row.standing x.said (clocks.server s.machine v.now) else row.standing)
      st false p e u h q = h.present q
      st true p e u h q =
          let k : x.incarnation ≡ i = sym (eqb-true row.registered x.incarnation p) ∙ q in
          absurd (false≢true (sym e ∙ ap (λ z. rows.has_ended row z) k ∙ n k))

      by : (b : Bool) → rows.has_ended row x.incarnation ≡ b → Follows limits clocks i s (if b then row else record row { standing = rows.standing_after s.terms row x (clocks.server s.machine v.now); signer = rows.signer_after row.signer x; asked = rows.asked_after row x commits }) v
      by true e = f
      by false e = same limits clocks i s row (record row { standing = rows.standing_after s.terms row x (clocks.server s.machine v.now); signer = rows.signer_after row.signer x; asked = rows.asked_after row x commits }) v f (λ k. k) (λ u h q. st (row.registered == x.incarnation) refl e u h q)

  pub own : (row : Row) (x : Sign) (commits : ℕ) (v v' : State) (sign : machine.Sign) → In sign v.signs → x.incarnation ≡ i → x.said ≡ sign.said → rows.has_ended row i ≡ false → v' ≡ record v { waiting = record { moment = sign.moment; length = s.terms.length } ∷ v.waiting } → Follows limits clocks i s row v → Follows limits clocks i s (rows.signed s.terms row x commits (clocks.server s.machine v.now)) v'
  own row x commits v v' sign m k said n g f = subst (Follows limits clocks i s (rows.signed s.terms row x commits (clocks.server s.machine v.now))) (sym g) (by (rows.has_ended row x.incarnation) refl)
    where
      st : (c : Bool) → row.registered == x.incarnation ≡ c → row.registered ≡ i → Stands limits clocks i s (record v { waiting = record { moment = sign.moment; length = s.terms.length } ∷ v.waiting }) (servers.signed s.terms f.until sign.said (clocks.server s.machine v.now)) (if c then standings.signed s.terms row.standing x.said (clocks.server s.machine v.now) else row.standing)
      st false p q = absurd (eqb-false row.registered x.incarnation p (q ∙ sym k))
      st true p q = subst (λ z. Stands limits clocks i s (record v { waiting = record { moment = sign.moment; length = s.terms.length } ∷ v.waiting }) (servers.signed s.terms f.until sign.said (clocks.server s.machine v.now)) (standings.signed s.terms row.standing z (clocks.server s.machine v.now))) (sym said)
          (later_by_sign v (record v { waiting = record { moment = sign.moment; length = s.terms.length } ∷ v.waiting }) f.until sign.said row.standing refl refl (f.shows.present q))

      by : (b : Bool) → rows.has_ended row x.incarnation ≡ b → Follows limits clocks i s (if b then row else record row { standing = rows.standing_after s.terms row x (clocks.server s.machine v.now); signer = rows.signer_after row.signer x; asked = rows.asked_after row x commits }) (record v { waiting = record { moment = sign.moment; length = s.terms.length } ∷ v.waiting })
      by true e = absurd (false≢true (sym n ∙ sym (ap (λ z. rows.has_ended row z) k) ∙ e))
      by false e = moved limits clocks i s row (record row { standing = rows.standing_after s.terms row x (clocks.server s.machine v.now); signer = rows.signer_after row.signer x; asked = rows.asked_after row x commits }) v (record v { waiting = record { moment = sign.moment; length = s.terms.length } ∷ v.waiting })
          (servers.signed s.terms f.until sign.said (clocks.server s.machine v.now)) f.kept (machine.Hear sign) f
          (record s { until = f.until }, refl, m, stays_in row v f.until n f.shows, refl)
          (record {
            served = f.shows.served;
            unknown = f.shows.unknown;
            present = λ q. st (row.registered == x.incarnation) refl q;
          }) f.same_kept

  -- Terms

  takes : (row : Row) (made : ℕ) (v : State) → Follows limits clocks i s row v → Follows limits clocks i s (rows.granted row made) v
  takes row made v f = by (is_some (rows.due row.asked made))
    where
      by : (b : Bool) → Follows limits clocks i s (if b then record row { asked = None } else row) v
      by true = same limits clocks i s row (record row { asked = None }) v f (λ l. l) (λ u h e. h.present e)
      by false = f

  -- each sign that waits waits for terms of the server's length
  pub sound : (row : Row) (v : State) → (f : Follows limits clocks i s row v) → Serves limits clocks (view limits clocks i s v f.until f.kept) (record s { until = f.until })
  sound row v f = (leases.runs limits clocks agree f.events machine.begun (view limits clocks i s v f.until f.kept) f.run (sound_begun limits clocks)).server

  is_asked : (row : Row) (made : ℕ) (v : State) (g : Grant) (moment : ℕ) → rows.grant s.terms row made ≡ Some g → g.incarnation ≡ i → (v.waiting ≡ [] → ⊥) → ((asked : ℕ) → systems.Waits asked v.waiting → g.stamp ≡ clocks.client asked → systems.Waits moment v.waiting) → Follows limits clocks i s row v → Asks clocks i s row v → In (record { moment = moment; length = g.length }) v.waiting
  is_asked row made v g moment e k n chosen f h =
      let d = given limits clocks i s row made g e in
      let w = h d.0 d.1 (sym d.2 ∙ k) n in
      let c = chosen w.0 (s.terms.length, w.1) (d.3 ∙ w.2) in
      let l = (sound row v f).waiting (record { moment = moment; length = c.0 }) c.1 in
      subst (λ y. In (record { moment = moment; length = y }) v.waiting) (l ∙ sym d.4) c.1

  pub sends : (row : Row) (made : ℕ) (v v' : State) → systems.AreSent i clocks s row made v.waiting v v' → Follows limits clocks i s row v → Asks clocks i s row v → Follows limits clocks i s (rows.granted row made) v'
  sends row made v v' (inl g) f h = subst (Follows limits clocks i s (rows.granted row made)) (sym g) (takes row made v f)
  sends row made v v' (inr g) f h = subst (Follows limits clocks i s (rows.granted row made)) (sym g.7) (
      let k = takes row made v f in
      moved limits clocks i s (rows.granted row made) (rows.granted row made) v (machine.confirmed v (record { moment = g.1; length = (g.0).length })) k.until k.kept (machine.Confirm (record { moment = g.1; length = (g.0).length })) k
      (record s { until = k.until }, refl, is_asked row made v g.0 g.1 g.2 g.3 g.4 g.6 f h, refl)
      (shown limits clocks i s (rows.granted row made) v (machine.confirmed v (record { moment = g.1; length = (g.0).length })) k.until refl refl refl k.shows) k.same_kept)
