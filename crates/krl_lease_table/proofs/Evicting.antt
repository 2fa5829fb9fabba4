-- The table evicts the incarnation, or has it make room: a step of the machine, if it counts as evicted.
use Rattle.std.proofs.Common.{◌≡◌, ◌<◌, inl, inr, ℕ, Bool, true, false, refl, sym, subst, arith, ltb-true, eqb-true, ◌+◌}
use Rattle.std.specs.Prelude.{nat_lt, nat_le, ◌==◌, not, ◌&&◌, is_some, if◌then◌else◌}
use Rattle.std.proofs.lemmas.Bool.{and_parts, and_left, and_right, and_from, or_parts, false≢true, lt-leb, not-true, not_from_false}
use Rattle.krl_leases.specs.declared.length.TheConstants.{FOR_EVER}
use Rattle.krl_leases.specs.declared.until.Until.{Until}
use Rattle.krl_leases.specs.Servers as servers
use Rattle.krl_leases.specs.Clocks.{Clocks, Limits}
use Rattle.krl_leases.specs.Machine as machine
use Rattle.krl_leases.specs.Machine.{Server, State, Registered, Evicted}
use Rattle.krl_lease_table.specs.declared.standing.Standing.{Standing}
use Rattle.krl_lease_table.specs.declared.standing.Standing.TheVariants.{Absent, Present, Ended}
use Rattle.krl_lease_table.specs.declared.row.Row.{Row}
use Rattle.krl_lease_table.specs.Standings as standings
use Rattle.krl_lease_table.specs.Rows as rows
use Rattle.krl_lease_table.specs.Systems as systems
use Rattle.krl_lease_table.specs.Systems.{may_answer, ends, with_standing}
use Rattle.krl_lease_table.proofs.Facts.{unmoved, set_to, and_not, some_if, last_reason}
use Rattle.krl_lease_table.proofs.Follows.{NoEarlier, Stands, Follows, same, moved}

module _ (limits : Limits) (clocks : Clocks) (i : ℕ) (s : Server) where
  -- it is registered, and its end has come by the machine too
  come : (v : State) (u x : Until) → servers.has_come x (clocks.server s.machine v.now) ≡ true → NoEarlier limits clocks i s v u x → servers.has_come u (clocks.server s.machine v.now) ≡ true
  come v u x c (inl e) = subst (λ y. servers.has_come y (clocks.server s.machine v.now) ≡ true) e c
  come v u x c (inr e) =
      let never = e.0 in
      let p = ltb-true x.moment FOR_EVER (and_parts (nat_lt x.moment FOR_EVER) (nat_le x.moment (clocks.server s.machine v.now)) c).0 in
      absurd (omega arith)

  pub is_registered : (v : State) (u : Until) (st : Standing) → standings.may_answer st ≡ true → Stands limits clocks i s v u st → v.standing ≡ Registered
  is_registered v u Absent a h = absurd (false≢true a)
  is_registered v u Ended a h = absurd (false≢true a)
  is_registered v u (Present x) a h = h.0

  by_end : (v : State) (u : Until) (st : Standing) → standings.may_answer st ≡ true → standings.may_be_evicted st (clocks.server s.machine v.now) ≡ true → Stands limits clocks i s v u st → servers.has_come u (clocks.server s.machine v.now) ≡ true
  by_end v u Absent a c h = absurd (false≢true a)
  by_end v u Ended a c h = absurd (false≢true a)
  by_end v u (Present x) a c h = come v u x c h.1

  -- The incarnation is evicted

  evicted : (row : Row) (v v' : State) (f : Follows limits clocks i s row v) → row.registered ≡ i → standings.may_answer row.standing ≡ true → servers.has_come f.until (clocks.server s.machine v.now) ≡ true → v' ≡ record v { standing = Evicted } → Follows limits clocks i s (record row { standing = Ended }) v'
  evicted row v v' f q a c g = subst (Follows limits clocks i s (record row { standing = Ended })) (sym g) (
      moved limits clocks i s row (record row { standing = Ended }) v (record v { standing = Evicted }) f.until f.kept machine.Evict f
      (record s { until = f.until }, refl, is_registered v f.until row.standing a (f.shows.present q), c, refl)
      (record {
        served = f.shows.served;
        unknown = λ l. absurd (omega arith);
        present = λ e. tt;
      }) f.same_kept)

  silent : (row : Row) (v v' : State) → Follows limits clocks i s row v → v' ≡ v → Follows limits clocks i s (record row { standing = Ended }) v'
  silent row v v' f g = subst (Follows limits clocks i s (record row { standing = Ended })) (sym g) (
      same limits clocks i s row (record row { standing = Ended }) v f (λ l. l) (λ u h e. tt))

  pub evicts : (row : Row) (v v' : State) → v' ≡ with_standing v (ends i row (rows.evicting row (clocks.server s.machine v.now))) Evicted → Follows limits clocks i s row v → Follows limits clocks i s (rows.evicting row (clocks.server s.machine v.now)) v'
  evicts row v v' g f = by (is_some (rows.successor row (clocks.server s.machine v.now))) refl g
    where
      over : (c : Bool) → may_answer i row ≡ c → is_some (rows.successor row (clocks.server s.machine v.now)) ≡ true → v' ≡ with_standing v (ends i row (record row { standing = Ended })) Evicted → Follows limits clocks i s (record row { standing = Ended }) v'
      over false a o g =
          silent row v v' f (unmoved v v' (ends i row (record row { standing = Ended })) Evicted g (and_left (may_answer i row) (not (may_answer i (record row { standing = Ended }))) a))
      over true a o g =
          let p = and_parts (row.registered == i) (standings.may_answer row.standing) a in
          let q = eqb-true row.registered i p.0 in
          let m = and_parts (standings.may_be_evicted row.standing (clocks.server s.machine v.now)) (nat_lt row.registered rows.last_incarnation) (some_if (standings.may_be_evicted row.standing (clocks.server s.machine v.now) && nat_lt row.registered rows.last_incarnation) (row.registered + 1) o) in
          let n = not_from_false (may_answer i (record row { standing = Ended })) (and_right (row.registered == i) false refl) in
          evicted row v v' f q p.1 (by_end v f.until row.standing p.1 m.0 (f.shows.present q))
          (set_to v v' (ends i row (record row { standing = Ended })) Evicted g (and_from (may_answer i row) (not (may_answer i (record row { standing = Ended }))) a n))

      by : (b : Bool) → is_some (rows.successor row (clocks.server s.machine v.now)) ≡ b → v' ≡ with_standing v (ends i row (if b then record row { standing = Ended } else row)) Evicted → Follows limits clocks i s (if b then record row { standing = Ended } else row) v'
      by true o g = over (may_answer i row) refl o g
      by false o g = subst (Follows limits clocks i s row) (sym (unmoved v v' (ends i row row) Evicted g (and_not (may_answer i row)))) f

  -- It makes room

  -- nobody's word that it is over, so its end has come
  by_room : (row : Row) (j : ℕ) (v : State) (u : Until) (st : Standing) → standings.may_answer st ≡ true → row.registered < j → systems.counts_as_over s row j ≡ false → rows.makes_room st (rows.asks s.terms row j) (clocks.server s.machine v.now) ≡ true → Stands limits clocks i s v u st → servers.has_come u (clocks.server s.machine v.now) ≡ true
  by_room row j v u Absent a l w m h = absurd (false≢true a)
  by_room row j v u Ended a l w m h = absurd (false≢true a)
  by_room row j v u (Present x) a l w m h =
      let asks = rows.asks s.terms row j in
      let p = or_parts (asks.over == row.registered) asks.is_vouched w in
      come v u x (last_reason (nat_le j row.registered) (asks.over == row.registered) (servers.has_come x (clocks.server s.machine v.now)) asks.is_vouched (lt-leb j row.registered l) p.0 p.1 (servers.is_never x) m) h.1

  pub admits : (row : Row) (j : ℕ) (v v' : State) → v' ≡ with_standing v (ends i row (rows.admitted s.terms row j (clocks.server s.machine v.now)) && not (systems.counts_as_over s row j)) Evicted → Follows limits clocks i s row v → Follows limits clocks i s (rows.admitted s.terms row j (clocks.server s.machine v.now)) v'
  admits row j v v' g f = by (nat_lt row.registered j && (standings.may_answer row.standing && rows.admits s.terms row j (clocks.server s.machine v.now))) refl g
    where
      room : (c : Bool) → (ends i row (record row { standing = Ended }) && not (systems.counts_as_over s row j)) ≡ c → (nat_lt row.registered j && (standings.may_answer row.standing && rows.admits s.terms row j (clocks.server s.machine v.now))) ≡ true → v' ≡ with_standing v (ends i row (record row { standing = Ended }) && not (systems.counts_as_over s row j)) Evicted → Follows limits clocks i s (record row { standing = Ended }) v'
      room false c o g =
          silent row v v' f (unmoved v v' (ends i row (record row { standing = Ended }) && not (systems.counts_as_over s row j)) Evicted g c)
      room true c o g =
          let p = and_parts (nat_lt row.registered j) (standings.may_answer row.standing && rows.admits s.terms row j (clocks.server s.machine v.now)) o in
          let q = and_parts (standings.may_answer row.standing) (rows.admits s.terms row j (clocks.server s.machine v.now)) p.1 in
          let e = and_parts (ends i row (record row { standing = Ended })) (not (systems.counts_as_over s row j)) c in
          let m = and_parts (may_answer i row) (not (may_answer i (record row { standing = Ended }))) e.0 in
          let r = and_parts (row.registered == i) (standings.may_answer row.standing) m.0 in
          let k = eqb-true row.registered i r.0 in
          evicted row v v' f k q.0
          (by_room row j v f.until row.standing q.0 (ltb-true row.registered j p.0) (not-true (systems.counts_as_over s row j) e.1) q.1 (f.shows.present k))
          (set_to v v' (ends i row (record row { standing = Ended }) && not (systems.counts_as_over s row j)) Evicted g c)

      by : (b : Bool) → (nat_lt row.registered j && (standings.may_answer row.standing && rows.admits s.terms row j (clocks.server s.machine v.now))) ≡ b → v' ≡ with_standing v (ends i row (if b then record row { standing = Ended } else row) && not (systems.counts_as_over s row j)) Evicted → Follows limits clocks i s (if b then record row { standing = Ended } else row) v'
      by true o g = room (ends i row (record row { standing = Ended }) && not (systems.counts_as_over s row j)) refl o g
      by false o g = subst (Follows limits clocks i s row) (sym (unmoved v v' (ends i row row && not (systems.counts_as_over s row j)) Evicted g (and_left (ends i row row) (not (systems.counts_as_over s row j)) (and_not (may_answer i row))))) f
