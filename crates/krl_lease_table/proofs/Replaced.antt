-- After another server has replaced this one, what its host still sends is for signs that came before: the machine of
-- leases has sent those terms before it stopped.
use Rattle.std.proofs.Common.{◌≡◌, ◌<◌, ◌≤◌, ◌⊎◌, inl, inr, ℕ, Bool, true, false, List, [], ◌∷◌, ◌++◌, Some, None, Ok, Err, refl, sym, ◌∙◌, ap, subst, arith, ltb-true}
use Rattle.std.specs.Prelude.{nat_lt, nat_le, ◌==◌, not, ◌&&◌, is_some, if◌then◌else◌}
use Rattle.std.proofs.lemmas.Bool.{false≢true}
use Rattle.std.proofs.lemmas.Option.{none-some, same_Some}
use Rattle.krl_leases.specs.Clocks.{Clocks, Limits, Agree}
use Rattle.krl_leases.specs.Machine as machine
use Rattle.krl_leases.specs.Machine.{Server, State, Event, In}
use Rattle.krl_leases.proofs.Evicted as leases
use Rattle.krl_lease_table.specs.declared.refused.Refused.TheVariants.{NotGreater, StillAnswers}
use Rattle.krl_lease_table.specs.declared.sign.Sign.{Sign}
use Rattle.krl_lease_table.specs.declared.sign.Asked.{Asked}
use Rattle.krl_lease_table.specs.declared.standing.Standing.TheVariants.{Ended}
use Rattle.krl_lease_table.specs.declared.row.Row.{Row}
use Rattle.krl_lease_table.specs.Standings as standings
use Rattle.krl_lease_table.specs.Rows as rows
use Rattle.krl_lease_table.specs.Tables as tables
use Rattle.krl_lease_table.specs.Systems as systems
use Rattle.krl_lease_table.specs.Systems.{Call, Signs, TakesTerms, Admits, Registers, Leaves, Evicts, Succeeds, Revises, after}
use Rattle.krl_lease_table.specs.Replaced.{Elsewhere, There, is_connect, came_after, HappensLate, GoesLate, RunsLate}
use Rattle.krl_lease_table.specs.Replaced as replaced
use Rattle.krl_lease_table.specs.Laws.{AnswersIfEvicted}
use Rattle.krl_lease_table.proofs.Waiting.{Asks, given, stays}
use Rattle.krl_lease_table.proofs.Follows.{view, Follows, and_then}
use Rattle.krl_lease_table.proofs.Signs.{sound}

abbrev with_sent : List machine.Grant → State → State
with_sent sent v = record v { grants = sent }

module _ (limits : Limits) (clocks : Clocks) (agree : Agree limits clocks) (i : ℕ) (s : Server) (n : ℕ) where
  -- a sign that waits in the row, and came before the store's last commit, has its terms sent by the machine
  abbrev IsSent : Asked → List machine.Grant → List machine.Grant → Type 0
  IsSent a came sent =
      ((g : machine.Grant) → In g came → In g sent)
      × (moment : ℕ) × In (record { moment = moment; length = s.terms.length }) came × (a.stamp ≡ clocks.client moment)

  -- the machine has sent at least as much
  record Late (row : Row) (came : List machine.Grant) (v : State) : Type 0 where
    events : List Event
    sent : List machine.Grant
    run : machine.Runs limits clocks machine.begun events (with_sent sent v)
    each : (g : machine.Grant) → In g v.grants → In g sent
    lengths : (g : machine.Grant) → In g came → g.length ≡ s.terms.length
    asked : (a : Asked) → row.asked ≡ Some a → a.incarnation ≡ i → a.commits < n → (came ≡ [] → ⊥) → IsSent a came sent

  -- The machine goes on

  as_sent : (v v' : State) (sent : List machine.Grant) → v'.grants ≡ v.grants → ((g : machine.Grant) → In g v.grants → In g sent) → (g : machine.Grant) → In g v'.grants → In g sent
  as_sent v v' sent q h g m = h g (subst (In g) q m)

  more : (e : Event) (v v' : State) (sent : List machine.Grant) → machine.Goes limits clocks v e v' → ((g : machine.Grant) → In g v.grants → In g sent) → (sent' : List machine.Grant) × machine.Goes limits clocks (with_sent sent v) e (with_sent sent' v') × ((g : machine.Grant) → In g v'.grants → In g sent') × (is_connect e ≡ false → (g : machine.Grant) → In g sent → In g sent')
  more (machine.Pass k) v v' sent g h = (sent, ap (with_sent sent) g, as_sent v v' sent (ap (λ (w : State). w.grants) g) h, λ q x m. m)
  more machine.Connect v v' sent g h = ([], (g.0, g.1, ap (with_sent []) g.2), (λ x m. subst (In x) (ap (λ (w : State). w.grants) g.2) m), λ q x m. absurd (false≢true (sym q)))
  more machine.Say v v' sent g h = (sent, (g.0, ap (with_sent sent) g.1), as_sent v v' sent (ap (λ (w : State). w.grants) g.1) h, λ q x m. m)
  more (machine.Hear sign) v v' sent g h = (sent, (g.0, g.1, g.2, g.3, ap (with_sent sent) g.4), as_sent v v' sent (ap (λ (w : State). w.grants) g.4) h, λ q x m. m)
  more (machine.Confirm y) v v' sent g h = (y ∷ sent, (g.0, g.1, g.2, ap (with_sent (y ∷ sent)) g.3), (λ x m. confirmed x (subst (In x) (ap (λ (w : State). w.grants) g.3) m)), λ q x m. inr m)
    where
      confirmed : (x : machine.Grant) → In x (y ∷ v.grants) → In x (y ∷ sent)
      confirmed x (inl q) = inl q
      confirmed x (inr m) = inr (h x m)
  more (machine.Take y) v v' sent g h = (sent, (h y g.0, g.1, ap (with_sent sent) g.2), as_sent v v' sent (ap (λ (w : State). w.grants) g.2) h, λ q x m. m)
  more machine.Hello v v' sent g h = (sent, (g.0, g.1, ap (with_sent sent) g.2), as_sent v v' sent (ap (λ (w : State). w.grants) g.2) h, λ q x m. m)
  more machine.Register v v' sent g h = (sent, (g.0, g.1, g.2, g.3, ap (with_sent sent) g.4), as_sent v v' sent (ap (λ (w : State). w.grants) g.4) h, λ q x m. m)
  more machine.Stop v v' sent g h = (sent, ap (with_sent sent) g, as_sent v v' sent (ap (λ (w : State). w.grants) g) h, λ q x m. m)
  more (machine.Start m terms) v v' sent g h = (sent, (g.0, g.1, ap (with_sent sent) g.2), as_sent v v' sent (ap (λ (w : State). w.grants) g.2) h, λ q x m. m)
  more machine.Revise v v' sent g h = (sent, (g.0, g.1, ap (with_sent sent) g.2), as_sent v v' sent (ap (λ (w : State). w.grants) g.2) h, λ q x m. m)
  more machine.Evict v v' sent g h = (sent, (g.0, g.1, g.2, g.3, ap (with_sent sent) g.4), as_sent v v' sent (ap (λ (w : State). w.grants) g.4) h, λ q x m. m)

  elsewhere : (e : Event) (row : Row) (came : List machine.Grant) (v v' : State) → machine.Goes limits clocks v e v' → Late row came v → Late row (came_after e came) v'
  elsewhere e row came v v' g l = by (is_connect e) refl
    where
      r : (sent' : List machine.Grant) × machine.Goes limits clocks (with_sent l.sent v) e (with_sent sent' v') × ((x : machine.Grant) → In x v'.grants → In x sent') × (is_connect e ≡ false → (x : machine.Grant) → In x l.sent → In x sent')
      r = more e v v' l.sent g l.each

      by : (b : Bool) → is_connect e ≡ b → Late row (if b then [] else came) v'
      by true q = record {
        events = l.events ++ e ∷ [];
        sent = r.0;
        run = and_then limits clocks i s l.events e machine.begun (with_sent l.sent v) (with_sent r.0 v') l.run r.1;
        each = r.2;
        lengths = λ x m. absurd m;
        asked = λ a p k c some. absurd (some refl);
      }
      by false q = record {
        events = l.events ++ e ∷ [];
        sent = r.0;
        run = and_then limits clocks i s l.events e machine.begun (with_sent l.sent v) (with_sent r.0 v') l.run r.1;
        each = r.2;
        lengths = l.lengths;
        asked = λ a p k c some. let d = l.asked a p k c some in ((λ x m. r.3 q x (d.0 x m)), d.1, d.2, d.3);
      }

  -- The host calls the table

  with_row : (row row' : Row) (came : List machine.Grant) (v : State) → ((a : Asked) → row'.asked ≡ Some a → a.commits < n → row.asked ≡ Some a) → Late row came v → Late row' came v
  with_row row row' came v h l = record {
    events = l.events;
    sent = l.sent;
    run = l.run;
    each = l.each;
    lengths = l.lengths;
    asked = λ a q k c some. l.asked a (h a q c) k c some;
  }

  same_asked : (row row' : Row) (came : List machine.Grant) (v : State) → row'.asked ≡ row.asked → Late row came v → Late row' came v
  same_asked row row' came v p l = with_row row row' came v (λ a q c. sym p ∙ q) l

  chosen : (b : Bool) (row row' : Row) → row'.asked ≡ row.asked → (if b then row' else row).asked ≡ row.asked
  chosen true row row' p = p
  chosen false row row' p = refl

  unless : (row : Row) (j : ℕ) (f : Row → Row) → (f row).asked ≡ row.asked → (systems.unless_refused row (tables.free_if j (Ok row)) f).asked ≡ row.asked
  unless row j f p = by (nat_le j row.registered) (standings.may_answer row.standing)
    where
      by : (b c : Bool) → (systems.unless_refused row (if b then Err NotGreater else (if c then Err StillAnswers else Ok row)) f).asked ≡ row.asked
      by true c = refl
      by false true = refl
      by false false = p

  -- a sign that comes now has begun after the store's last commit
  abbrev asked_by : Sign → ℕ → Asked
  asked_by x commits = record { incarnation = x.incarnation; stamp = x.stamp; commits = commits }

  too_late : {A : Type 0} (x : Sign) (commits : ℕ) (a : Asked) → n ≤ commits → Some (asked_by x commits) ≡ Some a → a.commits < n → A
  too_late x commits a le q c =
      let e = ap (λ (y : Asked). y.commits) (same_Some (asked_by x commits) a q) in
      absurd (omega arith)

  other : (row : Row) (x : Sign) (commits now : ℕ) (came : List machine.Grant) (v : State) → n ≤ commits → Late row came v → Late (rows.signed s.terms row x commits now) came v
  other row x commits now came v le l = with_row row (rows.signed s.terms row x commits now) came v (by (rows.has_ended row x.incarnation)) l
    where
      heard : (c : Bool) (a : Asked) → (if c then row.asked else Some (asked_by x commits)) ≡ Some a → a.commits < n → row.asked ≡ Some a
      heard true a q k = q
      heard false a q k = too_late x commits a le q k

      by : (b : Bool) (a : Asked) → (if b then row else record row { standing = rows.standing_after s.terms row x now; signer = rows.signer_after row.signer x; asked = rows.asked_after row x commits }).asked ≡ Some a → a.commits < n → row.asked ≡ Some a
      by true a q k = q
      by false a q k = heard (not (row.registered == x.incarnation) && rows.serves_registered row) a q k

  own : (row : Row) (x : Sign) (commits now moment : ℕ) (came : List machine.Grant) (v : State) → n ≤ commits → x.incarnation ≡ i → rows.has_ended row i ≡ false → Late row came v → Late (rows.signed s.terms row x commits now) (record { moment = moment; length = s.terms.length } ∷ came) v
  own row x commits now moment came v le k e l = record {
    events = l.events;
    sent = l.sent;
    run = l.run;
    each = l.each;
    lengths = lengths;
    asked = λ a q o c some. absurd (by (rows.has_ended row x.incarnation) refl a q o c);
  }
    where
      lengths : (g : machine.Grant) → In g (record { moment = moment; length = s.terms.length } ∷ came) → g.length ≡ s.terms.length
      lengths g (inl q) = ap (λ (y : machine.Grant). y.length) q
      lengths g (inr m) = l.lengths g m

      heard : (c : Bool) → (not (row.registered == x.incarnation) && rows.serves_registered row) ≡ c → (a : Asked) → (if c then row.asked else Some (asked_by x commits)) ≡ Some a → a.incarnation ≡ i → a.commits < n → ⊥
      heard true c a q o m = stays limits clocks i s row x k row.asked refl c a q o
      heard false c a q o m = too_late x commits a le q m

      by : (b : Bool) → rows.has_ended row x.incarnation ≡ b → (a : Asked) → (if b then row else record row { standing = rows.standing_after s.terms row x now; signer = rows.signer_after row.signer x; asked = rows.asked_after row x commits }).asked ≡ Some a → a.incarnation ≡ i → a.commits < n → ⊥
      by true z a q o c = false≢true (sym e ∙ sym (ap (λ y. rows.has_ended row y) k) ∙ z)
      by false z a q o c = heard (not (row.registered == x.incarnation) && rows.serves_registered row) refl a q o c

  taken : (row : Row) (made : ℕ) (came : List machine.Grant) (v : State) → Late row came v → Late (rows.granted row made) came v
  taken row made came v l = with_row row (rows.granted row made) came v (by (is_some (rows.due row.asked made))) l
    where
      by : (b : Bool) (a : Asked) → (if b then record row { asked = None } else row).asked ≡ Some a → a.commits < n → row.asked ≡ Some a
      by true a q c = absurd (none-some a q)
      by false a q c = q

  sends : (row : Row) (made : ℕ) (came : List machine.Grant) (v v' : State) → made ≤ n → systems.AreSent i clocks s row made came v v' → Late row came v → Late (rows.granted row made) came v'
  unfolding taken with_row
  sends row made came v v' le (inl g) l = subst (Late (rows.granted row made) came) (sym g) (taken row made came v l)
  sends row made came v v' le (inr g) l = subst (Late (rows.granted row made) came) (sym g.7) (record {
    events = k.events;
    sent = k.sent;
    run = k.run;
    each = each;
    lengths = k.lengths;
    asked = k.asked;
  })
    where
      k : Late (rows.granted row made) came v
      k = taken row made came v l

      was_sent : In (record { moment = g.1; length = (g.0).length }) l.sent
      was_sent =
          let d = given limits clocks i s row made g.0 g.2 in
          let before = ltb-true (d.0).commits made d.5 in
          let c = l.asked d.0 d.1 (sym d.2 ∙ g.3) (omega arith) g.4 in
          let w = g.6 c.1 (s.terms.length, c.2) (d.3 ∙ c.3) in
          let e = l.lengths (record { moment = g.1; length = w.0 }) w.1 in
          subst (λ y. In (record { moment = g.1; length = y }) l.sent) (e ∙ sym d.4) (c.0 (record { moment = g.1; length = w.0 }) w.1)

      each : (x : machine.Grant) → In x (record { moment = g.1; length = (g.0).length } ∷ v.grants) → In x l.sent
      each x (inl q) = subst (λ y. In y l.sent) (sym q) was_sent
      each x (inr m) = l.each x m

  calls : (call : Call) (row : Row) (came came' : List machine.Grant) (v v' : State) → HappensLate i clocks s n row came v call came' v' → Late row came v → Late (after s row (clocks.server s.machine v.now) call) came' v'
  calls (Signs x commits) row came came' v v' h l = subst (Late (rows.signed s.terms row x commits (clocks.server s.machine v.now)) came') (sym h.1) (by (h.0).1)
    where
      by : ((x.incarnation ≡ i → rows.has_ended row i ≡ true) × (came' ≡ came)) ⊎ ((moment : ℕ) × (x.incarnation ≡ i) × (rows.has_ended row i ≡ false) × (came' ≡ record { moment = moment; length = s.terms.length } ∷ came)) → Late (rows.signed s.terms row x commits (clocks.server s.machine v.now)) came' v
      by (inl t) = subst (λ y. Late (rows.signed s.terms row x commits (clocks.server s.machine v.now)) y v) (sym t.1) (other row x commits (clocks.server s.machine v.now) came v (h.0).0 l)
      by (inr t) = subst (λ y. Late (rows.signed s.terms row x commits (clocks.server s.machine v.now)) y v) (sym t.3) (own row x commits (clocks.server s.machine v.now) t.0 came v (h.0).0 t.1 t.2 l)
  calls (TakesTerms made) row came came' v v' h l = subst (λ y. Late (rows.granted row made) y v') (sym h.1) (sends row made came v v' h.0 h.2 l)
  calls (Admits j) row came came' v v' h l = subst (λ y. Late (rows.admitted s.terms row j (clocks.server s.machine v.now)) y v') (sym h.0) (subst (Late (rows.admitted s.terms row j (clocks.server s.machine v.now)) came) (sym h.1) (same_asked row (rows.admitted s.terms row j (clocks.server s.machine v.now)) came v (chosen (nat_lt row.registered j && (standings.may_answer row.standing && rows.admits s.terms row j (clocks.server s.machine v.now))) row (record row { standing = Ended }) refl) l))
  calls (Registers j) row came came' v v' h l = subst (λ y. Late (after s row (clocks.server s.machine v.now) (Registers j)) y v') (sym h.0) (subst (Late (after s row (clocks.server s.machine v.now) (Registers j)) came) (sym h.1) (same_asked row (after s row (clocks.server s.machine v.now) (Registers j)) came v (unless row j (λ (r : Row). rows.registered s.terms r j (clocks.server s.machine v.now)) refl) l))
  calls Leaves row came came' v v' h l = subst (λ y. Late (rows.left row) y v') (sym h.0) (subst (Late (rows.left row) came) (sym h.1) (same_asked row (rows.left row) came v refl l))
  calls Evicts row came came' v v' h l = subst (λ y. Late (rows.evicting row (clocks.server s.machine v.now)) y v') (sym h.0) (subst (Late (rows.evicting row (clocks.server s.machine v.now)) came) (sym h.1) (same_asked row (rows.evicting row (clocks.server s.machine v.now)) came v (chosen (is_some (rows.successor row (clocks.server s.machine v.now))) row (record row { standing = Ended }) refl) l))
  calls (Succeeds j) row came came' v v' h l = subst (λ y. Late (after s row (clocks.server s.machine v.now) (Succeeds j)) y v') (sym h.0) (subst (Late (after s row (clocks.server s.machine v.now) (Succeeds j)) came) (sym h.1) (same_asked row (after s row (clocks.server s.machine v.now) (Succeeds j)) came v (unless row j (λ (r : Row). rows.evicted r j) refl) l))
  calls (Revises longest old) row came came' v v' h l = subst (λ y. Late (tables.revised_row longest s.terms old (clocks.server s.machine v.now) row) y v') (sym h.0) (subst (Late (tables.revised_row longest s.terms old (clocks.server s.machine v.now) row) came) (sym h.1) (same_asked row (tables.revised_row longest s.terms old (clocks.server s.machine v.now) row) came v refl l))

  goes : (step : replaced.Late) (row row' : Row) (came came' : List machine.Grant) (v v' : State) → GoesLate limits clocks i s n row came v step row' came' v' → Late row came v → Late row' came' v'
  goes (Elsewhere e) row row' came came' v v' g l = subst (λ r. Late r came' v') (sym g.1) (subst (λ y. Late row y v') (sym g.2) (elsewhere e row came v v' g.0 l))
  goes (There call) row row' came came' v v' g l = subst (λ r. Late r came' v') (sym g.0) (calls call row came came' v v' g.1 l)

  nothing : (row : Row) (came : List machine.Grant) (v : State) → Late row came v → AnswersIfEvicted clocks v → ⊥
  nothing row came v l e = leases.evicted_answer_nothing limits clocks l.events (with_sent l.sent v) agree l.run e.0 e.1

  runs : (steps : List replaced.Late) (row : Row) (came : List machine.Grant) (v u : State) → RunsLate limits clocks i s n row came v steps u → Late row came v → AnswersIfEvicted clocks u → ⊥
  runs [] row came v u r l e = nothing row came v l (subst (AnswersIfEvicted clocks) r e)
  runs (step ∷ steps) row came v u r l e = runs steps r.0 r.1 r.2 u r.4 (goes step row r.0 came r.1 v r.2 r.3 l) e

  -- The server is replaced

  sends_all : (gs : List machine.Grant) (w : State) (o : Server) (events : List Event) → machine.Runs limits clocks machine.begun events w → w.server ≡ Some o → ((g : machine.Grant) → In g gs → In g w.waiting) → (events' : List Event) × (sent : List machine.Grant) × machine.Runs limits clocks machine.begun events' (with_sent sent w) × ((g : machine.Grant) → In g gs → In g sent) × ((g : machine.Grant) → In g w.grants → In g sent)
  sends_all [] w o events r e h = (events, w.grants, r, (λ g m. absurd m), λ g m. m)
  sends_all (x ∷ gs) w o events r e h =
      let t = sends_all gs (machine.confirmed w x) o (events ++ machine.Confirm x ∷ []) (and_then limits clocks i s events (machine.Confirm x) machine.begun w (machine.confirmed w x) r (o, e, h x (inl refl), refl)) e (λ g m. h g (inr m)) in
      (t.0, t.1, t.2, (λ g m. elim m [ inl q ↦ subst (λ y. In y t.1) (sym q) (t.4 x (inl refl)) | inr k ↦ t.3 g k ]), λ g m. t.4 g (inr m))

  begins : (row : Row) (v : State) → Follows limits clocks i s row v → Asks clocks i s row v → Late row v.waiting (machine.stopped v)
  begins row v f h =
      let w = view limits clocks i s v f.until f.kept in
      let t = sends_all v.waiting w (record s { until = f.until }) f.events f.run refl (λ g m. m) in
      record {
        events = t.0 ++ machine.Stop ∷ [];
        sent = t.1;
        run = subst (λ k. machine.Runs limits clocks machine.begun (t.0 ++ machine.Stop ∷ []) (record (with_sent t.1 (machine.stopped v)) { kept = k })) f.same_kept (and_then limits clocks i s t.0 machine.Stop machine.begun (with_sent t.1 w) (machine.stopped (with_sent t.1 w)) t.2 refl);
        each = t.4;
        lengths = λ g m. (sound limits clocks agree i s row v f).waiting g m;
        asked = λ a q k c some. let d = h a q k some in (t.3, d.0, d.1, d.2);
      }

  pub late_answers : (steps : List replaced.Late) (row : Row) (v u : State) → Follows limits clocks i s row v → Asks clocks i s row v → RunsLate limits clocks i s n row v.waiting (machine.stopped v) steps u → AnswersIfEvicted clocks u → ⊥
  late_answers steps row v u f h r e = runs steps row v.waiting (machine.stopped v) u r (begins row v f h) e
