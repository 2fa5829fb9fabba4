-- When a row of the table and the machine of leases are of one history, and that the client's steps keep it so.
use Rattle.std.proofs.Common.{◌≡◌, ◌<◌, ◌≤◌, ◌⊎◌, inl, inr, ℕ, true, List, [], ◌∷◌, ◌++◌, Some, refl, sym, ◌∙◌, subst, arith, ◌+◌}
use Rattle.krl_leases.specs.declared.length.TheConstants.{FOR_EVER}
use Rattle.krl_leases.specs.declared.until.Until.{Until}
use Rattle.krl_leases.specs.declared.kept.Kept.{Kept}
use Rattle.krl_leases.specs.Lengths.{end_of}
use Rattle.krl_leases.specs.Clocks.{Clocks, Limits, Agree}
use Rattle.krl_leases.specs.Machine as machine
use Rattle.krl_leases.specs.Machine.{Server, State, Event, Unknown, Registered}
use Rattle.krl_lease_table.specs.declared.standing.Standing.{Standing}
use Rattle.krl_lease_table.specs.declared.standing.Standing.TheVariants.{Absent, Present, Ended}
use Rattle.krl_lease_table.specs.declared.row.Row.{Row}
use Rattle.krl_lease_table.specs.Systems as systems

module _ (limits : Limits) (clocks : Clocks) (i : ℕ) (s : Server) where
  -- the machine's state: the server knows until when the client may answer, and the store has what is kept
  abbrev pub view : State → Until → Kept → State
  view v u k = record v { server = Some (record s { until = u }); kept = k }

  -- the row's end is the machine's, or there is none: the host of no sign that the row knows answers for ever
  abbrev pub NoEarlier : State → Until → Until → Type 0
  NoEarlier v u x =
      (x ≡ u)
      ⊎ ((x.moment ≡ FOR_EVER) × (u.moment ≤ end_of s.terms.drift (clocks.server s.machine v.now) s.terms.length))

  abbrev pub Stands : State → Until → Standing → Type 0
  Stands v u Absent = Unit {0}
  Stands v u (Present x) = (v.standing ≡ Registered) × NoEarlier v u x
  Stands v u Ended = Unit {0}

  pub record Shows (row : Row) (v : State) (u : Until) : Type 0 where
    pub served : v.server ≡ Some s
    pub unknown : row.registered < i → v.standing ≡ Unknown
    pub present : row.registered ≡ i → Stands v u row.standing

  pub record Follows (row : Row) (v : State) : Type 0 where
    pub until : Until
    pub kept : Kept
    pub same_kept : kept ≡ v.kept
    pub events : List Event
    pub run : machine.Runs limits clocks machine.begun events (view v until kept)
    pub shows : Shows row v until

  pub and_then : (es : List Event) (e : Event) (w x y : State) → machine.Runs limits clocks w es x → machine.Goes limits clocks x e y → machine.Runs limits clocks w (es ++ e ∷ []) y
  and_then [] e w x y r g = (y, subst (λ z. machine.Goes limits clocks z e y) r g, refl)
  and_then (f ∷ es) e w x y r g = (r.0, r.1, and_then es e r.0 x y r.2 g)

  -- the row changes, and the incarnation does not
  pub same : (row row' : Row) (v : State) → Follows row v → (row'.registered < i → row.registered < i) → ((u : Until) → Shows row v u → row'.registered ≡ i → Stands v u row'.standing) → Follows row' v
  same row row' v f lower stands = record {
    until = f.until;
    kept = f.kept;
    same_kept = f.same_kept;
    events = f.events;
    run = f.run;
    shows = record {
      served = f.shows.served;
      unknown = λ l. f.shows.unknown (lower l);
      present = λ e. stands f.until f.shows e;
    };
  }

  -- one step of the machine
  pub moved : (row row' : Row) (v v' : State) (u' : Until) (k' : Kept) (e : Event) → (f : Follows row v) → machine.Goes limits clocks (view v f.until f.kept) e (view v' u' k') → Shows row' v' u' → k' ≡ v'.kept → Follows row' v'
  moved row row' v v' u' k' e f g h q = record {
    until = u';
    kept = k';
    same_kept = q;
    events = f.events ++ e ∷ [];
    run = and_then f.events e machine.begun (view v f.until f.kept) (view v' u' k') f.run g;
    shows = h;
  }

  no_earlier : (v v' : State) (u x : Until) → v'.now ≡ v.now → NoEarlier v u x → NoEarlier v' u x
  no_earlier v v' u x b (inl e) = inl e
  no_earlier v v' u x b (inr p) =
      inr (p.0, subst (λ n. u.moment ≤ end_of s.terms.drift (clocks.server s.machine n) s.terms.length) (sym b) p.1)

  stays : (v v' : State) (u : Until) (st : Standing) → v'.standing ≡ v.standing → v'.now ≡ v.now → Stands v u st → Stands v' u st
  stays v v' u Absent a b h = tt
  stays v v' u Ended a b h = tt
  stays v v' u (Present x) a b h = (a ∙ h.0, no_earlier v v' u x b h.1)

  pub shown : (row : Row) (v v' : State) (u : Until) → v'.server ≡ v.server → v'.standing ≡ v.standing → v'.now ≡ v.now → Shows row v u → Shows row v' u
  shown row v v' u a b c h = record {
    served = a ∙ h.served;
    unknown = λ l. b ∙ h.unknown l;
    present = λ e. stays v v' u row.standing b c (h.present e);
  }

  -- The client's steps

  passed : Agree limits clocks → (n : ℕ) (v : State) (u x : Until) → NoEarlier v u x → NoEarlier (record v { now = v.now + n }) u x
  passed agree n v u x (inl e) = inl e
  passed agree n v u x (inr p) =
      let le : v.now ≤ v.now + n = omega arith in
      let c = agree.rises s.machine v.now (v.now + n) le in
      let b = p.1 in
      inr (p.0, omega arith)

  later_end : Agree limits clocks → (n : ℕ) (v : State) (u : Until) (st : Standing) → Stands v u st → Stands (record v { now = v.now + n }) u st
  later_end agree n v u Absent h = tt
  later_end agree n v u Ended h = tt
  later_end agree n v u (Present x) h = (h.0, passed agree n v u x h.1)

  pub client : Agree limits clocks → (e : Event) (row : Row) (v v' : State) → systems.IsClients e → machine.Goes limits clocks v e v' → Follows row v → Follows row v'
  client agree (machine.Pass n) row v v' p g f = subst (Follows row) (sym g) (
      moved row row v (record v { now = v.now + n }) f.until f.kept (machine.Pass n) f refl (record {
        served = f.shows.served;
        unknown = f.shows.unknown;
        present = λ e. later_end agree n v f.until row.standing (f.shows.present e);
      }) f.same_kept)
  client agree machine.Connect row v v' p g f = subst (Follows row) (sym g.2) (
      moved row row v (machine.connected v) f.until f.kept machine.Connect f (record s { until = f.until }, refl, refl)
      (shown row v (machine.connected v) f.until refl refl refl f.shows) f.same_kept)
  client agree machine.Say row v v' p g f = subst (Follows row) (sym g.1) (
      moved row row v (machine.said v) f.until f.kept machine.Say f (g.0, refl)
      (shown row v (machine.said v) f.until refl refl refl f.shows) f.same_kept)
  client agree (machine.Take t) row v v' p g f = subst (Follows row) (sym g.2) (
      moved row row v (machine.taken clocks v t) f.until f.kept (machine.Take t) f (g.0, g.1, refl)
      (shown row v (machine.taken clocks v t) f.until refl refl refl f.shows) f.same_kept)
  client agree machine.Hello row v v' p g f = subst (Follows row) (sym g.2) (
      moved row row v (record v { says_hello = true }) f.until f.kept machine.Hello f (g.0, g.1, refl)
      (shown row v (record v { says_hello = true }) f.until refl refl refl f.shows) f.same_kept)
  client agree (machine.Hear x) row v v' p g f = absurd p
  client agree (machine.Confirm x) row v v' p g f = absurd p
  client agree machine.Register row v v' p g f = absurd p
  client agree machine.Stop row v v' p g f = absurd p
  client agree (machine.Start n t) row v v' p g f = absurd p
  client agree machine.Revise row v v' p g f = absurd p
  client agree machine.Evict row v v' p g f = absurd p
