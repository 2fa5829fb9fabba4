-- Each step of a system is at most one of the machine of leases, so what that promises holds of it.
use Rattle.std.proofs.Common.{◌≡◌, inl, inr, ℕ, List, [], ◌∷◌, ◌++◌, Some, Ok, refl, sym, ◌∙◌, ap, subst}
use Rattle.krl_leases.specs.Clocks.{Clocks, Limits, Agree}
use Rattle.krl_leases.specs.Machine as machine
use Rattle.krl_leases.specs.Machine.{Server, State, Event, Registered, Evicted}
use Rattle.krl_leases.specs.Laws.{Answers}
use Rattle.krl_leases.proofs.Sound.{ByServer, sound_begun}
use Rattle.krl_leases.proofs.Evicted as leases
use Rattle.krl_lease_table.specs.declared.standing.Standing.{Standing}
use Rattle.krl_lease_table.specs.declared.standing.Standing.TheVariants.{Absent, Present, Ended}
use Rattle.krl_lease_table.specs.declared.row.Row.{Row}
use Rattle.krl_lease_table.specs.Rows as rows
use Rattle.krl_lease_table.specs.Tables as tables
use Rattle.krl_lease_table.specs.Systems as systems
use Rattle.krl_lease_table.specs.Systems.{Call, Step, Signs, TakesTerms, Admits, Registers, Leaves, Evicts, Succeeds, Revises, Client, Calls, Goes, Runs, Starts, Happens, after, begins, with_registered}
use Rattle.krl_lease_table.specs.Laws.{EvictedAnswerNothing, server_of}
use Rattle.krl_lease_table.proofs.Waiting.{Asks, asks_goes}
use Rattle.krl_lease_table.proofs.Follows.{view, Stands, Follows, and_then, same, client}
use Rattle.krl_lease_table.proofs.Evicting.{evicts, admits}
use Rattle.krl_lease_table.proofs.Registering.{as_before, registers, succeeds}
use Rattle.krl_lease_table.proofs.Signs.{other, own, sends}
use Rattle.krl_lease_table.proofs.Replaced.{late_answers}

module _ (limits : Limits) (clocks : Clocks) (agree : Agree limits clocks) (i : ℕ) (s : Server) where
  -- Any call

  calls : (call : Call) (row : Row) (v v' : State) → Happens i clocks s row (after s row (clocks.server s.machine v.now) call) v call v' → Follows limits clocks i s row v → Asks clocks i s row v → Follows limits clocks i s (after s row (clocks.server s.machine v.now) call) v'
  calls (Signs x commits) row v v' (inl h) f a = subst (Follows limits clocks i s (rows.signed s.terms row x commits (clocks.server s.machine v.now))) (sym h.1) (other limits clocks agree i s row x commits v h.0 f)
  calls (Signs x commits) row v v' (inr h) f a = own limits clocks agree i s row x commits v v' h.0 h.1 h.2 h.3 h.5 h.6 f
  calls (TakesTerms made) row v v' h f a = sends limits clocks agree i s row made v v' h f a
  calls (Admits j) row v v' h f a = admits limits clocks i s row j v v' h f
  calls (Registers j) row v v' h f a = registers limits clocks i s row j v v' h.0 (h.1 ∙ ap (λ z. with_registered s z (begins i row (after s row (clocks.server s.machine v.now) (Registers j)))) (as_before limits clocks i s row j v (λ (r : Row). rows.registered s.terms r j (clocks.server s.machine v.now)))) f
  calls Leaves row v v' h f a = subst (Follows limits clocks i s (rows.left row)) (sym h) (same limits clocks i s row (rows.left row) v f (λ l. l) (λ u k e. tt))
  calls Evicts row v v' h f a = evicts limits clocks i s row v v' h f
  calls (Succeeds j) row v v' h f a = subst (Follows limits clocks i s (systems.unless_refused row (tables.free_if j (Ok row)) (λ (r : Row). rows.evicted r j))) (sym (h ∙ as_before limits clocks i s row j v (λ (r : Row). rows.evicted r j))) (succeeds limits clocks i s row j v f)
  calls (Revises longest old) row v v' h f a = subst (Follows limits clocks i s (tables.revised_row longest s.terms old (clocks.server s.machine v.now) row)) (sym h) (same limits clocks i s row (tables.revised_row longest s.terms old (clocks.server s.machine v.now) row) v f (λ l. l) (λ u k e. k.present e))

  goes : (step : Step) (row row' : Row) (v v' : State) → Goes limits clocks i s row v step row' v' → Follows limits clocks i s row v → Asks clocks i s row v → Follows limits clocks i s row' v'
  goes (Client e) row row' v v' g f a = subst (λ r. Follows limits clocks i s r v') (sym g.2) (client limits clocks i s agree e row v v' g.0 g.1 f)
  goes (Calls call) row row' v v' g f a =
      let h = subst (λ r. Happens i clocks s row r v call v') g.0 g.1 in
      subst (λ r. Follows limits clocks i s r v') (sym g.0) (calls call row v v' h f a)

  runs : (steps : List Step) (row row' : Row) (v v' : State) → Runs limits clocks i s row v steps row' v' → Follows limits clocks i s row v → Asks clocks i s row v → Follows limits clocks i s row' v' × Asks clocks i s row' v'
  runs [] row row' v v' r f a = subst (λ y. Follows limits clocks i s row' y × Asks clocks i s row' y) (sym r.1) (subst (λ z. Follows limits clocks i s z v × Asks clocks i s z v) (sym r.0) (f, a))
  runs (step ∷ steps) row row' v v' r f a = runs steps r.0 row' r.1 v' r.3 (goes step row r.0 v r.1 r.2 f a) (asks_goes limits clocks i s step row r.0 v r.1 r.2 a)

  nothing : (row : Row) (v : State) → Follows limits clocks i s row v → v.standing ≡ Evicted → Answers clocks v → ⊥
  nothing row v f e a = leases.evicted_answer_nothing limits clocks f.events (view limits clocks i s v f.until f.kept) agree f.run e a

  starts : (es : List Event) (e : Event) (w v : State) (row : Row) → machine.Runs limits clocks machine.begun es w → machine.Goes limits clocks w e v → v.server ≡ Some s → v ≡ view limits clocks i s v s.until v.kept → v.standing ≡ w.standing → Starts i s w row → Follows limits clocks i s row v
  starts es e w v row r g served seen standing h = record {
    until = s.until;
    kept = v.kept;
    same_kept = refl;
    events = es ++ e ∷ [];
    run = subst (machine.Runs limits clocks machine.begun (es ++ e ∷ [])) seen (and_then limits clocks i s es e machine.begun w v r g);
    shows = record {
      served = served;
      unknown = λ l. standing ∙ h.unknown l;
      present = λ q. present_as row.standing refl q;
    };
  }
    where
      present_as : (x : Standing) → row.standing ≡ x → row.registered ≡ i → Stands limits clocks i s v s.until x
      present_as Absent q k = tt
      present_as Ended q k = tt
      present_as (Present until) q k = let p = h.present k until q in (standing ∙ p.0, inl p.1)

pub evicted_answer_nothing : EvictedAnswerNothing
evicted_answer_nothing limits clocks i number terms es w row row' steps v agree h =
    let s = server_of clocks w number terms in
    let alone = subst (ByServer limits clocks w) h.alone (leases.runs limits clocks agree es machine.begun w h.before (sound_begun limits clocks)).server in
    let first = starts limits clocks agree i s es (machine.Start number terms) w (machine.started clocks w number terms) row h.before (h.alone, h.may, refl) refl refl refl h.starts in
    let last = runs limits clocks agree i s steps row row' (machine.started clocks w number terms) v h.run first (λ asked q k n. absurd (n alone.waiting)) in
    ((λ e. nothing limits clocks agree i s row' v last.0 e.0 e.1), λ n late u r. late_answers limits clocks agree i s n late row' v u last.0 last.1 r)
