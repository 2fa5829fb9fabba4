-- While a server recovers, what it has heard and may still hear lies within the bound of the run; and so does what it
-- rebuilds.
use Rattle.krl_world.proofs.Names.{◌≡◌, ℕ, ◌∙◌, true, false, Option, Some, None, List, refl, sym, subst, END, RangePart, KeyPart, AllByRecursion, Value, Pieces, RangeAtMost, KeyAtMost}
use Rattle.krl_world.proofs.Names.{Link, takes_report, Logged, MaySeize, Reachable, stepped, at_link, restarts_hold, Record, Index, Rows, column, Server, is_recovering, lists, unlist, report_of}
use Rattle.krl_world.proofs.Names.{machine_phase, view, IsRecord, Shows, IsWhole, Client, ShowsPlace, Up, State, client_of, range_believed, key_believed, Bound, table_with, IsRangeWithin, IsKeyWithin}
use Rattle.krl_world.proofs.Names.{IsAwaited, IsRecoveryWithin}
use Rattle.krl_machine.specs.Links as links
use Rattle.krl_machine.specs.Tables as tables
use Rattle.krl_machine.specs.Worlds as machine
use Rattle.krl_machine.proofs.Steps.{put, put_changed}
use Rattle.krl_table.specs.Reports.{greatest_key_at, adopted, joined_range_at}
use Rattle.krl_server.specs.Soundness.{IsSound}
use Rattle.krl_refinement.proofs.Server.Meaning.{range_is, key_is}
use Rattle.krl_server.proofs.Points.{same_range, same_key}
use Rattle.krl_refinement.proofs.Server.Follows.{at_put, recovering_phase}
use Rattle.krl_server.proofs.Updates.{unlist_here, unlist_other}
use Rattle.krl_refinement.proofs.Server.Reported.{report_shown}
use Rattle.krl_server.proofs.Invariant.RowsSound.{adopted_others}
use Rattle.krl_world.proofs.Refinement.Mirrors.{machine_of, shared_of, ServerShows, Mirrors}
use Rattle.krl_world.proofs.Refinement.Reached.{HaveBound}
use Rattle.krl_world.proofs.Refinement.Serves.{place_stays}
use Rattle.krl_world.proofs.Promises.Bounded.{range_within, key_within}

-- What a client believes, if it is at most what its link has

believed_range : (c g p : ℕ) (o : Option Client) (l : Link) (r top : RangePart) → ShowsPlace c g o l → r ≡ top → RangeAtMost (l.range p) r → IsRangeWithin (range_believed o p) top
believed_range c g p None l r top h e y = refl
believed_range c g p (Some k) l r top h e y = range_within _ _ _ _ (h.1.range p) e y

believed_key : (c g p : ℕ) (o : Option Client) (l : Link) (r top : KeyPart) → ShowsPlace c g o l → r ≡ top → KeyAtMost (l.key p) r → IsKeyWithin (key_believed o p) top
believed_key c g p None l r top h e y = refl
believed_key c g p (Some k) l r top h e y = key_within _ _ _ _ (h.1.key p) e y

-- A report that is taken

-- the links then show the table with the report, the old bound and the same clients
record IsTaken (s : Server) (c : ℕ) (pieces : Pieces) (b : Bound) (old : Link) (d : ℕ) (l : Link) : Type 0 where
  client : l.client ≡ old.client
  missing : l.missing ≡ lists (unlist s.missing c) d
  range : (p : ℕ) → l.new_range p ≡ (table_with s c pieces).range_at d p
  key : (p : ℕ) → l.new_key p ≡ (table_with s c pieces).key_at d p
  top_range : (p : ℕ) → l.top_range p ≡ b.range_at d p
  top_key : (p : ℕ) → l.top_key p ≡ b.key_at d p

-- the rows are within the bound then, and at least what clients believe that are not missing
abbrev IsTakenWithin : State → Bound → Server → ℕ → Pieces → Type 0
IsTakenWithin w b s c pieces = (d p : ℕ) →
    (IsRangeWithin ((table_with s c pieces).range_at d p) (b.range_at d p) × IsKeyWithin ((table_with s c pieces).key_at d p) (b.key_at d p))
    × (lists (unlist s.missing c) d ≡ false → IsRangeWithin (range_believed (client_of w d) p) ((table_with s c pieces).range_at d p) × IsKeyWithin (key_believed (client_of w d) p) ((table_with s c pieces).key_at d p))

-- the link of the client that reports
taken_link : Server → ℕ → Pieces → Link → Link
taken_link s c pieces l = record l {
  missing = false;
  new_range = tables.range_at (view s) (column (adopted s.durable.index s.rows c pieces) c);
  new_key = tables.key_at (view s) (column (adopted s.durable.index s.rows c pieces) c);
}

links_taken : (s : Server) (of : ℕ → Link) (c : ℕ) (pieces : Pieces) (b : Bound) → HaveBound of b → Shows s of → IsSound s → machine_phase s.missing ≡ links.Recovering → (d : ℕ) → IsTaken s c pieces b (of d) d (put of c (taken_link s c pieces (of c)) d)
unfolding taken_link
links_taken s of c pieces b have h i on = at_put (λ d l. IsTaken s c pieces b (of d) d l) of c (taken_link s c pieces (of c))
    (record {
      client = refl;
      missing = sym (unlist_here s.missing c);
      range = λ p. sym (range_is index s.durable.epoch phase i.near rows c p);
      key = λ p. sym (key_is index s.durable.epoch phase i.near rows c p);
      top_range = λ p. (have c p).0;
      top_key = λ p. (have c p).1;
    })
    (λ d ne. let x = h.link d in record {
      client = refl;
      missing = x.missing ∙ sym (unlist_other s.missing c d ne);
      range = λ p. x.new_range on p ∙ same_range index s.rows rows d (adopted_others index s.rows c pieces d ne) p;
      key = λ p. x.new_key on p ∙ same_key index s.rows rows d (adopted_others index s.rows c pieces d ne) p;
      top_range = λ p. (have d p).0;
      top_key = λ p. (have d p).1;
    })
  where
    index : Index
    index = s.durable.index

    phase : links.Phase
    phase = machine_phase s.missing

    rows : Rows
    rows = adopted s.durable.index s.rows c pieces

taken_within : (first : ℕ → Option Value) (w : State) (of : ℕ → Link) (log : List Logged) (b : Bound) (s : Server) (c inc : ℕ) (pieces : Pieces) → Mirrors w of log → HaveBound of b → Shows s of → IsSound s → Reachable first END (machine_of (Up s) of log) → MaySeize (shared_of (Up s)) (of c) (report_of inc s.durable.epoch pieces) → AllByRecursion (λ x. IsWhole x.span) pieces.ranges → IsTakenWithin w b s c pieces
unfolding taken_link
taken_within first w of log b s c inc pieces m have h i reach may whole d p = (
  (range_within _ _ _ _ (sym (x.range p)) (x.top_range p) low.0, key_within _ _ _ _ (sym (x.key p)) (x.top_key p) low.1),
  λ here. let high = r.rebuilt_covers d may.recovering (x.missing ∙ here) p in
      (believed_range d (w.places d).last_incarnation p (client_of w d) (to d) _ _ place (x.range p) high.0, believed_key d (w.places d).last_incarnation p (client_of w d) (to d) _ _ place (x.key p) high.1),
)
  where
    l : Link
    l = taken_link s c pieces (of c)

    to : ℕ → Link
    to = put of c l

    after : machine.World
    after = record { shared = view s; links = to; log = log }

    step : machine.Step (machine_of (Up s) of log) after
    step = at_link c l to
        (takes_report (report_of inc s.durable.epoch pieces) _ _ may.sent may.recovering may.missing may.inc may.epoch (report_shown s.durable.index s.durable.epoch (machine_phase s.missing) i.near s.rows c inc s.durable.epoch pieces whole))
        (put_changed of c l)

    r : machine.Restarts after
    r = restarts_hold first END after (stepped (machine_of (Up s) of log) after reach step)

    x : IsTaken s c pieces b (of d) d (to d)
    x = links_taken s of c pieces b have h i may.recovering d

    low : RangeAtMost ((to d).new_range p) ((to d).top_range p) × KeyAtMost ((to d).new_key p) ((to d).top_key p)
    low = r.rebuilt d may.recovering p

    place : ShowsPlace d (w.places d).last_incarnation (client_of w d) (to d)
    place = place_stays d (w.places d).last_incarnation (client_of w d) (of d) (to d) x.client (m.places d)

-- Gathering

registered_as : (o : Option Record) (r : Record) (l : Link) → o ≡ Some r → IsRecord o l → l.reg ≡ r.incarnation
registered_as o r l e h = let x : IsRecord (Some r) l = subst (λ y. IsRecord y l) e h in x.reg

pub recovery_world : (first : ℕ → Option Value) (w : State) (of : ℕ → Link) (log : List Logged) (b : Bound) (s : Server) → Mirrors w of log → HaveBound of b → w.server ≡ Up s → Reachable first END (machine_of (Up s) of log) → is_recovering s.missing ≡ true → IsRecoveryWithin w b s
recovery_world first w of log b s m have up reach recovering = record {
  report = λ c x pieces a p. let y = r.reports c _ (may c x pieces a) p in
      (range_within _ _ _ _ refl (have c p).0 y.0, key_within _ _ _ _ refl (have c p).1 y.1);
  report_covers = λ c x k pieces awaited here own p.
      let a = place c k here in
      let y = r.covers c _ (may c x pieces awaited) (sym own ∙ sym (a.1.inc)) p in
      (subst (λ o. IsRangeWithin (range_believed o p) (joined_range_at pieces.ranges p)) (sym here) (range_within _ _ _ _ (a.1.range p) refl y.0), subst (λ o. IsKeyWithin (key_believed o p) (greatest_key_at pieces.keys p)) (sym here) (key_within _ _ _ _ (a.1.key p) refl y.1));
  row = λ c p. let y = r.rebuilt c phase p in
      (range_within _ _ _ _ (sym ((shows.link c).new_range phase p)) (have c p).0 y.0, key_within _ _ _ _ (sym ((shows.link c).new_key phase p)) (have c p).1 y.1);
  row_covers = λ c missing p. let y = r.rebuilt_covers c phase ((shows.link c).missing ∙ missing) p in
      (believed_range c (w.places c).last_incarnation p (client_of w c) (of c) _ _ (m.places c) ((shows.link c).new_range phase p) y.0, believed_key c (w.places c).last_incarnation p (client_of w c) (of c) _ _ (m.places c) ((shows.link c).new_key phase p) y.1);
  adopted = λ c x pieces awaited d p. (as_taken c x pieces awaited d p).0;
  adopted_covers = λ c x pieces awaited d missing p. (as_taken c x pieces awaited d p).1 missing;
}
  where
    r : machine.Restarts (machine_of (Up s) of log)
    r = restarts_hold first END (machine_of (Up s) of log) reach

    shown : ServerShows (Up s) of
    shown = subst (λ n. ServerShows n of) up m.server

    shows : Shows s of
    shows = shown.0

    phase : machine_phase s.missing ≡ links.Recovering
    phase = recovering_phase s.missing recovering

    may : (c : ℕ) (x : Record) (pieces : Pieces) → IsAwaited w s c x pieces → MaySeize (shared_of (Up s)) (of c) (report_of x.incarnation s.durable.epoch pieces)
    may c x pieces a = record { sent = (m.from _ a.sent).0; recovering = phase; missing = (shows.link c).missing ∙ a.missing; inc = sym (registered_as _ x (of c) a.known (shows.link c).known); epoch = refl }

    as_taken : (c : ℕ) (x : Record) (pieces : Pieces) → IsAwaited w s c x pieces → IsTakenWithin w b s c pieces
    as_taken c x pieces a = taken_within first w of log b s c x.incarnation pieces m have shown.0 shown.1 reach (may c x pieces a) (m.from _ a.sent).1

    place : (c : ℕ) (k : Client) → client_of w c ≡ Some k → ShowsPlace c (w.places c).last_incarnation (Some k) (of c)
    place c k here = subst (λ x. ShowsPlace c (w.places c).last_incarnation x (of c)) here (m.places c)
