-- The rows of an old server's table in the machine: what a push states of them, and how they change.
use Rattle.krl_failover.proofs.Refinement.Names.{◌≡◌, ◌≢◌, ℕ, ◌<◌, ◌≤◌, not, Some, List, [], ◌∷◌, refl, sym, ap, subst, ◌∙◌, arith, AllByRecursion, END, key_of}
use Rattle.krl_failover.proofs.Refinement.Names.{RangePart, KeyPart, Value, Option, In, Waiter, Rows, mode_at, column, range_at, key_at, Said, Shared, Link, MaySay, IsSlot, Server, Session, silent, with_rows, IsSound}
use Rattle.krl_failover.proofs.Refinement.Names.{put, put_changed, eq_cases, is_some, WasSent, Kept, Fenced, IsHere, seen_by, FencedStep, stays_so, on_then, IsHeardBy, BoundIs, ShowsOld}
use Rattle.std.specs.FinMap as map
use Rattle.krl_modes.specs.Weights.{rank}
use Rattle.krl_modes.specs.declared.part.KeyPart.TheVariants as key
use Rattle.krl_messages.specs.declared.to_client.ToClientBody.TheVariants as told
use Rattle.krl_machine.specs.Links as links
use Rattle.krl_machine.specs.Holdings.{said_at, said_by}
use Rattle.krl_machine.specs.Tables as machine
use Rattle.krl_machine.proofs.Holdings.{slot_holding, said_each}
use Rattle.krl_machine.proofs.Refines as refines
use Rattle.krl_server.specs.Effects.{shown, holding, holdings}
use Rattle.krl_server.proofs.Slots.{span_here}
use Rattle.krl_server.proofs.Points.{same_range, same_key}
use Rattle.krl_refinement.proofs.Server.Meaning.{seen_in, range_is, key_is}
use Rattle.krl_failover.proofs.Refinement.Beside.{became, Moved, moved_beside, moved_shows}
use Rattle.krl_failover.proofs.Refinement.OldMoves.{Goes}

-- the points as the server sees them in its index are those as the machine has them
pub seen_is : (s : Server) (f : Fenced) → f.world.shared.end ≡ END → ShowsOld s f → seen_in s.durable.index f.world.shared.epoch f.world.shared.phase ≡ seen_by f s.durable.epoch
seen_is s f far h =
    let index = sym h.copy in
    let end = sym far in
    λ t. record { epoch = f.world.shared.epoch; phase = f.world.shared.phase; index = index t; end = end t }

-- the row of a client that is here is that of its column
pub column_shows : (s : Server) (i : IsSound s) (epoch c : ℕ) (phase : links.Phase) (l : Link) (z : Kept) → BoundIs l z (range_at s.durable.index s.rows c) (key_at s.durable.index s.rows c) → IsHere l z → refines.Shows (seen_in s.durable.index epoch phase) l (column s.rows c)
column_shows s i epoch c phase l z k here = record {
  range = λ q. (k.here here q).0 ∙ range_is s.durable.index epoch phase i.near s.rows c q;
  key = λ q. (k.here here q).1 ∙ key_is s.durable.index epoch phase i.near s.rows c q;
}

entry_shown : (o : Option Value) (k : KeyPart) → 1 ≤ rank k → o ≡ shown k o
entry_shown o key.N h = absurd (omega (arith, h))
entry_shown o key.S h = refl
entry_shown o key.U h = refl
entry_shown o key.X h = refl

-- what the client holds on slots is what a push may state
module _ (s : Server) (i : IsSound s) (c : ℕ) (l : Link) (epoch : ℕ) (phase : links.Phase) (k : refines.Shows (seen_in s.durable.index epoch phase) l (column s.rows c)) where
  abbrev seen : Shared
  seen = seen_in s.durable.index epoch phase

  each_says : (ns : List ℕ) → AllByRecursion (λ n. (n ≤ END) × IsSlot seen n) ns → AllByRecursion (λ h. (q : ℕ) → h.span.lo ≤ q → q < h.span.hi → MaySay seen l q (said_at h q)) (holdings s c ns)
  each_says [] slots = tt
  each_says (n ∷ ns) slots = (
    slot_holding seen l (column s.rows c) i.near k n slots.0.1 (holding s n c) refl refl
        (λ q low up. (span_here s.durable.index i.near n q slots.0.0).1 (low, omega (arith, up)))
        (λ far r. entry_shown (map.get s.durable.index n) (key_of (mode_at s.rows n c)) r),
    each_says ns slots.1,
  )

  pub may_say : (ns : List ℕ) → AllByRecursion (λ n. (n ≤ END) × IsSlot seen n) ns → (q : ℕ) (t : Said) → said_by (holdings s c ns) q ≡ Some t → MaySay seen l q t
  may_say ns slots = said_each (MaySay seen l) (holdings s c ns) (each_says ns slots)

pub holdings_said : (s : Server) (f : Fenced) (c : ℕ) → IsSound s → f.world.shared.end ≡ END → ShowsOld s f → s.durable.epoch ≡ f.bound → IsHere (f.world.links c) (f.old s.durable.epoch c) → (ns : List ℕ) → AllByRecursion (λ n. (n ≤ END) × IsSlot (seen_in s.durable.index f.world.shared.epoch f.world.shared.phase) n) ns → (q : ℕ) (t : Said) → said_by (holdings s c ns) q ≡ Some t → MaySay (seen_by f s.durable.epoch) (f.world.links c) q t
holdings_said s f c i far h is here ns slots q t e =
    subst (λ x. MaySay x (f.world.links c) q t) (seen_is s f far h)
    (may_say s i c (f.world.links c) f.world.shared.epoch f.world.shared.phase (column_shows s i f.world.shared.epoch c f.world.shared.phase (f.world.links c) (f.old s.durable.epoch c) (h.rows is c) here) ns slots q t e)

-- Rows that the machine does not look at, or that are the same at each point

-- the modes are as they were
abbrev pub SameModes : Rows → Rows → Type 0
SameModes rows to = (d n : ℕ) → mode_at rows n d ≡ mode_at to n d

pub superseded_rows : (s : Server) (rows : Rows) (f : Fenced) → s.durable.epoch < f.bound → ((n : ℕ) (u : Waiter) → In u (rows n).queue → IsHeardBy s.durable.epoch (f.world.links u.client) (f.old s.durable.epoch u.client)) → ShowsOld s f → ShowsOld (became s rows s.sessions) f
superseded_rows s rows f low heard h = record {
  old = h.old;
  copy = h.copy;
  link = h.link;
  heard = heard;
  serves = h.serves;
  rows = λ is. absurd (omega (arith, low, is));
  recovers = h.recovers;
  rebuilds = λ lt. absurd (omega (arith, low, lt));
}

-- the modes are as they were, and of each session what the machine sees
pub same_shows : (s : Server) (rows : Rows) (sessions : ℕ → Session) (f : Fenced) → SameModes s.rows rows → ((d : ℕ) → ((sessions d).last_push ≡ (s.sessions d).last_push) × ((sessions d).unacked ≡ (s.sessions d).unacked)) → ((n : ℕ) (u : Waiter) → In u (rows n).queue → IsHeardBy s.durable.epoch (f.world.links u.client) (f.old s.durable.epoch u.client)) → ShowsOld s f → ShowsOld (became s rows sessions) f
same_shows s rows sessions f same alike heard h =
    let e = s.durable.epoch in
    let m = s.durable.index in
    record {
      old = h.old;
      copy = h.copy;
      link = λ d. let k = h.link d in let x = alike d in record {
        known = k.known;
        last = k.last ∙ sym x.0;
        acked = k.acked ∙ ap (λ o. not (is_some o)) (sym x.1);
        unacked = λ body is. subst (λ n. WasSent (f.world.links d) (f.old e d).reg (told.Push e n body)) (sym x.0) (k.unacked body (sym x.1 ∙ is));
      };
      heard = heard;
      serves = h.serves;
      rows = λ is d. let r = h.rows is d in let er = same_range m s.rows rows d (same d) in let ek = same_key m s.rows rows d (same d) in
          record { here = λ x q. ((r.here x q).0 ∙ er q, (r.here x q).1 ∙ ek q); gone = r.gone };
      recovers = h.recovers;
      rebuilds = λ lt d. let r = h.rebuilds lt d in let er = same_range m s.rows rows d (same d) in let ek = same_key m s.rows rows d (same d) in
          record { missing = r.missing; new = λ q. ((r.new q).0 ∙ er q, (r.new q).1 ∙ ek q); gone = r.gone };
    }

-- The row of one client changes in the table that is the bound

-- of one that is gone the machine has no row
pub gone_rows : (s : Server) (rows : Rows) (f : Fenced) (c : ℕ) → s.durable.epoch ≡ f.bound → (IsHere (f.world.links c) (f.old s.durable.epoch c) → ⊥) → ((d : ℕ) → d ≢ c → (n : ℕ) → mode_at s.rows n d ≡ mode_at rows n d) → ((n : ℕ) (u : Waiter) → In u (rows n).queue → IsHeardBy s.durable.epoch (f.world.links u.client) (f.old s.durable.epoch u.client)) → ShowsOld s f → ShowsOld (became s rows s.sessions) f
gone_rows s rows f c bound out rest heard h =
    let m = s.durable.index in
    record {
      old = h.old;
      copy = h.copy;
      link = h.link;
      heard = heard;
      serves = h.serves;
      rows = λ is d. let r = h.rows is d in eq_cases d c
          (λ same. record { here = λ x. absurd (out (subst (λ y. IsHere (f.world.links y) (f.old s.durable.epoch y)) same x)); gone = r.gone })
          (λ ne. record { here = λ x q. ((r.here x q).0 ∙ same_range m s.rows rows d (rest d ne) q, (r.here x q).1 ∙ same_key m s.rows rows d (rest d ne) q); gone = r.gone });
      recovers = h.recovers;
      rebuilds = λ lt. absurd (omega (arith, bound, lt));
    }

-- the machine has this row of c then
abbrev pub with_row : Fenced → ℕ → (ℕ → RangePart) → (ℕ → KeyPart) → Fenced
with_row f c range key = record f { world = record f.world { links = put f.world.links c (record (f.world.links c) { top_range = range; top_key = key }) } }

-- and of one that is here it takes a step
pub here_rows : (s : Server) (rows : Rows) (f : Fenced) (c : ℕ) → IsSound s → s.durable.epoch ≡ f.bound → IsHere (f.world.links c) (f.old s.durable.epoch c) → ((d : ℕ) → d ≢ c → (n : ℕ) → mode_at s.rows n d ≡ mode_at rows n d) → ((n : ℕ) (u : Waiter) → In u (rows n).queue → IsHeardBy s.durable.epoch (f.world.links u.client) (f.old s.durable.epoch u.client)) → FencedStep f (with_row f c (machine.range_at (seen_in s.durable.index f.world.shared.epoch f.world.shared.phase) (column rows c)) (machine.key_at (seen_in s.durable.index f.world.shared.epoch f.world.shared.phase) (column rows c))) → ShowsOld s f → Goes s f (silent (with_rows s rows))
here_rows s rows f c i is here rest heard step h =
    let e = s.durable.epoch in
    let m = s.durable.index in
    let seen = seen_in m f.world.shared.epoch f.world.shared.phase in
    let range = machine.range_at seen (column rows c) in
    let key = machine.key_at seen (column rows c) in
    let z = f.old e c in
    let l : Link = record (f.world.links c) { top_range = range; top_key = key } in
    let g = with_row f c range key in
    let k = h.link c in
    let mv : Moved e c l z f g = record { shared = refl; log = refl; links = put_changed f.world.links c l; old = record { here = refl; rest = λ x d ne. refl }; copy = refl; bound = refl } in
    let b = moved_beside e c l z f g mv (record { client = refl; part = refl; grows = record { hellos = λ x a. a; byes = λ x a. a; heads = λ x a. a; releases = λ x a. a; writes = λ x a. a; reports = λ x a. a; notices = λ x a. a; pushes = λ x a. a }; reg = refl; still = λ ne. absurd (ne is); gone = λ out. absurd (out here) }) in
    record {
      fenced = g;
      steps = on_then stays_so step;
      beside = b;
      shows = moved_shows s rows s.sessions f g c l z mv b h
          (record {
            count = record { known = k.known; last = k.last; acked = k.acked; unacked = k.unacked };
            bound = λ now. record {
              here = λ x q. (sym (range_is m f.world.shared.epoch f.world.shared.phase i.near rows c q), sym (key_is m f.world.shared.epoch f.world.shared.phase i.near rows c q));
              gone = λ out. absurd (out here);
            };
            rebuilt = λ lt. absurd (omega (arith, is, lt));
          })
          (record {
            count = λ d ne. h.link d;
            bound = λ now d ne. let r = h.rows now d in record { here = λ x q. ((r.here x q).0 ∙ same_range m s.rows rows d (rest d ne) q, (r.here x q).1 ∙ same_key m s.rows rows d (rest d ne) q); gone = r.gone };
            rebuilt = λ lt. absurd (omega (arith, is, lt));
          })
          heard;
      sent = λ o y. absurd y;
    }
