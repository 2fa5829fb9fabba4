-- A host of one server is a process over a store of its own, and may be overtaken.
use Rattle.std.proofs.Common.{◌≡◌, ℕ, zero, suc, ◌+◌, ◌≤◌, Bool, true, false, Option, Some, None, [], ◌∷◌, ◌++◌, length, arith, refl, sym, ap, subst, nat_eq, if◌then◌else◌}
use Rattle.std.specs.Prelude.{take, drop}
use Rattle.std.proofs.lemmas.List.{append-nil}
use Rattle.krl_modes.specs.declared.limits.TheConstants.{STANDARD_REACH, STANDARD_ROOM}
use Rattle.krl_durable.specs.declared.limits.Limits.{Limits}
use Rattle.krl_durable.specs.Limits.{Fits, sized}
use Rattle.krl_server.specs.Steps.{start}
use Rattle.krl_world.specs.States.{Down, State}
use Rattle.krl_world.proofs.Examples.Running.{opens}
use Rattle.krl_host_laws.specs.Hosts.{Started, Host, HostWorld, stepped, notes_of, disk_of, kept}
use Rattle.krl_host_laws.specs.Hosts as host
use Rattle.krl_host_laws.proofs.Promised.{reached_shown}
use Rattle.krl_host_laws.proofs.Ahead.{w11, r11, h4, absent, present}
use Rattle.krl_fenced_hosts.specs.Processes.{Process, StoreWorld, set_process, with_host}
use Rattle.krl_fenced_hosts.specs.Processes as store
use Rattle.krl_fenced_hosts.specs.OneHost.{process_of, store_of, HostsAreProcesses, Overtakes}

-- this is the only process
abbrev only : Option Process → ℕ → Option Process
only o p = if nat_eq p 0 then o else None

again : (o x : Option Process) → set_process (only o) 0 x ≡ only x
again o x = λ t p. by_test p (nat_eq p 0) t
  where
    by_test : (p : ℕ) (b : Bool) → (if b then x else (if b then o else None)) ≡ (if b then x else None)
    by_test p true = refl
    by_test p false = refl

-- and so it is after its move
placed : (w : State) (k : ℕ) (o x : Option Process) → store.IsReached (record { world = w; mark = k; processes = set_process (only o) 0 x }) → store.IsReached (record { world = w; mark = k; processes = only x })
placed w k o x r = subst (λ f. store.IsReached (record { world = w; mark = k; processes = f })) (again o x) r

abbrev IsProcess : HostWorld → Type 0
IsProcess w = (mark : ℕ) × store.IsReached (store_of w mark)

module _ (u : HostWorld) (k : ℕ) (r : store.IsReached (store_of u k)) where
  abbrev v : StoreWorld
  v = store_of u k

  abbrev process : Host → Process
  process h = record { host = h; mark = k }

  runs : (h : Host) → u.host ≡ Some h → v.processes 0 ≡ Some (process h)
  runs h e = ap (λ o. process_of o k) e

  -- no note is kept, so nothing changes
  none_kept : (h : Host) → u.host ≡ Some h → u.world.server ≡ Down (disk_of u.world) → IsProcess (record { world = kept u.world (take 0 h.unkept); host = Some (record h { kept = h.kept + 0; unkept = drop 0 h.unkept }) })
  none_kept h e down =
      let same : h.kept ≡ h.kept + 0 = omega arith in
      let a = subst (λ o. store.IsReached (store_of (record { world = u.world; host = o }) k)) e r in
      let b = subst (λ n. store.IsReached (store_of (record { world = record u.world { server = n }; host = Some h }) k)) down a in
      let c = subst (λ ws. store.IsReached (store_of (record { world = record u.world { server = Down (disk_of u.world); writes = ws }; host = Some h }) k)) (sym (append-nil u.world.writes)) b in
      (k, subst (λ n. store.IsReached (store_of (record { world = record u.world { server = Down (disk_of u.world); writes = u.world.writes ++ [] }; host = Some (record h { kept = n }) }) k)) same c)

  some_kept : (h : Host) (n : ℕ) → u.host ≡ Some h → suc n ≤ length h.unkept → IsProcess (record { world = kept u.world (take (suc n) h.unkept); host = Some (record h { kept = h.kept + suc n; unkept = drop (suc n) h.unkept }) })
  some_kept h n e le =
      let x : Process = record { host = record h { kept = h.kept + suc n; unkept = drop (suc n) h.unkept }; mark = suc k } in
      (suc k, placed (kept u.world (take (suc n) h.unkept)) (suc k) (process_of u.host k) (Some x) (store.moved v _ r (store.keeps 0 (process h) (suc n) (runs h e) refl (omega arith) le)))

  keeps : (h : Host) (n : ℕ) → u.host ≡ Some h → n ≤ length h.unkept → u.world.server ≡ Down (disk_of u.world) → IsProcess (record { world = kept u.world (take n h.unkept); host = Some (record h { kept = h.kept + n; unkept = drop n h.unkept }) })
  keeps h zero e le down = none_kept h e down
  keeps h (suc n) e le down = some_kept h n e le

  goes : (w : HostWorld) → u.world.server ≡ Down (disk_of u.world) → host.Moves u w → IsProcess w
  goes _ down (host.acts s answer x ne t) = (k, store.moved v _ r (store.acts s answer x ne t))
  goes _ down (host.begins c n lt off less le) = (k, store.moved v _ r (store.begins c n lt off less le))
  goes _ down (host.starts l e fits can) =
      (k, placed u.world k (process_of u.host k) _ (store.moved v _ r (store.starts 0 l (ap (λ o. process_of o k) e) fits can)))
  goes _ down (host.judges h t m outs said e at step among) =
      (k, placed u.world k (process_of u.host k) _ (store.moved v _ r (store.judges 0 (process h) t m outs said (runs h e) at step among)))
  goes _ down (host.nudges h c said e lt among) =
      (k, placed u.world k (process_of u.host k) _ (store.moved v _ r (store.nudges 0 (process h) c said (runs h e) lt among)))
  goes _ down (host.keeps h n e le) = keeps h n e le down
  goes _ down (host.releases h x e i le) = (k, store.moved v _ r (store.releases 0 (process h) x (runs h e) i le))
  goes _ down (host.drops h left e among) =
      (k, placed u.world k (process_of u.host k) _ (store.moved v _ r (store.drops 0 (process h) left (runs h e) among)))
  goes _ down host.crashes = (k, placed u.world k (process_of u.host k) None (store.moved v _ r (store.crashes 0)))

pub hosts_are_processes : HostsAreProcesses
hosts_are_processes w (host.opens d can) = (1, store.opens d can)
hosts_are_processes w (host.moved u x r m) =
    let before = hosts_are_processes u r in
    goes u before.0 before.1 w (reached_shown u r).down m

-- Another process overtakes it

abbrev limits : Limits
limits = record { room = STANDARD_ROOM; reach = STANDARD_REACH }

fits : Fits limits (disk_of w11.world)
fits = record { room = opens.kept.room; reach = opens.kept.reach; entries = opens.kept.few }

mark : ℕ
mark = (hosts_are_processes w11 r11).0

before : store.IsReached (store_of w11 mark)
unfolding mark
before = (hosts_are_processes w11 r11).1

abbrev born : Host
born = record { memory = start (sized limits (disk_of w11.world)); kept = 0; unkept = Started limits ∷ []; unsent = [] }

abbrev starts : StoreWorld
starts = record (store_of w11 mark) { processes = set_process (store_of w11 mark).processes 1 (Some (record { host = born; mark = mark })) }

started : store.IsReached starts
started = store.moved (store_of w11 mark) starts before (store.starts 1 limits refl fits refl)

abbrev new : Process
new = record { host = record born { kept = 1; unkept = [] }; mark = suc mark }

abbrev after : StoreWorld
after = record { world = kept w11.world (Started limits ∷ []); mark = suc mark; processes = set_process starts.processes 1 (Some new) }

overtaken : store.IsReached after
overtaken = store.moved starts after started (store.keeps 1 (record { host = born; mark = mark }) 1 refl refl (omega arith) (omega arith))

pub overtakes : Overtakes
overtakes = record {
  after = after;
  reached = overtaken;
  old = record { host = h4; mark = mark };
  first = refl;
  new = new;
  second = refl;
  ahead = present;
  behind = absent;
  overtaken = omega arith;
  knows = refl;
  started = refl;
}
