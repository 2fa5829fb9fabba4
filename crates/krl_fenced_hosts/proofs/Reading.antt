-- What a process has read is what the store has after the notes that waited then.
use Rattle.std.proofs.Common.{◌≡◌, ℕ, ◌+◌, ◌≤◌, ◌∙◌, Some, List, [], ◌++◌, length, arith, refl, sym, ap, subst}
use Rattle.std.specs.Prelude.{take, drop}
use Rattle.std.proofs.lemmas.List.{append-nil, length-append, length-drop, take-append-le}
use Rattle.std.proofs.lemmas.Option.{none-some, same_Some}
use Rattle.krl_durable.specs.Registers.{Durable}
use Rattle.krl_server.specs.Servers.{Server}
use Rattle.krl_world.specs.States.{State}
use Rattle.krl_host_laws.specs.Hosts.{Note, disk_of, all_noted}
use Rattle.krl_host_laws.proofs.Clients.{Acted, acted, rests, sits}
use Rattle.krl_host_laws.proofs.Notes.{take_in_two, noted_both}
use Rattle.krl_fenced_hosts.specs.Processes.{Process, StoreWorld, set_process, Moves, acts, begins, starts, judges, nudges, keeps, releases, drops, crashes, IsReached, moved}
use Rattle.krl_fenced_hosts.specs.Reads.{RunsOn, reads, goes_on, ReadsAreStored}
use Rattle.krl_fenced_hosts.proofs.Scenes.{Shown, process_cases, without}
use Rattle.krl_fenced_hosts.proofs.Promised.{reached_shown}

-- What a move does to a process that runs before it and after it

-- transactions are counted, and only they change the disk
record Counts (v w : StoreWorld) : Type 0 where
  up : v.mark ≤ w.mark
  same : w.mark ≡ v.mark → disk_of w.world ≡ disk_of v.world

-- it may have noted more
record Notes (v w : StoreWorld) (y z : Process) : Type 0 where
  mark : z.mark ≡ y.mark
  kept : z.host.kept ≡ y.host.kept
  more : List Note
  unkept : z.host.unkept ≡ y.host.unkept ++ more
  counts : Counts v w

-- the store has taken a transaction of it
record Commits (v w : StoreWorld) (y z : Process) : Type 0 where
  current : y.mark ≡ v.mark
  n : ℕ
  few : n ≤ length y.host.unkept
  kept : z.host.kept ≡ y.host.kept + n
  unkept : z.host.unkept ≡ drop n y.host.unkept
  disk : disk_of w.world ≡ all_noted (take n y.host.unkept) (disk_of v.world)

data Goes (v w : StoreWorld) (y z : Process) : Type 0 where
  notes : Notes v w y z → Goes v w y z
  commits : Commits v w y z → Goes v w y z

disk_rests : (u v : State) → Acted u v → disk_of v ≡ disk_of u
disk_rests u _ rests = refl
disk_rests u _ (sits c x ms go) = refl

module _ (v w : StoreWorld) (p : ℕ) (y : Process) (at : v.processes p ≡ Some y) where
  stays : Counts v w → (z : Process) → v.processes p ≡ Some z → Goes v w y z
  stays counts z is = subst (Goes v w y) (same_Some y z (sym at ∙ is)) (notes (record {
    mark = refl;
    kept = refl;
    more = [];
    unkept = sym (append-nil y.host.unkept);
    counts = counts;
  }))

  -- a process q becomes x
  becomes : (q : ℕ) (x : Process) → Counts v w → (q ≡ p → Goes v w y x) → (z : Process) → set_process v.processes q (Some x) p ≡ Some z → Goes v w y z
  becomes q x counts here z is = process_cases (λ r a. r ≡ p → Goes v w y a) v.processes q x here (λ r a ne was e. stays counts a (subst (λ i. v.processes i ≡ Some a) e was)) p z is refl

  -- which was b
  from : (q : ℕ) (b x : Process) → v.processes q ≡ Some b → Goes v w b x → q ≡ p → Goes v w y x
  from q b x is goes e = subst (λ a. Goes v w a x) (same_Some b y (sym is ∙ ap (λ r. v.processes r) e ∙ at)) goes

unchanged : (v w : StoreWorld) → w.mark ≡ v.mark → disk_of w.world ≡ disk_of v.world → Counts v w
unchanged v w mark disk = record { up = omega (arith, mark); same = λ e. disk }

goes : (v w : StoreWorld) → Moves v w → Shown v → (p : ℕ) (y z : Process) → v.processes p ≡ Some y → w.processes p ≡ Some z → Goes v w y z
goes v w (acts s answer u ne t) h p y z at is = stays v w p y at (unchanged v w refl (disk_rests v.world u (acted v.world u (disk_of v.world) s answer h.down ne t))) z is
goes v w (begins c n lt off less le) h p y z at is = stays v w p y at (unchanged v w refl refl) z is
goes v w (starts q l off fits can) h p y z at is = becomes v w p y at q _ (unchanged v w refl refl) (λ e. absurd (none-some y (sym off ∙ ap (λ r. v.processes r) e ∙ at))) z is
goes v w (judges q x t m outs said was i step among) h p y z at is = becomes v w p y at q _ (unchanged v w refl refl) (from v w p y at q x _ was (notes (record { mark = refl; kept = refl; more = _; unkept = refl; counts = unchanged v w refl refl }))) z is
goes v w (nudges q x c said was lt among) h p y z at is = becomes v w p y at q _ (unchanged v w refl refl) (from v w p y at q x _ was (notes (record { mark = refl; kept = refl; more = _; unkept = refl; counts = unchanged v w refl refl }))) z is
goes v w (keeps q x n was current some le) h p y z at is = becomes v w p y at q _ (record { up = omega arith; same = λ e. absurd (let no : ⊥ = omega (arith, e) in no) }) (from v w p y at q x _ was (commits (record { current = current; n = n; few = le; kept = refl; unkept = refl; disk = refl }))) z is
goes v w (releases q x m was i le) h p y z at is = stays v w p y at (unchanged v w refl refl) z is
goes v w (drops q x left was among) h p y z at is = becomes v w p y at q _ (unchanged v w refl refl) (from v w p y at q x _ was (notes (record { mark = refl; kept = refl; more = []; unkept = sym (append-nil x.host.unkept); counts = unchanged v w refl refl }))) z is
goes v w (crashes q) h p y z at is = stays v w p y at (unchanged v w refl refl) z (without v.processes q p z is)

-- From a read on

-- all that a process has noted
abbrev noted_so_far : Process → ℕ
noted_so_far y = y.host.kept + length y.host.unkept

record Stands (x : Process) (w : StoreWorld) (y : Process) : Type 0 where
  reached : IsReached w
  more : noted_so_far x ≤ noted_so_far y
  stored : y.mark ≡ w.mark → (n : ℕ) → y.host.kept + n ≡ noted_so_far x → all_noted (take n y.host.unkept) (disk_of w.world) ≡ x.host.memory.durable

runs : (p : ℕ) (x : Process) (u w : StoreWorld) (y : Process) → RunsOn p x u w y → w.processes p ≡ Some y
runs p x u _ _ (reads is) = is
runs p x u _ _ (goes_on v w y z before move is) = is

-- it reads
at_first : (p : ℕ) (x : Process) (u : StoreWorld) → IsReached u → u.processes p ≡ Some x → Stands x u x
at_first p x u r is = record {
  reached = r;
  more = omega arith;
  stored = λ current n e.
      let h = reached_shown u r in
      let begun = (h.base.each p x is).begun in
      let a = h.ahead p x is current n (omega (arith, e)) in
      sym a.scene.durable ∙ ap (λ (s : Server). s.durable) (a.leads (omega (arith, e)) (omega (arith, e, begun)));
}

module _ (p : ℕ) (x : Process) (v w : StoreWorld) (y z : Process) (at : v.processes p ≡ Some y) (move : Moves v w) (s : Stands x v y) where
  next : Goes v w y z → Stands x w z
  next (notes g) =
      let kept = g.kept in
      let fewer = s.more in
      let all = ap (λ (l : List Note). length l) g.unkept ∙ length-append y.host.unkept g.more in
      record {
        reached = moved v w s.reached move;
        more = omega (arith, kept, fewer, all);
        stored = λ current n e.
            let behind = (reached_shown v s.reached).marks p y at in
            let mark = g.mark in
            let up = g.counts.up in
            let same : w.mark ≡ v.mark = omega (arith, behind, mark, up, current) in
            let known : y.mark ≡ v.mark = omega (arith, behind, mark, up, current) in
            ap (λ (l : List Note). all_noted (take n l) (disk_of w.world)) g.unkept
            ∙ ap (λ (l : List Note). all_noted l (disk_of w.world)) (take-append-le n y.host.unkept g.more (omega (arith, kept, fewer, e)))
            ∙ ap (λ (d : Durable). all_noted (take n y.host.unkept) d) (g.counts.same same)
            ∙ s.stored known n (omega (arith, kept, e));
      }
  next (commits g) =
      let kept = g.kept in
      let fewer = s.more in
      let few = g.few in
      let all = ap (λ (l : List Note). length l) g.unkept ∙ length-drop g.n y.host.unkept in
      record {
        reached = moved v w s.reached move;
        more = omega (arith, kept, fewer, few, all);
        stored = λ current n e.
            ap (λ (l : List Note). all_noted (take n l) (disk_of w.world)) g.unkept
            ∙ ap (λ (d : Durable). all_noted (take n (drop g.n y.host.unkept)) d) g.disk
            ∙ sym (noted_both (take g.n y.host.unkept) (take n (drop g.n y.host.unkept)) (disk_of v.world))
            ∙ ap (λ (l : List Note). all_noted l (disk_of v.world)) (sym (take_in_two g.n n (g.n + n) y.host.unkept refl))
            ∙ s.stored g.current (g.n + n) (omega (arith, kept, e));
      }

stands : (p : ℕ) (x : Process) (u w : StoreWorld) (y : Process) → IsReached u → RunsOn p x u w y → Stands x w y
stands p x u _ _ r (reads is) = at_first p x u r is
stands p x u _ _ r (goes_on v w y z before move is) =
    let at = runs p x u v y before in
    let s = stands p x u v y r before in
    next p x v w y z at move s (goes v w move (reached_shown v s.reached) p y z at is)

pub reads_are_stored : ReadsAreStored
reads_are_stored p u w x y n r on current e = ap (λ (d : Durable). d.index) ((stands p x u w y r on).stored current n e)
