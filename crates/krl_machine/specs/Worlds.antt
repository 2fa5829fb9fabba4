-- The world: a link for each client number, and what the links share. A step of the world is a step of one link, or
-- one of the few below that touch more. Below the steps stands what is promised of every reachable world.
use Rattle.std.specs.Prelude.{◌≡◌, ◌≢◌, ℕ, zero, suc, ◌+◌, ◌≤◌, ◌<◌, Bool, true, false, Option, Some, None, List, [], ◌∷◌, ◌⊎◌, if◌then◌else◌, ◌==◌}
use Rattle.krl_modes.specs.declared.part.RangePart.{RangePart}
use Rattle.krl_modes.specs.declared.part.RangePart.TheVariants as range
use Rattle.krl_modes.specs.declared.part.KeyPart.{KeyPart}
use Rattle.krl_modes.specs.declared.part.KeyPart.TheVariants as key
use Rattle.krl_messages.specs.Values.{Value}
use Rattle.krl_messages.specs.Members.{In}
use Rattle.krl_modes.specs.Weights.{reads, inserts, rank}
use Rattle.krl_machine.specs.Modes.{RangeAtMost, KeyAtMost, RangesAgree, KeysAgree}
use Rattle.krl_machine.specs.Links.{Down, Recovering, Serving, Op, Insert, Put, Delete, op_key, Head, Notice, Said, Push, Release, Write, Wrote, Report, Shared, Link, LinkStep, IsLive, Passes, IsRow, IsRebuilt, no_range, no_key}

-- an entry of the list of applied writes
pub record Logged : Type 0 where
  pub client : ℕ
  pub wrote : Wrote

pub record World : Type 0 where
  pub shared : Shared
  pub links : ℕ → Link
  pub log : List Logged  -- the writes that were Applied, the last first

-- The steps

-- the link of c is now l, and every other link is as before
pub record Changed (old new : ℕ → Link) (c : ℕ) (l : Link) : Type 0 where
  pub here : new c ≡ l
  pub rest : (d : ℕ) → d ≢ c → new d ≡ old d

-- what a write that is Applied needs, and what it makes of the index and of the key parts of the writer's row
pub data Applies (s : Shared) (l : Link) (index : ℕ → Option Value) (keys : ℕ → KeyPart) : Op → Type 0 where
  -- the key is absent, and the writer may insert into its gap: it comes to hold X on the new key
  inserted : (k : ℕ) (v : Value) → k < s.end → s.index k ≡ None → inserts (l.top_range k) ≡ 1 →
      index k ≡ Some v → ((q : ℕ) → q ≢ k → index q ≡ s.index q) → keys k ≡ key.X →
      ((q : ℕ) → q ≢ k → keys q ≡ l.top_key q) →
      Applies s l index keys (Insert k v)
  -- the key is present, and the writer holds X on it
  replaced : (k : ℕ) (v u : Value) → k < s.end → s.index k ≡ Some u → l.top_key k ≡ key.X →
      index k ≡ Some v → ((q : ℕ) → q ≢ k → index q ≡ s.index q) → ((q : ℕ) → keys q ≡ l.top_key q) →
      Applies s l index keys (Put k v)
  -- the key is present, and the writer holds X on it and on the gaps at both of its sides
  deleted : (k : ℕ) (u : Value) → k < s.end → s.index k ≡ Some u → l.top_key k ≡ key.X → l.top_range k ≡ range.X →
      l.top_range (suc k) ≡ range.X →
      index k ≡ None → ((q : ℕ) → q ≢ k → index q ≡ s.index q) → ((q : ℕ) → keys q ≡ l.top_key q) →
      Applies s l index keys (Delete k)

-- the client is missing after a start unless it left or was never registered
abbrev pub IsMissing : Link → Bool → Type 0
IsMissing l missing = missing ≡ false → (l.left ≡ true) ⊎ (l.reg ≡ 0)

abbrev pub wrote_by : Link → Write → Wrote
wrote_by l m = record { inc = l.reg; number = suc l.done; op = m.op }

pub data Step (w : World) : World → Type 0 where
  -- a step of the client c, or of the server on its link only
  at_link : (c : ℕ) (l : Link) (links : ℕ → Link) →
      LinkStep w.shared (w.links c) l → Changed w.links links c l →
      Step w (record w { links = links })
  -- a grant raises the row of c to one that agrees with the rows of all others. The push that reports it is a step of
  -- the link
  raises : (c : ℕ) (range : ℕ → RangePart) (key : ℕ → KeyPart) (links : ℕ → Link) →
      w.shared.phase ≡ Serving → IsRow w.shared range key →
      ((q : ℕ) → RangeAtMost ((w.links c).top_range q) (range q) × KeyAtMost ((w.links c).top_key q) (key q)) →
      ((d : ℕ) → d ≢ c → (q : ℕ) →
      RangesAgree (range q) ((w.links d).top_range q) × KeysAgree (key q) ((w.links d).top_key q)) →
      Changed w.links links c (record (w.links c) { top_range = range; top_key = key }) →
      Step w (record w { links = links })
  -- the next write of c is judged and Applied: the index, the table and the durable record change in one step
  applies : (c : ℕ) (m : Write) (index : ℕ → Option Value) (key : ℕ → KeyPart) (links : ℕ → Link) →
      In m (w.links c).writes → Passes w.shared (w.links c) m.head → (w.links c).acked ≡ true →
      m.number ≡ suc (w.links c).done →
      Applies w.shared (w.links c) index key m.op →
      Changed w.links links c (record (w.links c) {
        done = suc (w.links c).done;
        applied = true;
        wrote = wrote_by (w.links c) m ∷ (w.links c).wrote;
        top_key = key;
      }) →
      Step w (record {
        shared = record w.shared { index = index };
        links = links;
        log = record { client = c; wrote = wrote_by (w.links c) m } ∷ w.log;
      })
  -- the server crashes: the epoch, the index and the durable records stay
  crash : w.shared.phase ≢ Down →
      Step w (record { shared = record w.shared { phase = Down }; links = w.links; log = w.log })
  -- it starts again in the next epoch, with blank rows, and waits for the reports of the missing
  start : (missing : ℕ → Bool) → w.shared.phase ≡ Down → ((c : ℕ) → IsMissing (w.links c) (missing c)) →
      Step w (record {
        shared = record w.shared { epoch = suc w.shared.epoch; phase = Recovering };
        links = λ c. record (w.links c) {
          missing = missing c;
          last_push = 0;
          acked = true;
          new_range = no_range;
          new_key = no_key;
        };
        log = w.log;
      })
  -- nobody is missing: it serves from now on, with the rows that it rebuilt
  finish : w.shared.phase ≡ Recovering → ((c : ℕ) → (w.links c).missing ≡ false) →
      Step w (record {
        shared = record w.shared { phase = Serving };
        links = λ c. record (w.links c) { top_range = (w.links c).new_range; top_key = (w.links c).new_key };
        log = w.log;
      })

-- steps of the world, one after another, or none
pub data Steps : World → World → Type 0 where
  none : {w : World} → Steps w w
  more : {u v w : World} → Steps u v → Step v w → Steps u w

-- of a client that was never heard of
abbrev pub blank_link : Link
blank_link = record {
  client = record {
    up = false;
    inc = 0;
    epoch = 0;
    seen = 0;
    range = no_range;
    key = no_key;
    value = λ q. None;
    issued = 0;
    out = None;
  };
  reg = 0;
  left = false;
  done = 0;
  applied = false;
  wrote = [];
  missing = false;
  last_push = 0;
  acked = true;
  new_range = no_range;
  new_key = no_key;
  top_range = no_range;
  top_key = no_key;
  hellos = [];
  byes = [];
  heads = [];
  releases = [];
  writes = [];
  reports = [];
  notices = [];
  pushes = [];
}

-- the first world: this index, a server in epoch 1, nobody known
abbrev pub first : (ℕ → Option Value) → ℕ → World
first index end = record {
  shared = record { epoch = 1; phase = Serving; index = index; end = end };
  links = λ c. blank_link;
  log = [];
}

-- a list of steps leads from the first world to this one
pub data Reachable (index : ℕ → Option Value) (end : ℕ) : World → Type 0 where
  begun : Reachable index end (first index end)
  stepped : (w v : World) → Reachable index end w → Step w v → Reachable index end v

-- What is promised of what clients hold

-- no two clients hold incompatible parts at one point
abbrev pub IsCompatible : World → Type 0
IsCompatible w =
    (c d : ℕ) → c ≢ d → (q : ℕ) →
    RangesAgree ((w.links c).range q) ((w.links d).range q) × KeysAgree ((w.links c).key q) ((w.links d).key q)

-- what a client believes to hold is at most the bound
abbrev pub IsBounded : World → Type 0
IsBounded w =
    (c : ℕ) (q : ℕ) →
    RangeAtMost ((w.links c).range q) ((w.links c).top_range q) × KeyAtMost ((w.links c).key q) ((w.links c).top_key q)

-- What is promised of scans

-- the client may answer for the point from its cache: it holds the key there, or reads the gap in which no key is
abbrev pub IsCovered : Link → ℕ → Type 0
IsCovered l q = (1 ≤ rank (l.key q)) ⊎ ((l.key q ≡ key.N) × (1 ≤ reads (l.range q)))

-- the entry that a scan gives at a covered point
abbrev pub row_of : KeyPart → Option Value → Option Value
row_of key.N v = None
row_of key.S v = v
row_of key.U v = v
row_of key.X v = v

-- a scan of lo to last, all covered and with no outstanding write, gives the index at each of the points
abbrev pub ScanIsIndex : World → Type 0
ScanIsIndex w = (c lo last : ℕ) → last < w.shared.end →
    ((op : Op) → (w.links c).out ≡ Some op → (op_key op < lo) ⊎ (last < op_key op)) →
    ((q : ℕ) → lo ≤ q → q ≤ last → IsCovered (w.links c) q) →
    (q : ℕ) → lo ≤ q → q ≤ last → row_of ((w.links c).key q) ((w.links c).value q) ≡ w.shared.index q

abbrev pub with_entry : ℕ → Option Value → List (ℕ × Value) → List (ℕ × Value)
with_entry q None rows = rows
with_entry q (Some v) rows = (q, v) ∷ rows

-- the entries at the n points from lo on, in order
abbrev pub entries : (ℕ → Option Value) → ℕ → ℕ → List (ℕ × Value)
entries index lo zero = []
entries index lo (suc n) = with_entry lo (index lo) (entries index (suc lo) n)

-- the rows that a client's cache gives there
abbrev pub rows_of : Link → ℕ → ℕ → List (ℕ × Value)
rows_of l lo n = entries (λ q. row_of (l.key q) (l.value q)) lo n

-- the same as a list: a scan of the n points from lo on gives that range of the index
abbrev pub ScanIsRange : World → Type 0
ScanIsRange w = (c lo n : ℕ) → lo + n ≤ w.shared.end →
    ((op : Op) → (w.links c).out ≡ Some op → (op_key op < lo) ⊎ (lo + n ≤ op_key op)) →
    ((q : ℕ) → lo ≤ q → q < lo + n → IsCovered (w.links c) q) →
    rows_of (w.links c) lo n ≡ entries w.shared.index lo n

-- What is promised of writes

-- no client's numbered write stands twice in the list
abbrev pub IsOnce : List Logged → Type 0
IsOnce [] = Unit {0}
IsOnce (e ∷ es) =
    ((f : Logged) → In f es → f.client ≡ e.client → f.wrote.inc ≡ e.wrote.inc → f.wrote.number ≡ e.wrote.number → ⊥)
    × IsOnce es

-- what a write makes of the entry at q
abbrev pub entry_after : Op → Option Value → ℕ → Option Value
entry_after (Insert k v) old q = if q == k then Some v else old
entry_after (Put k v) old q = if q == k then Some v else old
entry_after (Delete k) old q = if q == k then None else old

-- the index that the list makes of the first one
abbrev pub replay : (ℕ → Option Value) → List Logged → ℕ → Option Value
replay index [] q = index q
replay index (e ∷ es) q = entry_after e.wrote.op (replay index es q) q

-- the key of an Insert was absent, that of a Put or Delete present
abbrev pub IsDue : Op → (ℕ → Option Value) → Type 0
IsDue (Insert k v) index = index k ≡ None
IsDue (Put k v) index = (u : Value) × (index k ≡ Some u)
IsDue (Delete k) index = (u : Value) × (index k ≡ Some u)

-- so it was for each write of the list, when its turn came
abbrev pub IsProper : (ℕ → Option Value) → List Logged → Type 0
IsProper index [] = Unit {0}
IsProper index (e ∷ es) = IsDue e.wrote.op (replay index es) × IsProper index es

-- the list holds this client's write of that number
abbrev pub IsListed : World → ℕ → ℕ → ℕ → Type 0
IsListed w c inc number = (e : Logged) × In e w.log × (e.client ≡ c) × (e.wrote.inc ≡ inc) × (e.wrote.number ≡ number)

-- each numbered write changed the index at most once, and what clients learn of it is so
pub record WritesOnce (index : ℕ → Option Value) (w : World) : Type 0 where
  pub once : IsOnce w.log
  -- the index is what the list makes of the first one
  pub fold : (q : ℕ) → replay index w.log q ≡ w.shared.index q
  pub proper : IsProper index w.log
  -- the operation is that of every Write message with its number
  pub same : (e : Logged) → In e w.log → (m : Write) → In m (w.links e.client).writes → m.head.inc ≡ e.wrote.inc →
      m.number ≡ e.wrote.number → m.op ≡ e.wrote.op
  -- a write that was answered Applied stands in the list, and one that was answered otherwise does not
  pub told : (c : ℕ) (p : Push) → In p (w.links c).pushes → 1 ≤ p.answers → p.applied ≡ true →
      IsListed w c p.inc p.answers
  pub told_not : (c : ℕ) (p : Push) → In p (w.links c).pushes → 1 ≤ p.answers → p.applied ≡ false →
      IsListed w c p.inc p.answers → ⊥

-- What is promised of restarts of the server

-- the server would take the report now
pub record MaySeize (s : Shared) (l : Link) (r : Report) : Type 0 where
  pub sent : In r l.reports
  pub recovering : s.phase ≡ Recovering
  pub missing : l.missing ≡ true
  pub inc : r.inc ≡ l.reg
  pub epoch : r.epoch ≡ s.epoch

-- the row rebuilt from a report that the server would take agrees with the present rows of all others: no alarm
abbrev pub NoAlarm : World → Type 0
NoAlarm w = (c : ℕ) (r : Report) (ranges : ℕ → RangePart) (keys : ℕ → KeyPart) →
    MaySeize w.shared (w.links c) r → IsRebuilt w.shared r ranges keys →
    (d : ℕ) → d ≢ c → (q : ℕ) →
    RangesAgree (ranges q) ((w.links d).new_range q) × KeysAgree (keys q) ((w.links d).new_key q)

-- next to compatibility: the bound, and the epochs of the messages
pub record Restarts (w : World) : Type 0 where
  -- the bound of each client is a row over the present slots
  pub rows : (c : ℕ) → IsRow w.shared (w.links c).top_range (w.links c).top_key
  -- what a live push states is at most the bound
  pub live : (c : ℕ) (p : Push) → In p (w.links c).pushes → IsLive (w.links c) p → (q : ℕ) (t : Said) →
      p.says q ≡ Some t → RangeAtMost t.range ((w.links c).top_range q) × KeyAtMost t.key ((w.links c).top_key q)
  -- no message has an epoch above the durable one
  pub push_epochs : (c : ℕ) (p : Push) → In p (w.links c).pushes → p.epoch ≤ w.shared.epoch
  pub notice_epochs : (c : ℕ) (n : Notice) → In n (w.links c).notices → n.epoch ≤ w.shared.epoch
  pub report_epochs : (c : ℕ) (r : Report) → In r (w.links c).reports → r.epoch ≤ w.shared.epoch
  pub head_epochs : (c : ℕ) (a : Head) → In a (w.links c).heads → a.epoch ≤ w.shared.epoch
  pub release_epochs : (c : ℕ) (r : Release) → In r (w.links c).releases → r.head.epoch ≤ w.shared.epoch
  pub write_epochs : (c : ℕ) (m : Write) → In m (w.links c).writes → m.head.epoch ≤ w.shared.epoch
  -- a report that the server would take is at most the bound, and at least what that incarnation believes
  pub reports : (c : ℕ) (r : Report) → MaySeize w.shared (w.links c) r → (q : ℕ) →
      RangeAtMost (r.range q) ((w.links c).top_range q) × KeyAtMost (r.key q) ((w.links c).top_key q)
  pub covers : (c : ℕ) (r : Report) → MaySeize w.shared (w.links c) r → r.inc ≡ (w.links c).inc → (q : ℕ) →
      RangeAtMost ((w.links c).range q) (r.range q) × KeyAtMost ((w.links c).key q) (r.key q)
  -- a row that was rebuilt is at most the bound, and at least what its client believes
  pub rebuilt : (c : ℕ) → w.shared.phase ≡ Recovering → (q : ℕ) →
      RangeAtMost ((w.links c).new_range q) ((w.links c).top_range q)
      × KeyAtMost ((w.links c).new_key q) ((w.links c).top_key q)
  pub rebuilt_covers : (c : ℕ) → w.shared.phase ≡ Recovering → (w.links c).missing ≡ false → (q : ℕ) →
      RangeAtMost ((w.links c).range q) ((w.links c).new_range q)
      × KeyAtMost ((w.links c).key q) ((w.links c).new_key q)

-- the bound of a client after a step to a moment at which nobody serves: as before, or blank, if it was registered
-- again or left
pub data BoundAfter (l m : Link) : Type 0 where
  stays : ((q : ℕ) → (m.top_range q ≡ l.top_range q) × (m.top_key q ≡ l.top_key q)) → BoundAfter l m
  blanked : (l.reg < m.reg) ⊎ (m.left ≡ true) → ((q : ℕ) → (m.top_range q ≡ range.N) × (m.top_key q ≡ key.N)) →
      BoundAfter l m

-- while nobody serves, no step changes the index, or a bound otherwise than so
abbrev pub BoundStays : World → World → Type 0
BoundStays w v =
    v.shared.phase ≢ Serving →
    ((q : ℕ) → v.shared.index q ≡ w.shared.index q) × ((c : ℕ) → BoundAfter (w.links c) (v.links c))
