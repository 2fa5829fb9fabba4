-- A server that is down comes back as several, each for the keys of one stretch, while clients hold what they hold.
-- What becomes of a world in the part that has the keys from lo on and below hi. The last part ends above END.
use Rattle.std.specs.Prelude.{◌≡◌, ◌++◌, ◌+◌, ℕ, suc, ◌≤◌, ◌<◌, false, Option, Some, None, List, [], ◌∷◌, ◌⊎◌, if◌then◌else◌, ◌==◌, nat_lt}
use Rattle.krl_modes.specs.declared.part.RangePart.{RangePart}
use Rattle.krl_modes.specs.declared.part.RangePart.TheVariants as range
use Rattle.krl_modes.specs.declared.part.KeyPart.{KeyPart}
use Rattle.krl_modes.specs.declared.part.KeyPart.TheVariants as key
use Rattle.krl_messages.specs.Values.{Value}
use Rattle.krl_machine.specs.Modes.{off_slot}
use Rattle.krl_machine.specs.Links.{Down, Op, op_key, Client, Link, no_range, no_key}
use Rattle.krl_messages.specs.Members.{In}
use Rattle.krl_machine.specs.Worlds.{World, IsCovered, rows_of, entries, Logged, Step, first}

-- here at a point from lo on and below hi, there at any other
abbrev pub choose : {A : Type 0} → ℕ → ℕ → ℕ → A → A → A
choose lo hi q here there = if nat_lt q lo then there else (if nat_lt q hi then here else there)

-- those whose key lies in the part, in their order
abbrev pub those : {A : Type 0} → ℕ → ℕ → (A → ℕ) → List A → List A
those lo hi key_of [] = []
those lo hi key_of (x ∷ xs) = choose lo hi (key_of x) (x ∷ those lo hi key_of xs) (those lo hi key_of xs)

-- the index of the part
abbrev pub index_part : ℕ → ℕ → (ℕ → Option Value) → ℕ → Option Value
index_part lo hi index q = choose lo hi q (index q) None

-- The bound of a client: the first slot of the part reaches down to 0, and the last one, which is END, up from hi. The
-- range part of the slot in which a cut lies is that of both slots that it makes
abbrev pub row_range : ℕ → ℕ → ℕ → (ℕ → RangePart) → ℕ → RangePart
row_range lo hi end f q =
    if nat_lt q lo then f lo else (if nat_lt q hi then f q else (if nat_lt end q then range.N else f hi))

-- the key part at a new END: the least one that is a mode with this range part
abbrev pub end_key : RangePart → KeyPart
end_key range.N = key.N
end_key range.S = key.S
end_key range.I = key.N
end_key range.X = key.S

abbrev pub row_key : ℕ → ℕ → ℕ → (ℕ → RangePart) → (ℕ → KeyPart) → ℕ → KeyPart
row_key lo hi end f g q =
    choose lo hi q (g q) (if q == end then end_key (row_range lo hi end f q) else off_slot (row_range lo hi end f q))

-- a client that has an outstanding write of another part's key gives up what it holds in this part, as by a crash: it
-- joins here under a new incarnation. In the part of the key it continues
abbrev pub ended : Client → Client
ended c = record c { up = false; range = no_range; key = no_key; out = None }

abbrev pub settle : ℕ → ℕ → Option Op → Client → Client
settle lo hi None c = c
settle lo hi (Some op) c = choose lo hi (op_key op) c (ended c)

abbrev pub settled : ℕ → ℕ → Link → Link
settled lo hi l = record l { client = settle lo hi l.client.out l.client }

-- What becomes of a link. The client keeps what it holds in the part, and nothing outside; so its report is clipped. No
-- push of the whole is ever delivered in a part, and no write of another part's key. All else that was ever sent may
-- still come
abbrev pub link_part : ℕ → ℕ → ℕ → Link → Link
link_part lo hi end l = record l {
  client = record l.client {
    range = λ q. choose lo hi q (l.client.range q) range.N;
    key = λ q. choose lo hi q (l.client.key q) key.N;
  };
  top_range = row_range lo hi end l.top_range;
  top_key = row_key lo hi end l.top_range l.top_key;
  wrote = those lo hi (λ e. op_key e.op) l.wrote;
  writes = those lo hi (λ m. op_key m.op) l.writes;
  pushes = [];
}

-- of the world: the part has the epoch, the phase, and the records of all clients
abbrev pub part : ℕ → ℕ → World → World
part lo hi w = record {
  shared = record w.shared { index = index_part lo hi w.shared.index };
  links = λ c. link_part lo hi w.shared.end (settled lo hi (w.links c));
  log = those lo hi (λ e. op_key e.wrote.op) w.log;
}

-- What is reached from a first world by steps and cuts: the world of the part from lo on below hi, and the first index
-- of its keys. A cut is made while the server is down. A part may be cut again
pub data Parted (end : ℕ) : (ℕ → Option Value) → ℕ → ℕ → World → Type 0 where
  whole : (index : ℕ → Option Value) → Parted end index 0 (suc end) (first index end)
  moved : (index : ℕ → Option Value) (lo hi : ℕ) (w v : World) → Parted end index lo hi w → Step w v →
      Parted end index lo hi v
  cut_out : (index : ℕ → Option Value) (lo hi from to : ℕ) (w : World) → Parted end index lo hi w →
      w.shared.phase ≡ Down → lo ≤ from → from < to → to ≤ hi →
      Parted end (index_part from to index) from to (part from to w)

-- What a cut leaves as it was

-- what is outstanding is of a key of the part
abbrev pub IsInside : ℕ → ℕ → Option Op → Type 0
IsInside lo hi out = (op : Op) → out ≡ Some op → (lo ≤ op_key op) × (op_key op < hi)

-- a client holds in the part what it held there, unless it has a write of another part's key outstanding
abbrev pub Keeps : ℕ → ℕ → World → World → Type 0
Keeps lo hi w v =
    (c : ℕ) → IsInside lo hi (w.links c).client.out → (q : ℕ) → lo ≤ q → q < hi →
    ((v.links c).client.range q ≡ (w.links c).client.range q) × ((v.links c).client.key q ≡ (w.links c).client.key q)
    × ((v.links c).client.value q ≡ (w.links c).client.value q) × ((v.links c).client.out ≡ (w.links c).client.out)
    × ((v.links c).client.inc ≡ (w.links c).client.inc)

-- two parts that meet have all rows and all applied writes of what they had together, and none of them twice
pub record Halves (lo at hi : ℕ) (w low high : World) : Type 0 where
  pub below : (q : ℕ) → lo ≤ q → q < at → (low.shared.index q ≡ w.shared.index q) × (high.shared.index q ≡ None)
  pub above : (q : ℕ) → at ≤ q → q < hi → (high.shared.index q ≡ w.shared.index q) × (low.shared.index q ≡ None)
  pub logged : (e : Logged) → In e w.log → lo ≤ op_key e.wrote.op → op_key e.wrote.op < hi →
      (In e low.log × (In e high.log → ⊥)) ⊎ (In e high.log × (In e low.log → ⊥))
  pub no_more : (e : Logged) → In e low.log ⊎ In e high.log → In e w.log

-- The client of several parts

-- the indexes of two parts that meet, as one
abbrev pub together : ℕ → World → World → ℕ → Option Value
together at low high q = if nat_lt q at then low.shared.index q else high.shared.index q

-- what is outstanding is of no key from lo on and below hi
abbrev pub IsOutside : ℕ → ℕ → Option Op → Type 0
IsOutside lo hi out = (op : Op) → out ≡ Some op → (op_key op < lo) ⊎ (hi ≤ op_key op)

-- from lo on and below hi the client knows each point
abbrev pub CoversAll : ℕ → ℕ → Link → Type 0
CoversAll lo hi l = (q : ℕ) → lo ≤ q → q < hi → IsCovered l q

-- A scan over the cut: if both parts are answered from the caches of their clients, of whatever numbers, and neither
-- has an outstanding write there, the rows of the one before those of the other are that range of both indexes together
abbrev pub ScanOfBoth : ℕ → World → World → Type 0
ScanOfBoth at low high =
    (c d lo n m : ℕ) → lo + n ≡ at → at ≤ low.shared.end → at + m ≤ high.shared.end →
    IsOutside lo (lo + n) (low.links c).client.out → IsOutside at (at + m) (high.links d).client.out →
    CoversAll lo (lo + n) (low.links c) → CoversAll at (at + m) (high.links d) →
    rows_of (low.links c) lo n ++ rows_of (high.links d) at m ≡ entries (together at low high) lo (n + m)
