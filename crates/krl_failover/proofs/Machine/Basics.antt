-- What holds of old servers, link by link.
use Rattle.krl_failover.proofs.Machine.Names.{◌≡◌, ◌≢◌, ℕ, suc, ◌≤◌, ◌<◌, true, false, None, ◌⊎◌, In, KeyAtMost, Head, Notice, Push, Release, Report, Shared, Link, IsRebuilt, Write, Wrote, off_slot}
use Rattle.krl_modes.specs.declared.part.RangePart.TheVariants as range
use Rattle.krl_modes.specs.declared.part.KeyPart.TheVariants as key
use Rattle.krl_failover.specs.Fenced.{Kept, IsHere}
use Rattle.krl_machine.proofs.RowChanges.{Below}

-- These are plain records, so that what changes nothing that one of them reads changes nothing of it

-- what krl_machine did not need to state of one server
abbrev pub Extra : Shared → Link → Type 0
Extra s l = record {
  heads : (a : Head) → In a l.heads → a.inc ≤ l.reg;
  reports : (x : Report) → In x l.reports → x.inc ≤ l.reg;
  seen : (a : Head) → In a l.heads → a.inc ≡ l.reg → a.epoch ≡ s.epoch → a.seen ≤ l.last_push;
}

-- the pushes of the old server of the epoch e, which keeps z of this client, while the incarnation that it knows is the
-- registered one
abbrev pub Session : Link → ℕ → Kept → Type 0
Session l e z = record {
  seen : z.reg ≡ l.reg → l.inc ≡ l.reg → l.epoch ≡ e → (l.seen ≤ z.last) × (z.last ≤ suc l.seen);
  acked : z.reg ≡ l.reg → l.inc ≡ l.reg → l.epoch ≡ e → z.acked ≡ true → z.last ≡ l.seen;
  early : z.reg ≡ l.reg → l.inc ≡ l.reg → l.epoch < e → z.last ≡ 0;
  pushes : z.reg ≡ l.reg → (p : Push) → In p l.pushes → p.inc ≡ l.reg → p.epoch ≡ e → p.number ≤ z.last;
}

-- its record of the last write is right
abbrev pub Judged : Link → Kept → Type 0
Judged l z = record {
  did : z.applied ≡ true → 1 ≤ z.done → (m : Write) → In m l.writes → m.head.inc ≡ z.reg → m.number ≡ z.done →
      (x : Wrote) × In x l.wrote × (x.inc ≡ z.reg) × (x.number ≡ z.done);
  did_not : z.applied ≡ false → (x : Wrote) → In x l.wrote → x.inc ≡ z.reg → x.number ≢ z.done;
}

-- the old server
abbrev pub Old : Shared → Link → ℕ → Kept → Type 0
Old s l e z = record {
  reg : z.reg ≤ l.reg;
  done : z.reg ≡ l.reg → z.done ≤ l.done;
  session : Session l e z;
  heads : z.reg ≡ l.reg → (a : Head) → In a l.heads → a.inc ≡ l.reg → a.epoch ≡ e → a.seen ≤ z.last;
  -- a client whose report the store's server does not wait for is in that server's epoch
  present : z.reg ≡ l.reg → l.missing ≡ false → l.up ≡ true → l.inc ≡ l.reg → l.epoch ≡ s.epoch;
  judged : Judged l z;
}

-- while the store's server recovers: what was judged and sent, for the server of the epoch b, the last that served, which
-- keeps z of this client
abbrev pub Sent : Shared → Link → ℕ → Kept → Type 0
Sent s l b z = record {
  same : z.reg ≡ l.reg → (z.done ≡ l.done) × (z.applied ≡ l.applied);
  low : (p : Push) → In p l.pushes → p.inc ≡ l.reg → p.epoch ≤ b;
  -- a release that it may still obey is true of all that was reported in later epochs
  told : z.reg ≡ l.reg → (r : Release) → In r l.releases → r.head.inc ≡ l.reg → r.head.epoch ≡ b → r.head.seen ≡ z.last →
      (x : Report) → In x l.reports → x.inc ≡ l.reg → b < x.epoch → (q : ℕ) → r.lo ≤ q → q ≤ r.last →
      Below (x.range q) (x.key q) r.range r.key;
  off : (x : Report) → In x l.reports → x.inc ≡ l.reg → b < x.epoch → (q : ℕ) → q ≢ s.end → s.index q ≡ None →
      KeyAtMost (x.key q) (off_slot (x.range q));
  -- each later report is within each earlier one
  order : (x y : Report) → In x l.reports → In y l.reports → x.inc ≡ l.reg → y.inc ≡ l.reg → b < y.epoch → y.epoch < x.epoch → (q : ℕ) →
      Below (x.range q) (x.key q) (y.range q) (y.key q);
}

-- the last server that served
abbrev pub Top : Shared → Link → ℕ → Kept → Type 0
Top s l b z = record {
  sent : Sent s l b z;
  -- a release that it may still obey is true of the belief
  belief : z.reg ≡ l.reg → (r : Release) → In r l.releases → r.head.inc ≡ l.reg → r.head.epoch ≡ b → r.head.seen ≡ z.last →
      l.inc ≡ l.reg → (q : ℕ) → r.lo ≤ q → q ≤ r.last → Below (l.range q) (l.key q) r.range r.key;
  -- each report of a later epoch is within the bound, and covers the belief
  reports : l.left ≡ false → (x : Report) → In x l.reports → x.inc ≡ l.reg → b < x.epoch → (q : ℕ) →
      Below (x.range q) (x.key q) (l.top_range q) (l.top_key q);
  covers : (x : Report) → In x l.reports → x.inc ≡ l.reg → b < x.epoch → l.inc ≡ l.reg → (q : ℕ) →
      Below (l.range q) (l.key q) (x.range q) (x.key q);
  -- the row that is rebuilt is that of such a report
  new : ((q : ℕ) → (l.new_range q ≡ range.N) × (l.new_key q ≡ key.N))
      ⊎ ((x : Report) × In x l.reports × (x.inc ≡ l.reg) × (x.epoch ≡ s.epoch) × IsRebuilt s x l.new_range l.new_key);
}

-- an old server of the epoch e that recovers, later than the last that served
abbrev pub Gather : Shared → Link → ℕ → Kept → Type 0
Gather s l e z = record {
  new : ((q : ℕ) → (z.new_range q ≡ range.N) × (z.new_key q ≡ key.N))
      ⊎ ((x : Report) × In x l.reports × (x.inc ≡ z.reg) × (x.epoch ≡ e) × IsRebuilt s x z.new_range z.new_key);
  present : z.missing ≡ false → z.reg ≡ l.reg → l.up ≡ true → l.inc ≡ l.reg →
      (e ≤ l.epoch) ⊎ ((l.epoch ≡ 0) × ((n : Notice) → In n l.notices → n.inc ≡ l.reg → e ≤ n.epoch));
  high : z.missing ≡ false → IsHere l z → (q : ℕ) → Below (l.range q) (l.key q) (z.new_range q) (z.new_key q);
  later : z.missing ≡ false → IsHere l z → (x : Report) → In x l.reports → x.inc ≡ l.reg → e < x.epoch → (q : ℕ) →
      Below (x.range q) (x.key q) (z.new_range q) (z.new_key q);
}
