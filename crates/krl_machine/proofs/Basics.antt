-- The invariants of one link, in groups by what they speak of.
use Rattle.krl_machine.proofs.Names.{◌≡◌, ◌≢◌, ℕ, suc, ◌≤◌, ◌<◌, true, false, Some, None, ◌⊎◌, In, reads, rank, RangeAtMost, KeyAtMost, Recovering, Serving, Op, Delete, op_key, Head, Notice, Said}
use Rattle.krl_machine.proofs.Names.{Push, Release, Write, Report, Shared, Link, IsLive, belief, IsRow}
use Rattle.krl_modes.specs.declared.part.RangePart.TheVariants as range
use Rattle.krl_modes.specs.declared.part.KeyPart.TheVariants as key

-- identities: incarnations, epochs, the phase
abbrev pub Standing : Shared → Link → Type 0
Standing s l = record {
  server : 1 ≤ s.epoch;
  reg : l.reg ≤ l.inc;
  counts : l.up ≡ true → 1 ≤ l.inc;
  epoch : l.epoch ≤ s.epoch;
  joined : 1 ≤ l.epoch → l.inc ≡ l.reg;
  stays : l.left ≡ true → l.inc ≡ l.reg → l.up ≡ false;
  hellos : (h : ℕ) → In h l.hellos → h ≤ l.inc;
  byes : (b : ℕ) → In b l.byes → (b ≤ l.inc) × (b ≡ l.inc → l.up ≡ false);
  notices : (n : Notice) → In n l.notices → (n.inc ≤ l.reg) × (n.epoch ≤ s.epoch);
  reports : (r : Report) → In r l.reports → (r.inc ≤ l.inc) × (r.inc ≡ l.inc → r.epoch ≤ l.epoch) × (r.epoch ≤ s.epoch);
  present : l.missing ≡ false → l.up ≡ true → l.inc ≡ l.reg → (l.epoch ≡ s.epoch) ⊎ ((l.epoch ≡ 0) × ((n : Notice) → In n l.notices → n.inc ≡ l.reg → n.epoch ≡ s.epoch));
  serving : s.phase ≡ Serving → l.missing ≡ false;
}

-- epochs, `seen` and push numbers
abbrev pub HeadOk : Link → Head → Type 0
HeadOk l a = (a.inc ≤ l.inc) × (a.inc ≡ l.inc → (a.epoch ≤ l.epoch) × (a.epoch ≡ l.epoch → a.seen ≤ l.seen))

abbrev pub PushOk : Shared → Link → Push → Type 0
PushOk s l p = record {
  reg : p.inc ≤ l.reg;
  low : 1 ≤ p.epoch;
  epoch : p.epoch ≤ s.epoch;
  seen : p.inc ≡ l.inc → (p.epoch ≤ l.epoch) × (p.epoch ≡ l.epoch → p.number ≤ suc l.seen);
  last_push : p.inc ≡ l.reg → p.epoch ≡ s.epoch → p.number ≤ l.last_push;
  phase : p.epoch ≡ s.epoch → s.phase ≢ Recovering;
}

abbrev pub Counting : Shared → Link → Type 0
Counting s l = record {
  heads : (a : Head) → In a l.heads → HeadOk l a;
  head_epochs : (a : Head) → In a l.heads → a.epoch ≤ s.epoch;
  pushes : (p : Push) → In p l.pushes → PushOk s l p;
  seen : l.inc ≡ l.reg → l.epoch ≡ s.epoch → (l.seen ≤ l.last_push) × (l.last_push ≤ suc l.seen);
  acked : l.inc ≡ l.reg → l.epoch ≡ s.epoch → l.acked ≡ true → l.last_push ≡ l.seen;
  early : l.inc ≡ l.reg → l.epoch < s.epoch → l.last_push ≡ 0;
  releases : (r : Release) → In r l.releases → In r.head l.heads;
  writes : (w : Write) → In w l.writes → In w.head l.heads;
}

abbrev pub IsBlank : Link → Type 0
IsBlank l = (q : ℕ) → (l.range q ≡ range.N) × (l.key q ≡ key.N)

-- belief is at most the bound
abbrev pub Belief : Link → Type 0
Belief l = record {
  down : l.up ≡ false → IsBlank l;
  early : l.epoch ≡ 0 → IsBlank l;
  bound : (q : ℕ) → RangeAtMost (l.range q) (l.top_range q) × KeyAtMost (l.key q) (l.top_key q);
}

-- what is stated of q is true of the index: a key that is read stands there with its value, and none in a gap that is
-- read
abbrev pub IsTrueOf : Shared → ℕ → Said → Type 0
IsTrueOf s q t = record {
  entry : q ≢ s.end → 1 ≤ rank t.key → s.index q ≡ t.value;
  empty : t.key ≡ key.N → 1 ≤ reads t.range → s.index q ≡ None;
}

-- what a live push states of a point is within the bound, covers the belief, and is true of the index
abbrev pub LiveAt : Shared → Link → ℕ → Said → Type 0
LiveAt s l q t = record {
  low : RangeAtMost t.range (l.top_range q) × KeyAtMost t.key (l.top_key q);
  covers : RangeAtMost (l.range q) t.range;
  gone : q ≢ s.end → s.index q ≡ None → 1 ≤ rank t.key → ⊥;
  known : IsTrueOf s q t;
}

-- and if it answers the outstanding write, it speaks of the key
abbrev pub LiveOk : Shared → Link → Push → Type 0
LiveOk s l p = record {
  says : (q : ℕ) (t : Said) → p.says q ≡ Some t → LiveAt s l q t;
  answer : (op : Op) → l.out ≡ Some op → p.answers ≡ l.issued → p.says (op_key op) ≢ None;
}

abbrev pub Pushed : Shared → Link → Type 0
Pushed s l = (p : Push) → In p l.pushes → IsLive l p → LiveOk s l p

-- a release that may still be obeyed is true
abbrev pub Released : Link → Type 0
Released l = (r : Release) → In r l.releases → r.head.inc ≡ l.inc → r.head.epoch ≡ l.epoch → r.head.seen ≡ l.seen → (q : ℕ) → r.lo ≤ q → q ≤ r.last → RangeAtMost (l.range q) r.range × KeyAtMost (l.key q) r.key

-- no outstanding write at q
abbrev pub NotAt : Link → ℕ → Type 0
NotAt l q = (op : Op) → l.out ≡ Some op → op_key op ≢ q

-- what the client believes is true of the index
abbrev pub Known : Shared → Link → Type 0
Known s l = record {
  gone : (q : ℕ) → q ≢ s.end → s.index q ≡ None → 1 ≤ rank (l.key q) → l.out ≡ Some (Delete q);
  deleting : (q : ℕ) → l.out ≡ Some (Delete q) → l.range q ≡ range.X;
  says : (q : ℕ) → NotAt l q → IsTrueOf s q (belief l q);
}

-- writes and their answers
abbrev pub Writing : Link → Type 0
Writing l = record {
  writes : (w : Write) → In w l.writes → w.head.inc ≡ l.inc → (w.number ≤ l.issued) × ((op : Op) → l.out ≡ Some op → w.number ≡ l.issued → w.op ≡ op);
  counted : l.up ≡ true → l.inc ≡ l.reg → (l.done ≤ l.issued) × (l.issued ≤ suc l.done) × (l.out ≡ None → l.done ≡ l.issued);
  some : (op : Op) → l.out ≡ Some op → 1 ≤ l.issued;
  answers : (p : Push) → In p l.pushes → p.inc ≡ l.reg → p.answers ≤ l.done;
  fresh : l.up ≡ true → l.epoch ≡ 0 → (l.issued ≡ 0) × (l.out ≡ None);
  down : l.up ≡ false → l.out ≡ None;
}

-- reports and the rows that are rebuilt from them
abbrev pub Recovery : Shared → Link → Type 0
Recovery s l = record {
  reports : s.phase ≡ Recovering → l.missing ≡ true → (r : Report) → In r l.reports → r.inc ≡ l.reg → r.epoch ≡ s.epoch → (q : ℕ) → RangeAtMost (r.range q) (l.top_range q) × KeyAtMost (r.key q) (l.top_key q);
  covers : s.phase ≡ Recovering → l.missing ≡ true → (r : Report) → In r l.reports → r.inc ≡ l.reg → r.epoch ≡ s.epoch → r.inc ≡ l.inc → (q : ℕ) → RangeAtMost (l.range q) (r.range q) × KeyAtMost (l.key q) (r.key q);
  low : s.phase ≡ Recovering → (q : ℕ) → RangeAtMost (l.new_range q) (l.top_range q) × KeyAtMost (l.new_key q) (l.top_key q);
  high : s.phase ≡ Recovering → l.missing ≡ false → (q : ℕ) → RangeAtMost (l.range q) (l.new_range q) × KeyAtMost (l.key q) (l.new_key q);
}

abbrev pub Rows : Shared → Link → Type 0
Rows s l = record {
  top : IsRow s l.top_range l.top_key;
  new : s.phase ≡ Recovering → IsRow s l.new_range l.new_key;
}

pub record Inv (s : Shared) (l : Link) : Type 0 where
  pub standing : Standing s l
  pub counting : Counting s l
  pub belief : Belief l
  pub live_pushes : Pushed s l
  pub released : Released l
  pub known : Known s l
  pub writing : Writing l
  pub recovery : Recovery s l
  pub rows : Rows s l
