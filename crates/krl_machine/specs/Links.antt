-- All that concerns one client number: the client itself, what the server keeps of it, and every message between
-- the two. We call it a link. A step of the world changes one link, or what all links share.
-- A point is a natural number. What a client holds, and what the server lets it hold, are functions on points: a
-- part of the gap around the point, and a part of the key at it.
use Rattle.std.specs.Prelude.{◌≡◌, ◌≢◌, ℕ, suc, ◌≤◌, ◌<◌, Bool, true, false, Option, Some, None, unwrap_or, List, ◌∷◌, ◌⊎◌}
use Rattle.krl_modes.specs.declared.part.RangePart.{RangePart}
use Rattle.krl_modes.specs.declared.part.RangePart.TheVariants as range
use Rattle.krl_modes.specs.declared.part.KeyPart.{KeyPart}
use Rattle.krl_modes.specs.declared.part.KeyPart.TheVariants as key
use Rattle.krl_modes.specs.Parts.{range_meet, key_meet}
use Rattle.krl_messages.specs.Values.{Value}
use Rattle.krl_messages.specs.Members.{In}
use Rattle.krl_modes.specs.Weights.{rank}
use Rattle.krl_machine.specs.Modes.{RangeAtMost, KeyAtMost, IsMode, off_slot}

-- The messages

-- the server is down, or up and recovering, or up and serving
pub data Phase : Type 0 where
  Down Recovering Serving : Phase

-- what a write asks for: the key, and its value except for a Delete
pub data Op : Type 0 where
  Insert : ℕ → Value → Op
  Put : ℕ → Value → Op
  Delete : ℕ → Op

abbrev pub op_key : Op → ℕ
op_key (Insert k v) = k
op_key (Put k v) = k
op_key (Delete k) = k

-- what each Lock, Ack, Write and Release carries
pub record Head : Type 0 where
  pub inc : ℕ  -- the client's incarnation: each start of a client has a greater one
  pub epoch : ℕ  -- the epoch of the server that it has joined: each start of the server has a greater one
  pub seen : ℕ  -- the number of the last push that it accepted in this epoch

-- an Epoch message, to a client
pub record Notice : Type 0 where
  pub inc : ℕ
  pub epoch : ℕ

-- what is stated of one point: a part of the gap around it, a part of the key at it, and the value there, if it is
-- read
pub record Said : Type 0 where
  pub range : RangePart
  pub key : KeyPart
  pub value : Option Value

-- a Grant, an Absent or an Answer, to a client. An Absent speaks of no point, and answers no write
pub record Push : Type 0 where
  pub inc : ℕ
  pub epoch : ℕ
  pub number : ℕ  -- within the incarnation and epoch, from 1
  pub answers : ℕ  -- the number of the write that it answers, or 0
  pub applied : Bool  -- whether that write was Applied
  pub says : ℕ → Option Said  -- what the client holds from now on at each point of which it speaks

-- on lo to last this client holds at most these parts
pub record Release : Type 0 where
  pub head : Head
  pub lo : ℕ
  pub last : ℕ
  pub range : RangePart
  pub key : KeyPart

pub record Write : Type 0 where
  pub head : Head
  pub number : ℕ  -- within the incarnation, from 1
  pub op : Op

-- what the client holds at each point, sent when it joins an epoch
pub record Report : Type 0 where
  pub inc : ℕ
  pub epoch : ℕ
  pub range : ℕ → RangePart
  pub key : ℕ → KeyPart

-- a write that was Applied
pub record Wrote : Type 0 where
  pub inc : ℕ
  pub number : ℕ
  pub op : Op

-- The states

-- what all links see: the durable epoch, the phase of the server, the index, and END, which lies above every key
pub record Shared : Type 0 where
  pub epoch : ℕ
  pub phase : Phase
  pub index : ℕ → Option Value
  pub end : ℕ

-- the client: what it believes, and where it stands
pub record Client : Type 0 where
  pub up : Bool
  pub inc : ℕ  -- its incarnation, or its last one while it is down
  pub epoch : ℕ  -- the epoch that it has joined, or 0
  pub seen : ℕ  -- the number of the last push that it accepted in this epoch
  pub range : ℕ → RangePart  -- what it believes to hold of the gap at each point
  pub key : ℕ → KeyPart  -- and of the key there
  pub value : ℕ → Option Value  -- the value that it believes to stand there
  pub issued : ℕ  -- the number of its last write
  pub out : Option Op  -- its outstanding write

pub record Link : Type 0 where
  pub client : Client
  pub open client use *
  -- the durable record of the client
  pub reg : ℕ  -- the registered incarnation, 0 for none
  pub left : Bool  -- that incarnation has left
  pub done : ℕ  -- the number of the last write that was judged
  pub applied : Bool  -- whether that one was Applied
  pub wrote : List Wrote  -- its writes that were Applied, the last first
  -- what else the server keeps of it
  pub missing : Bool  -- its report is waited for
  pub last_push : ℕ  -- the number of the last push to it
  pub acked : Bool  -- that push counts as acknowledged
  pub new_range : ℕ → RangePart  -- the row that a recovery rebuilds
  pub new_key : ℕ → KeyPart
  -- the bound: its row of the table while the server serves, otherwise that of the last moment at which one served
  pub top_range : ℕ → RangePart
  pub top_key : ℕ → KeyPart
  -- every message ever sent. Nothing is taken out: a message may be delivered never, late, or many times
  pub hellos : List ℕ
  pub byes : List ℕ
  pub heads : List Head  -- of each Lock, Ack, Write and Release
  pub releases : List Release
  pub writes : List Write
  pub reports : List Report
  pub notices : List Notice
  pub pushes : List Push

abbrev pub no_range : ℕ → RangePart
no_range q = range.N

abbrev pub no_key : ℕ → KeyPart
no_key q = key.N

-- What the steps of a client ask for

-- the client would accept the push
abbrev pub IsLive : Link → Push → Type 0
IsLive l p = record { up : l.up ≡ true; inc : p.inc ≡ l.inc; epoch : p.epoch ≡ l.epoch; number : p.number ≡ suc l.seen }

-- what the client believes of the point q
abbrev pub belief : Link → ℕ → Said
belief l q = record { range = l.range q; key = l.key q; value = l.value q }

-- and after it accepted the push: what that states of q, if it speaks of it
abbrev pub adopted : Link → Push → ℕ → Said
adopted l p q = unwrap_or (p.says q) (belief l q)

-- the outstanding write after an accepted push: gone, if the push answers it
abbrev pub OutAfter : Link → Push → Option Op → Type 0
OutAfter l p out = ((p.answers ≡ l.issued) × (out ≡ None)) ⊎ ((p.answers ≢ l.issued) × (out ≡ l.out))

-- one point before and after lo to last is lowered to the parts keep_range and keep_key
pub data Lowered (lo last : ℕ) (keep_range : RangePart) (keep_key : KeyPart) (range0 : RangePart) (key0 : KeyPart)
    (range : RangePart) (key : KeyPart) (q : ℕ) : Type 0 where
  untouched : (q < lo) ⊎ (last < q) → range ≡ range0 → key ≡ key0 →
      Lowered lo last keep_range keep_key range0 key0 range key q
  lowered : lo ≤ q → q ≤ last → range ≡ range_meet range0 keep_range → key ≡ key_meet key0 keep_key →
      Lowered lo last keep_range keep_key range0 key0 range key q

-- the head of a message that the client sends now
abbrev pub head_of : Link → Head
head_of l = record { inc = l.inc; epoch = l.epoch; seen = l.seen }

-- the client may issue the write. Of its own tests only that of a Delete matters to safety
abbrev pub MayIssue : Link → Op → Type 0
MayIssue l (Insert k v) = Unit {0}
MayIssue l (Put k v) = Unit {0}
MayIssue l (Delete k) = l.range k ≡ range.X

-- What the steps of the server ask for

-- the message is of the registered incarnation, which has not left, of this epoch, and has seen the last push; and the
-- server serves
pub record Passes (s : Shared) (l : Link) (a : Head) : Type 0 where
  pub serving : s.phase ≡ Serving
  pub here : l.left ≡ false
  pub inc : a.inc ≡ l.reg
  pub epoch : a.epoch ≡ s.epoch
  pub seen : a.seen ≡ l.last_push

-- n is END or a key
abbrev pub IsSlot : Shared → ℕ → Type 0
IsSlot s n = n ≢ s.end → s.index n ≢ None

-- what the server may state of the point q: the row's range part; at a slot also the row's key part, and the entry if
-- it is read; at any other point no key part
pub data MaySay (s : Shared) (l : Link) (q : ℕ) (t : Said) : Type 0 where
  at_slot : IsSlot s q → t.range ≡ l.top_range q → t.key ≡ l.top_key q →
      (q ≢ s.end → 1 ≤ rank t.key → s.index q ≡ t.value) → MaySay s l q t
  off_slots : q ≢ s.end → s.index q ≡ None → t.range ≡ l.top_range q → t.key ≡ key.N → MaySay s l q t

-- the push answers the last write that was judged, and speaks of its key
pub record AnswersLast (l : Link) (p : Push) : Type 0 where
  pub write : Write
  pub sent : In write l.writes
  pub inc : write.head.inc ≡ l.reg
  pub number : write.number ≡ l.done
  pub answers : p.answers ≡ l.done
  pub applied : p.applied ≡ l.applied
  pub speaks : p.says (op_key write.op) ≢ None

-- if n is a slot: q lies in its span, which is n and the points below it down to the slot before
abbrev pub InSpan : Shared → ℕ → ℕ → Type 0
InSpan s n q = (q ≤ n) × ((k : ℕ) → q ≤ k → k < n → (s.index k ≡ None) × (k ≢ s.end))

-- the two functions are a row of a table that has one mode for each slot
abbrev pub IsRow : Shared → (ℕ → RangePart) → (ℕ → KeyPart) → Type 0
IsRow s ranges keys = record {
  -- the range part changes only above a slot, and there is none past END
  same : (q : ℕ) → q ≢ s.end → s.index q ≡ None → ranges q ≡ ranges (suc q);
  past : (q : ℕ) → s.end < q → (ranges q ≡ range.N) × (keys q ≡ key.N);
  -- on a slot the two parts are a mode; off the slots the range part determines the key part
  mode : (n : ℕ) → IsSlot s n → IsMode (ranges n) (keys n);
  off : (q : ℕ) → q ≢ s.end → s.index q ≡ None → keys q ≡ off_slot (ranges q);
}

-- the new row at the slot n is the old one, or that lowered by the release, if the whole span lies in it
pub data SlotLowered (s : Shared) (r : Release) (l : Link) (range : ℕ → RangePart) (key : ℕ → KeyPart)
    (n : ℕ) : Type 0 where
  kept : ((q : ℕ) → InSpan s n q → (range q ≡ l.top_range q) × (key q ≡ l.top_key q)) → SlotLowered s r l range key n
  cut : ((q : ℕ) → InSpan s n q → (r.lo ≤ q) × (q ≤ r.last)) →
      ((q : ℕ) → InSpan s n q → range q ≡ range_meet (l.top_range q) r.range) → key n ≡ key_meet (l.top_key n) r.key →
      SlotLowered s r l range key n

-- the row that is rebuilt from a report: at each slot the least mode at or above what is reported of its span and its
-- key
pub record IsRebuilt (s : Shared) (r : Report) (range : ℕ → RangePart) (key : ℕ → KeyPart) : Type 0 where
  pub row : IsRow s range key
  pub above : (n q : ℕ) → IsSlot s n → InSpan s n q → RangeAtMost (r.range q) (range n)
  pub key_above : (n : ℕ) → IsSlot s n → KeyAtMost (r.key n) (key n)
  pub least : (n : ℕ) (a : RangePart) (k : KeyPart) → IsSlot s n → IsMode a k →
      ((q : ℕ) → InSpan s n q → RangeAtMost (r.range q) a) → KeyAtMost (r.key n) k →
      RangeAtMost (range n) a × KeyAtMost (key n) k

-- The steps of one link: of the client, or of the server on this link only
pub data LinkStep (s : Shared) (l : Link) : Link → Type 0 where
  -- a client that is down starts, with the next incarnation: it holds nothing, and sends Hello
  starts : l.up ≡ false →
      LinkStep s l (record l {
        client = record l.client {
          up = true;
          inc = suc l.inc;
          epoch = 0;
          seen = 0;
          range = no_range;
          key = no_key;
          issued = 0;
          out = None;
        };
        hellos = suc l.inc ∷ l.hellos;
      })
  -- it crashes
  crashes :
      LinkStep s l (record l { client = record l.client { up = false; range = no_range; key = no_key; out = None } })
  -- it leaves, and sends Bye
  leaves : l.up ≡ true →
      LinkStep s l (record l {
        client = record l.client { up = false; range = no_range; key = no_key; out = None };
        byes = l.inc ∷ l.byes;
      })
  -- it takes an Epoch message of a later epoch: it joins that epoch, and sends a Report of what it holds
  joins : (n : Notice) → In n l.notices → l.up ≡ true → n.inc ≡ l.inc → l.epoch < n.epoch →
      LinkStep s l (record l {
        client = record l.client { epoch = n.epoch; seen = 0 };
        reports = record { inc = l.inc; epoch = n.epoch; range = l.range; key = l.key } ∷ l.reports;
      })
  -- it accepts the next push: it adopts what the push states that it holds, and sends Ack
  accepts : (p : Push) (out : Option Op) → In p l.pushes → IsLive l p → OutAfter l p out →
      LinkStep s l (record l {
        client = record l.client {
          seen = suc l.seen;
          range = λ q. (adopted l p q).range;
          key = λ q. (adopted l p q).key;
          value = λ q. (adopted l p q).value;
          out = out;
        };
        heads = record { inc = l.inc; epoch = l.epoch; seen = suc l.seen } ∷ l.heads;
      })
  -- it lowers what it holds, for a callback or of its own accord, off the key of its outstanding write, and sends
  -- Release
  lowers : (r : Release) (range : ℕ → RangePart) (key : ℕ → KeyPart) →
      l.up ≡ true → 1 ≤ l.epoch → r.head ≡ head_of l → IsMode r.range r.key →
      ((op : Op) → l.out ≡ Some op → (op_key op < r.lo) ⊎ (r.last < op_key op)) →
      ((q : ℕ) → Lowered r.lo r.last r.range r.key (l.range q) (l.key q) (range q) (key q) q) →
      LinkStep s l (record l {
        client = record l.client { range = range; key = key };
        heads = r.head ∷ l.heads;
        releases = r ∷ l.releases;
      })
  -- it issues its next write, if none is outstanding
  issues : (op : Op) → l.up ≡ true → 1 ≤ l.epoch → l.out ≡ None → MayIssue l op →
      LinkStep s l (record l {
        client = record l.client { issued = suc l.issued; out = Some op };
        heads = head_of l ∷ l.heads;
        writes = record { head = head_of l; number = suc l.issued; op = op } ∷ l.writes;
      })
  -- it sends Hello, a Report, a Lock or Ack, or its outstanding write, again
  hellos_again : l.up ≡ true →
      LinkStep s l (record l { hellos = l.inc ∷ l.hellos })
  reports_again : l.up ≡ true → 1 ≤ l.epoch →
      LinkStep s l (record l {
        reports = record { inc = l.inc; epoch = l.epoch; range = l.range; key = l.key } ∷ l.reports;
      })
  speaks : l.up ≡ true → 1 ≤ l.epoch →
      LinkStep s l (record l { heads = head_of l ∷ l.heads })
  writes_again : (op : Op) → l.up ≡ true → 1 ≤ l.epoch → l.out ≡ Some op →
      LinkStep s l (record l {
        heads = head_of l ∷ l.heads;
        writes = record { head = head_of l; number = l.issued; op = op } ∷ l.writes;
      })
  -- the server takes a Hello of a later incarnation: it registers that one, with a blank row, and sends Epoch
  registers : (h : ℕ) → In h l.hellos → s.phase ≢ Down → l.reg < h →
      LinkStep s l (record l {
        reg = h;
        left = false;
        done = 0;
        missing = false;
        last_push = 0;
        acked = true;
        new_range = no_range;
        new_key = no_key;
        top_range = no_range;
        top_key = no_key;
        notices = record { inc = h; epoch = s.epoch } ∷ l.notices;
      })
  -- it sends Epoch
  notifies : s.phase ≢ Down →
      LinkStep s l (record l { notices = record { inc = l.reg; epoch = s.epoch } ∷ l.notices })
  -- it takes a Bye of the registered incarnation: the row becomes blank
  sees_off : (b : ℕ) → In b l.byes → s.phase ≢ Down → b ≡ l.reg →
      LinkStep s l (record l {
        left = true;
        missing = false;
        new_range = no_range;
        new_key = no_key;
        top_range = no_range;
        top_key = no_key;
      })
  -- while it recovers, it takes the report of a missing client, of its own epoch, and rebuilds the row
  takes_report : (r : Report) (range : ℕ → RangePart) (key : ℕ → KeyPart) →
      In r l.reports → s.phase ≡ Recovering → l.missing ≡ true → r.inc ≡ l.reg → r.epoch ≡ s.epoch →
      IsRebuilt s r range key →
      LinkStep s l (record l { missing = false; new_range = range; new_key = key })
  -- a message that passes acknowledges the last push
  takes_head : (a : Head) → In a l.heads → Passes s l a →
      LinkStep s l (record l { acked = true })
  -- it obeys a release
  takes_release : (r : Release) (range : ℕ → RangePart) (key : ℕ → KeyPart) →
      In r l.releases → Passes s l r.head → l.acked ≡ true →
      ((n : ℕ) → IsSlot s n → SlotLowered s r l range key n) → IsRow s range key →
      LinkStep s l (record l { top_range = range; top_key = key })
  -- it judges the next write, and refuses it
  refuses : (w : Write) → In w l.writes → Passes s l w.head → l.acked ≡ true → w.number ≡ suc l.done →
      LinkStep s l (record l { done = suc l.done; applied = false })
  -- it makes the next push, to a client that it has heard in this epoch and that has acknowledged the last one
  pushes : (p : Push) (a : Head) → In a l.heads → a.inc ≡ l.reg → a.epoch ≡ s.epoch →
      s.phase ≡ Serving → l.left ≡ false → l.acked ≡ true →
      p.inc ≡ l.reg → p.epoch ≡ s.epoch → p.number ≡ suc l.last_push →
      ((q : ℕ) (t : Said) → p.says q ≡ Some t → MaySay s l q t) →
      (p.answers ≡ 0) ⊎ AnswersLast l p →
      LinkStep s l (record l { last_push = suc l.last_push; acked = false; pushes = p ∷ l.pushes })

-- steps of one link, one after another, or none
pub data LinkSteps (s : Shared) : Link → Link → Type 0 where
  idle : {l : Link} → LinkSteps s l l
  next : {l m n : Link} → LinkStep s l m → LinkSteps s m n → LinkSteps s l n
