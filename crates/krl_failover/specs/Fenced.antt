-- Many servers over one fenced store. The store keeps what survives: the epoch, the index, and of each client the
-- registered incarnation, whether it left, and its last judged write. It accepts a change only from the server whose
-- epoch is the store's, and a start raises that epoch. So one server, the store's server, takes the steps of
-- krl_machine. The server of each earlier epoch continues for ever, with its own table, on any message that was ever
-- sent; only its steps that change what survives are refused. A server that has crashed is one that takes no more
-- steps.
use Rattle.std.specs.Prelude.{◌≡◌, ◌≢◌, ℕ, suc, Bool, true, false, Option, None, ◌⊎◌}
use Rattle.krl_modes.specs.declared.part.RangePart.{RangePart}
use Rattle.krl_modes.specs.declared.part.KeyPart.{KeyPart}
use Rattle.krl_messages.specs.Values.{Value}
use Rattle.krl_messages.specs.Members.{In}
use Rattle.krl_machine.specs.Links.{op_key, Head, Push, Write, Shared, Link, no_range, no_key}
use Rattle.krl_machine.specs.Worlds.{World, first}

-- The state

-- what the server of an earlier epoch keeps of one client
pub record Kept : Type 0 where
  -- of the durable record, as it was when the next server started
  pub reg : ℕ  -- the registered incarnation
  pub done : ℕ  -- the number of the last write that was judged
  pub applied : Bool  -- whether that one was Applied
  -- of its session
  pub last : ℕ  -- the number of the last push to it
  pub acked : Bool  -- that push counts as acknowledged
  -- of its recovery, if it did not serve yet
  pub missing : Bool  -- its report is waited for
  pub new_range : ℕ → RangePart  -- the row that is rebuilt
  pub new_key : ℕ → KeyPart

-- what the store's server keeps of the client, once the next server has started
abbrev pub kept_of : Link → Kept
kept_of l = record {
  reg = l.reg;
  done = l.done;
  applied = l.applied;
  last = l.last_push;
  acked = l.acked;
  missing = l.missing;
  new_range = l.new_range;
  new_key = l.new_key;
}

pub record Fenced : Type 0 where
  pub world : World  -- the clients, the network, the store, and the server of the store's epoch
  pub bound : ℕ  -- the greatest epoch whose server ever served. Its table is the bound: the rows top_range and top_key
  pub old : ℕ → ℕ → Kept  -- of each earlier epoch and client
  pub copy : ℕ → ℕ → Option Value  -- the index, as the server of each earlier epoch has it in memory

-- nothing is known of the client
abbrev pub blank_kept : Kept
blank_kept = record {
  reg = 0;
  done = 0;
  applied = false;
  last = 0;
  acked = true;
  missing = false;
  new_range = no_range;
  new_key = no_key;
}

-- the first world: a server in epoch 1 serves, and there is no earlier one
abbrev pub first_fenced : (ℕ → Option Value) → ℕ → Fenced
first_fenced index end = record {
  world = first index end;
  bound = 1;
  old = λ e c. blank_kept;
  copy = λ e q. None;
}

-- What the steps of old servers ask for

-- the incarnation that the old server knows is still registered, and has not left
abbrev pub IsHere : Link → Kept → Type 0
IsHere l z = (z.reg ≡ l.reg) × (l.left ≡ false)

-- the points as the old server of the epoch e sees them, by its own copy of the index
abbrev pub seen_by : Fenced → ℕ → Shared
seen_by f e = record f.world.shared { index = f.copy e }

-- what the old server of the epoch e keeps of c is now z, and all else that old servers keep is as before
pub record Turned (old new : ℕ → ℕ → Kept) (e c : ℕ) (z : Kept) : Type 0 where
  pub here : new e c ≡ z
  pub rest : (f d : ℕ) → (f ≢ e) ⊎ (d ≢ c) → new f d ≡ old f d

-- the push answers the last write of the old server's record, as that record states, and speaks of its key
pub record AnswersKept (l : Link) (z : Kept) (p : Push) : Type 0 where
  pub write : Write
  pub sent : In write l.writes
  pub inc : write.head.inc ≡ z.reg
  pub number : write.number ≡ z.done
  pub answers : p.answers ≡ z.done
  pub applied : p.applied ≡ z.applied
  pub speaks : p.says (op_key write.op) ≢ None

-- the session of the old server of the epoch e lets it make this push: it has heard the client in its epoch, and its
-- last push is acknowledged
pub record MayPush (l : Link) (e : ℕ) (z : Kept) (p : Push) : Type 0 where
  pub head : Head
  pub heard : In head l.heads
  pub head_inc : head.inc ≡ z.reg
  pub head_epoch : head.epoch ≡ e
  pub acked : z.acked ≡ true
  pub inc : p.inc ≡ z.reg
  pub epoch : p.epoch ≡ e
  pub number : p.number ≡ suc z.last
  pub answers : (p.answers ≡ 0) ⊎ AnswersKept l z p

-- the bound's row is now what the old server has rebuilt; that of an incarnation that is gone stays as it was
pub data Finished (l : Link) (z : Kept) : Link → Type 0 where
  here_rows : IsHere l z → Finished l z (record l { top_range = z.new_range; top_key = z.new_key })
  gone_rows : (IsHere l z → ⊥) → Finished l z l
