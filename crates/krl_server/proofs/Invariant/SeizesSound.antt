-- A write that takes its lock: the client holds then what the write needs, so that it is applied, and the server stays
-- sound.
use Rattle.krl_server.proofs.Names.{◌≡◌, ◌≢◌, ℕ, suc, ◌≤◌, ◌<◌, Bool, true, false, not, ◌&&◌, Some, None, refl, sym, ap, subst, ◌∙◌, arith, and_parts, none-some, is_some, nat_eq, END, Mode, Value, needs_entry}
use Rattle.krl_server.proofs.Names.{WriteOp, Outcome, op_key, is_applied, In, Waiter, Index, slot_of, judge, held, Rows, column, mode_at, with_mode, wanted, raised, max_clients, nobody_waits, is_wanted_compatible}
use Rattle.krl_server.proofs.Names.{Server, judged, can_seize, lock_for, may_seize, seizes, writes, IsSound, if◌then◌else◌}
use Rattle.std.specs.FinMap as map
use Rattle.krl_modes.specs.Modes.{range_of, key_of, join}
use Rattle.krl_modes.specs.Parts.{lets_insert, is_key_X}
use Rattle.krl_modes.specs.declared.mode.Mode.TheVariants as mode
use Rattle.krl_messages.specs.declared.write_op.WriteOp.TheVariants as write
use Rattle.krl_messages.specs.declared.outcome.Outcome.TheVariants as outcome
use Rattle.krl_modes.proofs.Basics.{Some-if_some}
use Rattle.krl_table.specs.Grants.{is_open_to}
use Rattle.krl_table.proofs.Invariant.Compatible.{mode_here, mode_other}
use Rattle.krl_server.proofs.Updates.{row_here}
use Rattle.krl_server.proofs.Slots.{slot_here, slot_unique}
use Rattle.krl_server.proofs.Grants.{raised_queue}
use Rattle.krl_server.proofs.Invariant.WritesSound.{change_may}
use Rattle.krl_server.proofs.Invariant.AnswersSound.{one_sound}

-- what may_seize states
pub record MaySeize (s : Server) (c : ℕ) (op : WriteOp) : Type 0 where
  pub lock : can_seize op ≡ true
  pub applied : judge s.durable.room s.durable.index op true ≡ outcome.Applied
  pub alone : nobody_waits (s.rows (slot_of s.durable.index (op_key op))).queue ≡ true
  pub compatible : is_wanted_compatible s.rows (slot_of s.durable.index (op_key op)) (lock_for c op) ≡ true

is_Applied : (o : Outcome) → is_applied o ≡ true → o ≡ outcome.Applied
is_Applied outcome.Applied e = refl
is_Applied outcome.Exists e = absurd (cc)
is_Applied outcome.Absent e = absurd (cc)
is_Applied outcome.NotHeld e = absurd (cc)
is_Applied outcome.Full e = absurd (cc)

pub take_is : (s : Server) (c : ℕ) (op : WriteOp) → may_seize s c op ≡ true → MaySeize s c op
take_is s c op e =
    let n = slot_of s.durable.index (op_key op) in
    let u = lock_for c op in
    let x = and_parts (can_seize op) _ e in
    let y = and_parts (is_applied (judge s.durable.room s.durable.index op true)) (is_open_to s.rows n u) x.1 in
    let z = and_parts (nobody_waits (s.rows n).queue) (is_wanted_compatible s.rows n u && not (needs_entry u.mode && nat_eq n END)) y.1 in
    record {
      lock = x.0;
      applied = is_Applied (judge s.durable.room s.durable.index op true) y.0;
      alone = z.0;
      compatible = (and_parts (is_wanted_compatible s.rows n u) (not (needs_entry u.mode && nat_eq n END)) z.1).0;
    }

inserts_with : (g : Mode) → lets_insert (range_of (join g mode.RangeIN)) ≡ true
inserts_with mode.N = refl
inserts_with mode.S = refl
inserts_with mode.U = refl
inserts_with mode.X = refl
inserts_with mode.RangeSS = refl
inserts_with mode.RangeSU = refl
inserts_with mode.RangeIN = refl
inserts_with mode.RangeIS = refl
inserts_with mode.RangeIU = refl
inserts_with mode.RangeIX = refl
inserts_with mode.RangeXS = refl
inserts_with mode.RangeXU = refl
inserts_with mode.RangeXX = refl

puts_with : (g : Mode) → is_key_X (key_of (join g mode.X)) ≡ true
puts_with mode.N = refl
puts_with mode.S = refl
puts_with mode.U = refl
puts_with mode.X = refl
puts_with mode.RangeSS = refl
puts_with mode.RangeSU = refl
puts_with mode.RangeIN = refl
puts_with mode.RangeIS = refl
puts_with mode.RangeIU = refl
puts_with mode.RangeIX = refl
puts_with mode.RangeXS = refl
puts_with mode.RangeXU = refl
puts_with mode.RangeXX = refl

-- the slot of a key is the key
key_slot : (m : Index) → ((q : ℕ) → END ≤ q → map.get m q ≡ None) → (k : ℕ) (v : Value) → k < END → map.get m k ≡ Some v → slot_of m k ≡ k
key_slot m near k v lt present =
    let x = slot_here m near k (omega (arith, lt)) in
    slot_unique m (slot_of m k) k k x.0 (λ far none. none-some v (sym none ∙ present)) x.1
    (omega arith, λ j a b. absurd (omega (arith, a, b)))

-- what the client holds on the slot that rose
raised_here : (rows : Rows) (n : ℕ) (u : Waiter) → column (raised rows n u) u.client n ≡ wanted (rows n) u
raised_here rows n u = ap (λ r. r.modes u.client) (row_here rows n (with_mode (rows n) u.client (wanted (rows n) u))) ∙ mode_here (rows n).modes u.client (wanted (rows n) u)

-- with the lock that it takes, the client holds what the write needs
pub take_holds : (s : Server) (c : ℕ) (op : WriteOp) → IsSound s → op_key op < END → MaySeize s c op → held s.durable.index (column (seizes s c op).rows c) op ≡ true
take_holds s c (write.Insert k v) i under t =
    let n = slot_of s.durable.index k in
    ap (λ g. lets_insert (range_of g)) (raised_here s.rows n (lock_for c (write.Insert k v))) ∙ inserts_with (mode_at s.rows n c)
take_holds s c (write.Put k v) i under t =
    let n = slot_of s.durable.index k in
    let present = Some-if_some (map.get s.durable.index k) (change_may (is_some (map.get s.durable.index k)) true t.applied).0 in
    let same = key_slot s.durable.index i.near k present.0 under present.1 in
    ap (λ j. is_key_X (key_of (column (raised s.rows n (lock_for c (write.Put k v))) c j))) (sym same)
    ∙ ap (λ g. is_key_X (key_of g)) (raised_here s.rows n (lock_for c (write.Put k v))) ∙ puts_with (mode_at s.rows n c)
take_holds s c (write.Delete k) i under t = let e = t.lock in absurd (cc)

-- so it is applied
pub take_judged : (s : Server) (c : ℕ) (op : WriteOp) → IsSound s → op_key op < END → MaySeize s c op → judged (seizes s c op) c op ≡ outcome.Applied
take_judged s c op i under t = ap (judge s.durable.room s.durable.index op) (take_holds s c op i under t) ∙ t.applied

pub takes_sound : (s : Server) (c : ℕ) (op : WriteOp) → IsSound s → c < max_clients → IsSound (seizes s c op)
takes_sound s c op i lt =
    let n = slot_of s.durable.index (op_key op) in
    let u = lock_for c op in
    one_sound s i c n (with_mode (s.rows n) c (wanted (s.rows n) u)) (λ d ne. mode_other (s.rows n).modes c d (wanted (s.rows n) u) ne)
    (λ m v at. subst (In v) (raised_queue s.rows n u m) at) lt

-- a write that asks for its lock, made of the server x that has taken it, if it may
pub written_with : (s x t : Server) (c : ℕ) (op : WriteOp) (o : Outcome) (b : Bool) → IsSound s → op_key op < END → b ≡ may_seize s c op → x ≡ (if b then seizes s c op else s) → o ≡ judged x c op → t ≡ writes x c op o → (o ≡ (if may_seize s c op then outcome.Applied else judged s c op)) × (t ≡ (if may_seize s c op then writes (seizes s c op) c op outcome.Applied else writes s c op (judged s c op)))
written_with s x t c op o true i under may taken is done =
    let applied = is ∙ ap (λ y. judged y c op) taken ∙ take_judged s c op i under (take_is s c op (sym may)) in (
      applied ∙ ap (λ b. if b then outcome.Applied else judged s c op) may,
      done ∙ ap (λ y. writes y c op o) taken ∙ ap (λ p. writes (seizes s c op) c op p) applied
          ∙ ap (λ b. if b then writes (seizes s c op) c op outcome.Applied else writes s c op (judged s c op)) may,
    )
written_with s x t c op o false i under may taken is done =
    let same = is ∙ ap (λ y. judged y c op) taken in (
      same ∙ ap (λ b. if b then outcome.Applied else judged s c op) may,
      done ∙ ap (λ y. writes y c op o) taken ∙ ap (λ p. writes s c op p) same
          ∙ ap (λ b. if b then writes (seizes s c op) c op outcome.Applied else writes s c op (judged s c op)) may,
    )
