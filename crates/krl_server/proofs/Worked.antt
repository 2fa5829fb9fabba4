-- Worked rows: small servers, computed.
use Rattle.krl_modes.specs.declared.limits.TheConstants.{STANDARD_REACH}
use Rattle.krl_server.proofs.Names.{◌≡◌, ℕ, suc, List, [], ◌∷◌, ◌++◌, map, Option, Some, None, refl, Mode, Holding, ToServer, ToClient, PushBody, Waiter, Index, is_slot, new_record, STANDARD_ROOM}
use Rattle.krl_server.proofs.Names.{END, Bounds, Value, Pieces, range_at, key_at, lowered, adopted, Row, Rows, blank_row, max_clients, mode_at, Session, Server, case_of, Judges, Ignored, Registers}
use Rattle.krl_server.proofs.Names.{Waits, Lowers, Rebuilds, AnswersAgain, callbacks_from, Done, effect, Turn, next_turn, answer_first, crash, start}
use Rattle.std.specs.Prelude.{false, nat_eq, if◌then◌else◌}
use Rattle.std.specs.FinMap as map
use Rattle.krl_modes.specs.declared.part.RangePart.TheVariants as range
use Rattle.krl_modes.specs.declared.part.KeyPart.TheVariants as key
use Rattle.krl_modes.specs.declared.mode.Mode.TheVariants as mode
use Rattle.krl_messages.specs.declared.write_op.WriteOp.TheVariants as write
use Rattle.krl_messages.specs.declared.outcome.Outcome.TheVariants as outcome
use Rattle.krl_messages.specs.declared.to_server.ToServerBody.TheVariants as said
use Rattle.krl_messages.specs.declared.to_server.RequestBody.{RequestBody}
use Rattle.krl_messages.specs.declared.to_server.RequestBody.TheVariants as asked
use Rattle.krl_messages.specs.declared.to_client.ToClientBody.TheVariants as told
use Rattle.krl_messages.specs.declared.to_client.PushBody.TheVariants as push

-- a value of one byte
abbrev byte : ℕ → Value
byte n = n ∷ []

abbrev asks : ℕ → ℕ → RequestBody → ToServer
asks c seen body = record { client = c; incarnation = 1; body = said.Request (record { epoch = 1; seen = seen; body = body }) }

abbrev hello : ℕ → ToServer
hello c = record { client = c; incarnation = 1; body = said.Hello }

abbrev the_push : ℕ → ℕ → PushBody → ToClient
the_push c number body = record { client = c; incarnation = 1; body = told.Push 1 number body }

abbrev held : ℕ → ℕ → Mode → Option Value → Holding
held lo hi g value = record { span = record { lo = lo; hi = hi }; mode = g; value = value }

abbrev two : List (ℕ × Value)
two = (10, byte 1) ∷ (20, byte 2) ∷ []

-- two clients of incarnation 1, which have acknowledged their last pushes
abbrev server : Index → Rows → (ℕ → Session) → Server
server m rows sessions = record { durable = record { room = STANDARD_ROOM; reach = STANDARD_REACH; index = m; epoch = 1; register = (0, new_record 1) ∷ (1, new_record 1) ∷ [] }; rows = rows; sessions = sessions; missing = [] }

abbrev session : ℕ → ℕ → ℕ → Session
session last_push asked c = record { last_push = last_push; unacked = None; last_request = asked }

abbrev waiter : ℕ → ℕ → ℕ → Mode → Waiter
waiter c req point g = record { client = c; req = req; point = point; hi = suc point; mode = g }

abbrev turn : ℕ → Waiter → Turn
turn n u = record { slot = n; waiter = u }

abbrev row : Mode → Mode → List Waiter → Row
row a b queue = record { modes = λ c. if nat_eq c 0 then a else (if nat_eq c 1 then b else mode.N); queue = queue }

-- A server that has just started hears Hello, and grants the gap below 10

abbrev begun : Index → Server
begun m = start (record { room = STANDARD_ROOM; reach = STANDARD_REACH; index = m; epoch = 0; register = [] })

abbrev joined : Index → Server
joined m = (effect (begun m) (hello 0) Registers).server

abbrev lock_gap : ToServer
lock_gap = asks 0 0 (asked.Lock 1 5 6 mode.RangeSS)

abbrev gap_asked : Index → Server
gap_asked m = (effect (joined m) lock_gap (Waits 1 5 6 mode.RangeSS)).server

abbrev gap_turn : Turn
gap_turn = turn 10 (waiter 0 1 5 mode.RangeSS)

row_1_hello : (m : Index) → case_of (begun m) (hello 0) ≡ Registers
unfolding max_clients
row_1_hello m = refl

row_1_told : (m : Index) → (effect (begun m) (hello 0) Registers).outs ≡ record { client = 0; incarnation = 1; body = told.Epoch 1 } ∷ []
row_1_told m = refl

row_1_lock : (m : Index) → map.entries m ≡ two → case_of (joined m) lock_gap ≡ Waits 1 5 6 mode.RangeSS
unfolding max_clients
row_1_lock m e = simp (e, map.get-entries)

row_1_turn : (m : Index) → map.entries m ≡ two → next_turn (gap_asked m) ≡ Some gap_turn
unfolding max_clients
row_1_turn m e = simp (e, map.get-entries)

row_1_granted : (m : Index) → map.entries m ≡ two → (answer_first (gap_asked m) gap_turn).outs ≡ the_push 0 1 (push.Grant 1 (held 0 11 mode.RangeSS (Some (byte 1)) ∷ [])) ∷ []
unfolding max_clients
row_1_granted m e = simp (e, map.get-entries)

row_1_ends : (m : Index) → map.entries m ≡ two → next_turn (answer_first (gap_asked m) gap_turn).server ≡ None
unfolding max_clients
row_1_ends m e = simp (e, map.get-entries)

-- Two clients that hold RangeI-N on one gap: the first inserts

abbrev insert_15 : ToServer
insert_15 = asks 0 1 (asked.Write 1 (write.Insert 15 (byte 5)) false)

abbrev shared_gap : Index → Server
shared_gap m = server m (λ n. if nat_eq n 20 then row mode.RangeIN mode.RangeIN [] else blank_row) (session 1 1)

abbrev inserted : Index → Done
inserted m = effect (shared_gap m) insert_15 (Judges 1 (write.Insert 15 (byte 5)) outcome.Applied)

row_5_case : (m : Index) → map.entries m ≡ two → case_of (shared_gap m) insert_15 ≡ Judges 1 (write.Insert 15 (byte 5)) outcome.Applied
unfolding max_clients
row_5_case m e = simp (e, map.get-entries)

row_5_answer : (m : Index) → map.entries m ≡ two → map.entries (map.insert m 15 (byte 5)) ≡ (10, byte 1) ∷ (15, byte 5) ∷ (20, byte 2) ∷ [] → (inserted m).outs ≡ the_push 0 2 (push.Answer 1 outcome.Applied (held 11 16 mode.RangeIX (Some (byte 5)))) ∷ []
row_5_answer m e f = simp (e, f, map.get-entries)

row_5_modes : (m : Index) → map.entries m ≡ two → map (mode_at (inserted m).server.rows 15) (0 ∷ 1 ∷ 2 ∷ []) ++ map (mode_at (inserted m).server.rows 20) (0 ∷ 1 ∷ 2 ∷ []) ≡ mode.RangeIX ∷ mode.RangeIN ∷ mode.N ∷ mode.RangeIN ∷ mode.RangeIN ∷ mode.N ∷ []
row_5_modes m e = simp e

row_5_points : (m : Index) → map.entries (map.insert m 15 (byte 5)) ≡ (10, byte 1) ∷ (15, byte 5) ∷ (20, byte 2) ∷ [] → map.entries m ≡ two → map (range_at (map.insert m 15 (byte 5)) (inserted m).server.rows 1) (10 ∷ 11 ∷ 15 ∷ 17 ∷ []) ≡ range.N ∷ range.I ∷ range.I ∷ range.I ∷ []
row_5_points m f e = simp (e, f)

-- An old Release is passed over. A waiter for an entry that another client reads has that lock called back, and is
-- granted the entry then

abbrev read_gap : Index → Server
read_gap m = server m (λ n. if nat_eq n 10 then row mode.RangeSS mode.N [] else blank_row) (λ c. if nat_eq c 0 then session 2 2 c else session 0 0 c)

abbrev below_11 : Bounds
below_11 = record { lo = 0; hi = 11 }

row_8_old : (m : Index) → case_of (read_gap m) (asks 0 1 (asked.Release below_11 mode.N)) ≡ Ignored
unfolding max_clients
row_8_old m = refl

abbrev lock_10 : ToServer
lock_10 = asks 1 0 (asked.Lock 1 10 11 mode.X)

row_8_case : (m : Index) → map.entries m ≡ two → case_of (read_gap m) lock_10 ≡ Waits 1 10 11 mode.X
unfolding max_clients
row_8_case m e = simp e

row_8_queue : (m : Index) → map.entries m ≡ two → ((effect (read_gap m) lock_10 (Waits 1 10 11 mode.X)).server.rows 10).queue ≡ waiter 1 1 10 mode.X ∷ []
row_8_queue m e = simp e

abbrev entry_asked : Index → Server
entry_asked m = server m (λ n. if nat_eq n 10 then row mode.RangeSS mode.N (waiter 1 1 10 mode.X ∷ []) else blank_row) (λ c. if nat_eq c 0 then session 2 2 c else session 0 1 c)

row_8_blocked : (m : Index) → map.entries m ≡ two → next_turn (entry_asked m) ≡ None
unfolding max_clients
row_8_blocked m e = simp (e, map.get-entries)

abbrev called_back : List ToClient
called_back = record { client = 0; incarnation = 1; body = told.Callback 1 below_11 mode.RangeIN } ∷ []

row_8_callbacks : (m : Index) → map.entries m ≡ two → callbacks_from (entry_asked m) 10 (waiter 1 1 10 mode.X) 0 3 ≡ called_back
row_8_callbacks m e = simp e

row_8_release : (m : Index) → case_of (entry_asked m) (asks 0 2 (asked.Release below_11 mode.RangeIN)) ≡ Lowers below_11 mode.RangeIN
unfolding max_clients
row_8_release m = refl

row_8_lowered : (m : Index) → map.entries m ≡ two → mode_at (effect (entry_asked m) (asks 0 2 (asked.Release below_11 mode.RangeIN)) (Lowers below_11 mode.RangeIN)).server.rows 10 0 ≡ mode.N
row_8_lowered m e = simp (map.get-entries, e, lowered, is_slot)

abbrev released : Index → Server
released m = server m (λ n. if nat_eq n 10 then row mode.N mode.N (waiter 1 1 10 mode.X ∷ []) else blank_row) (λ c. if nat_eq c 0 then session 2 2 c else session 0 1 c)

row_8_turn : (m : Index) → map.entries m ≡ two → next_turn (released m) ≡ Some (turn 10 (waiter 1 1 10 mode.X))
unfolding max_clients
row_8_turn m e = simp (e, map.get-entries)

row_8_granted : (m : Index) → map.entries m ≡ two → (answer_first (released m) (turn 10 (waiter 1 1 10 mode.X))).outs ≡ the_push 1 1 (push.Grant 1 (held 0 11 mode.X (Some (byte 1)) ∷ [])) ∷ []
unfolding max_clients
row_8_granted m e = simp (e, map.get-entries)

-- A put

abbrev put_10 : ToServer
put_10 = asks 0 2 (asked.Write 1 (write.Put 10 (byte 9)) false)

abbrev all_read : Index → Server
all_read m = server m (λ n. if nat_eq n 10 then row mode.RangeXX mode.N [] else (if nat_eq n 20 then row mode.RangeSS mode.N [] else blank_row)) (session 2 2)

row_10_case : (m : Index) → map.entries m ≡ two → case_of (all_read m) put_10 ≡ Judges 1 (write.Put 10 (byte 9)) outcome.Applied
unfolding max_clients
row_10_case m e = simp (e, map.get-entries)

row_10_answer : (m : Index) → map.entries (map.insert m 10 (byte 9)) ≡ (10, byte 9) ∷ (20, byte 2) ∷ [] → (effect (all_read m) put_10 (Judges 1 (write.Put 10 (byte 9)) outcome.Applied)).outs ≡ the_push 0 3 (push.Answer 1 outcome.Applied (held 0 11 mode.RangeXX (Some (byte 9)))) ∷ []
row_10_answer m f = simp (f, map.get-entries)

-- A delete, then a restart and a report; and the answer again

abbrev delete_10 : ToServer
delete_10 = asks 0 2 (asked.Write 1 (write.Delete 10) false)

abbrev all_held : Index → Server
all_held m = server m (λ n. if nat_eq n 10 then row mode.RangeXX mode.N [] else (if nat_eq n 20 then row mode.RangeXX mode.N [] else blank_row)) (session 2 2)

abbrev deleted : Index → Done
deleted m = effect (all_held m) delete_10 (Judges 1 (write.Delete 10) outcome.Applied)

row_12_case : (m : Index) → map.entries m ≡ two → case_of (all_held m) delete_10 ≡ Judges 1 (write.Delete 10) outcome.Applied
unfolding max_clients
row_12_case m e = simp (e, map.get-entries)

row_12_answer : (m : Index) → map.entries m ≡ two → map.entries (map.remove m 10) ≡ (20, byte 2) ∷ [] → (deleted m).outs ≡ the_push 0 3 (push.Answer 1 outcome.Applied (held 0 21 mode.RangeXX (Some (byte 2)))) ∷ []
row_12_answer m e f = simp (e, f, map.get-entries)

abbrev restarted : Index → Server
restarted m = start (crash (deleted m).server)

row_12_missing : (m : Index) → (restarted m).missing ≡ 0 ∷ 1 ∷ []
row_12_missing m = refl

abbrev pieces : Pieces
pieces = record {
  ranges = record { span = record { lo = 0; hi = 11 }; part = range.X } ∷ record { span = record { lo = 11; hi = 21 }; part = range.X } ∷ [];
  keys = record { point = 10; part = key.X } ∷ record { point = 20; part = key.X } ∷ [];
}

abbrev report : ToServer
report = record { client = 0; incarnation = 1; body = said.Report 2 pieces }

row_12_report : (m : Index) → map.entries (map.remove m 10) ≡ (20, byte 2) ∷ [] → case_of (restarted m) report ≡ Rebuilds pieces
unfolding max_clients
row_12_report m f = simp f

abbrev reported : Index → Rows
reported m = adopted (map.remove m 10) (λ n. blank_row) 0 pieces

row_12_rebuilt : (m : Index) → map.entries (map.remove m 10) ≡ (20, byte 2) ∷ [] → mode_at (reported m) 20 0 ≡ mode.RangeXX
row_12_rebuilt m f = simp (map.get-entries, f, adopted, is_slot)

row_12_end : (m : Index) → map.entries (map.remove m 10) ≡ (20, byte 2) ∷ [] → mode_at (reported m) END 0 ≡ mode.N
row_12_end m f = simp f

row_12_range : (m : Index) → map.entries (map.remove m 10) ≡ (20, byte 2) ∷ [] → range_at (map.remove m 10) (reported m) 0 10 ≡ range.X
row_12_range m f = simp (f, map.get-entries, adopted, is_slot)

row_12_key : (m : Index) → map.entries (map.remove m 10) ≡ (20, byte 2) ∷ [] → key_at (map.remove m 10) (reported m) 0 10 ≡ key.X
row_12_key m f = simp (f, map.get-entries, adopted, is_slot)

row_12_again : (m : Index) → case_of (record (restarted m) { missing = [] }) (record { client = 0; incarnation = 1; body = said.Request (record { epoch = 2; seen = 0; body = asked.Write 1 (write.Delete 10) false }) }) ≡ AnswersAgain 1 (write.Delete 10) outcome.Applied
unfolding max_clients
row_12_again m = refl

-- Two that read one entry ask only for it: the later goes to the front, and calls the earlier back

abbrev both_read : Index → Server
both_read m = server m (λ n. if nat_eq n 10 then row mode.S mode.S [] else blank_row) (session 1 1)

abbrev converts : ℕ → Server → Server
converts c s = (effect s (asks c 1 (asked.Lock 2 10 11 mode.X)) (Waits 2 10 11 mode.X)).server

row_18_queue : (m : Index) → map.entries m ≡ (10, byte 1) ∷ [] → ((converts 1 (converts 0 (both_read m))).rows 10).queue ≡ waiter 1 2 10 mode.X ∷ waiter 0 2 10 mode.X ∷ []
row_18_queue m e = simp e

abbrev converting : Index → Mode → Mode → List Waiter → Server
converting m a b queue = server m (λ n. if nat_eq n 10 then row a b queue else blank_row) (session 1 2)

row_18_callbacks : (m : Index) → map.entries m ≡ (10, byte 1) ∷ [] → callbacks_from (converting m mode.S mode.S []) 10 (waiter 1 2 10 mode.X) 0 3 ≡ called_back
row_18_callbacks m e = simp e

row_18_turn : (m : Index) → map.entries m ≡ (10, byte 1) ∷ [] → next_turn (converting m mode.N mode.S (waiter 1 2 10 mode.X ∷ waiter 0 2 10 mode.X ∷ [])) ≡ Some (turn 10 (waiter 1 2 10 mode.X))
unfolding max_clients
row_18_turn m e = simp (e, map.get-entries)

row_18_then : (m : Index) → map.entries m ≡ (10, byte 1) ∷ [] → callbacks_from (converting m mode.N mode.X []) 10 (waiter 0 2 10 mode.X) 0 3 ≡ record { client = 1; incarnation = 1; body = told.Callback 1 below_11 mode.RangeIN } ∷ []
row_18_then m e = simp e
