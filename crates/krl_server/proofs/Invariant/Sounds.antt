-- Each case leaves the server sound.
use Rattle.krl_server.proofs.Names.{◌≡◌, ℕ, ◌≤◌, ◌<◌, false, not, Option, Some, None, refl, sym, ap, subst, ◌∙◌, ⊎_elim, END, WriteOp, Outcome, ToServer, Waiter, eq_cases, Record, slot_of, record_of}
use Rattle.krl_server.proofs.Names.{left_by, op_key, is_applied, In, Row, Rows, max_clients, mode_at, with_queue, queue_with, cleared, in_unqueue, in_queue_with, Server, Judges, judged, case_of}
use Rattle.krl_server.proofs.Names.{effect, acknowledged, queues, departs, IsSound}
use Rattle.krl_table.proofs.Invariant.Compatible.{mode_here, mode_other}
use Rattle.krl_modes.specs.declared.mode.Mode.TheVariants as mode
use Rattle.krl_messages.specs.declared.outcome.Outcome.TheVariants as outcome
use Rattle.krl_messages.specs.declared.to_client.PushBody.TheVariants as push
use Rattle.krl_server.specs.Effects as effects
use Rattle.krl_server.proofs.Updates.{row_modes}
use Rattle.krl_server.proofs.Invariant.AnswersSound.{acknowledged_sound, pushes_sound}
use Rattle.krl_server.proofs.Invariant.WritesSound.{with_noted, refusal_is, writes_sound}
use Rattle.krl_server.proofs.Invariant.SeizesSound.{take_is, take_judged, takes_sound}
use Rattle.krl_server.proofs.Turns.{in_row}
use Rattle.krl_server.proofs.Invariant.RowsSound.{lowered_sound, adopts_sound}
use Rattle.krl_server.proofs.Cased.{IsFrom, by_case}

-- a client's modes become N, and it no longer waits
cleared_strangers : (rows : Rows) (c n d : ℕ) → mode_at rows n d ≡ mode.N → mode_at (cleared rows c) n d ≡ mode.N
cleared_strangers rows c n d e = eq_cases d c (λ f. subst (λ x. mode_at (cleared rows c) n x ≡ mode.N) (sym f) (mode_here (rows n).modes c mode.N)) (λ ne. mode_other (rows n).modes c d mode.N ne ∙ e)

registers_sound : (s : Server) (c inc : ℕ) → IsSound s → IsSound (effects.registers s c inc)
registers_sound s c inc i = record {
  near = i.near;
  begun = i.begun;
  strangers = λ n d ge. cleared_strangers s.rows c n d (i.strangers n d ge);
  placed = λ n u at. i.placed n u (in_unqueue (s.rows n).queue c u at).0;
  clients = λ n u at. i.clients n u (in_unqueue (s.rows n).queue c u at).0;
}

departs_sound : (s : Server) (c : ℕ) → IsSound s → IsSound (departs s c)
departs_sound s c i = by_record (record_of s.durable.register c)
  where
    by_record : (o : Option Record) → IsSound (record (departs s c) { durable = left_by s.durable c o })
    by_record None = record {
      near = i.near;
      begun = i.begun;
      strangers = λ n d ge. cleared_strangers s.rows c n d (i.strangers n d ge);
      placed = λ n u at. i.placed n u (in_unqueue (s.rows n).queue c u at).0;
      clients = λ n u at. i.clients n u (in_unqueue (s.rows n).queue c u at).0;
    }
    by_record (Some r) = record {
      near = i.near;
      begun = i.begun;
      strangers = λ n d ge. cleared_strangers s.rows c n d (i.strangers n d ge);
      placed = λ n u at. i.placed n u (in_unqueue (s.rows n).queue c u at).0;
      clients = λ n u at. i.clients n u (in_unqueue (s.rows n).queue c u at).0;
    }

-- a waiter of a client, at a point, waits at the point's slot
pub queues_sound : (s : Server) (u : Waiter) → u.client < max_clients → u.point ≤ END → IsSound s → IsSound (queues s u)
queues_sound s u lt le i =
    let n = slot_of s.durable.index u.point in
    let row : Row = with_queue (s.rows n) (queue_with (s.rows n) u) in
    record {
      near = i.near;
      begun = i.begun;
      strangers = λ m d ge. sym (row_modes s.rows n row d refl m) ∙ i.strangers m d ge;
      placed = λ m v at. ⊎_elim
          (λ (x : (m ≡ n) × In v row.queue). ⊎_elim
          (λ (e : v ≡ u). (subst (λ y. y.point ≤ END) (sym e) le, ap (λ y. slot_of s.durable.index y.point) e ∙ sym x.0))
          (λ (old : In v (s.rows n).queue). i.placed m v (subst (λ y. In v (s.rows y).queue) (sym x.0) old)) (in_queue_with (s.rows n) u v x.1))
          (λ (old : In v (s.rows m).queue). i.placed m v old)
          (in_row s.rows n row m v at);
      clients = λ m v at. ⊎_elim
          (λ (x : (m ≡ n) × In v row.queue). ⊎_elim
          (λ (e : v ≡ u). subst (λ y. y.client < max_clients) (sym e) lt)
          (λ (old : In v (s.rows n).queue). i.clients n v old) (in_queue_with (s.rows n) u v x.1))
          (λ (old : In v (s.rows m).queue). i.clients m v old)
          (in_row s.rows n row m v at);
    }

refused_sound : (s : Server) (c number : ℕ) (op : WriteOp) (o : Outcome) (r : Record) → record_of s.durable.register c ≡ Some r → is_applied o ≡ false → IsSound s → IsSound (effects.tells_outcome (effects.writes (acknowledged s c) c op o) c number op o).server
refused_sound s c number op o r known not i =
    let t = with_noted (acknowledged s c) c o r in
    subst (λ t. IsSound (effects.tells_outcome t c number op o).server) (refusal_is (acknowledged s c) c op o r known not)
    (pushes_sound t c (push.Answer number o (effects.holding t (slot_of t.durable.index (op_key op)) c)) (record { near = i.near; begun = i.begun; strangers = i.strangers; placed = i.placed; clients = i.clients }))

judges_sound : (s : Server) (m : ToServer) (r : Record) (number : ℕ) (op : WriteOp) (o : Outcome) → IsFrom s m r → IsSound s → op_key op < END → judged s m.client op ≡ o → IsSound (effect s m (Judges number op o)).server
judges_sound s m r number op outcome.Applied from i under is = writes_sound s m number op r from.known i from.client under is
judges_sound s m r number op outcome.Exists from i under is = refused_sound s m.client number op outcome.Exists r from.known refl i
judges_sound s m r number op outcome.Absent from i under is = refused_sound s m.client number op outcome.Absent r from.known refl i
judges_sound s m r number op outcome.NotHeld from i under is = refused_sound s m.client number op outcome.NotHeld r from.known refl i
judges_sound s m r number op outcome.Full from i under is = refused_sound s m.client number op outcome.Full r from.known refl i

pub effect_sound : (s : Server) (m : ToServer) → IsSound s → IsSound (effect s m (case_of s m)).server
effect_sound s m i = let t = acknowledged s m.client in let j = acknowledged_sound s m.client i in
    by_case s m (λ k. IsSound (effect s m k).server)
    (record {
      ignored = i;
      registers = λ near newer body. registers_sound s m.client m.incarnation i;
      leaves = λ r from. departs_sound s m.client i;
      tells = i;
      alarms = i;
      rebuilds = λ r epoch pieces from now missing fine. adopts_sound s m.client pieces from.client i;
      repeats = λ r body served unacked. i;
      acknowledges = λ r served. j;
      lowers = λ r span keep served. lowered_sound t m.client span keep served.from.client j;
      waits = λ r req point hi g served new free near. queues_sound t (record { client = m.client; req = req; point = point; hi = hi; mode = g }) served.from.client near j;
      judges = λ r number op o served under near new is. judges_sound s m r number op o served.from i under is;
      seizes = λ r number op served under near new may.
          let can = take_is s m.client op may in
          writes_sound (effects.seizes s m.client op) m number op r served.from.known (takes_sound s m.client op i served.from.client) served.from.client under (take_judged s m.client op i under can);
      answers_again = λ r number op o served under some last is. pushes_sound t m.client (push.Answer number o (effects.holding t (slot_of t.durable.index (op_key op)) m.client)) j;
    })
