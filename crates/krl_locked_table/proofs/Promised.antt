-- What a read returns from memory is the table.
use Rattle.std.proofs.Common.{◌≡◌, ◌<◌, ◌≤◌, ℕ, ◌+◌, true, sym, ◌∙◌, ⊎_elim, arith}
use Rattle.krl_cached_table.specs.Worlds.{row_after}
use Rattle.krl_cached_table.proofs.Promised.{range_same}
use Rattle.krl_locked_table.specs.Worlds.{Setting, Load, World}
use Rattle.krl_locked_table.specs.Steps.{Step, time_passes, locks_change, becomes_alive, draws_nonce, writes_nonce, opens, takes_lock, announces, recalls, gives_up_lock, keeps_lock, agent_ends, transacts, becomes_visible, crashes, recovers, starts, loads, Steps, none, more}
use Rattle.krl_locked_table.specs.Promises.{HasTenure, AnswersAreTable, RangesAreTable}
use Rattle.krl_locked_table.proofs.Sound.{IsOver, IsHome, RowFacts}
use Rattle.krl_locked_table.proofs.Worlds.{sound, later_tenure}

-- No step gives a client an earlier tenure, or goes back in time
pub record Rises (w v : World) : Type 0 where
  pub tenure : (c p : ℕ) → w.tenure c p ≤ v.tenure c p
  pub now : w.now ≤ v.now

step_rises : (g : Setting) (w v : World) → Step g w v → Rises w v
step_rises g w v time_passes = record { tenure = λ c p. omega arith; now = omega arith }
step_rises g w v (locks_change held tenure compatible notes) = record { tenure = later_tenure g w held tenure notes; now = omega arith }
step_rises g w v (becomes_alive up dead) = record { tenure = λ c p. omega arith; now = omega arith }
step_rises g w v (draws_nonce alive) = record { tenure = λ c p. omega arith; now = omega arith }
step_rises g w v (writes_nonce drawn) = record { tenure = λ c p. omega arith; now = omega arith }
step_rises g w v (opens drawn late) = record { tenure = λ c p. omega arith; now = omega arith }
step_rises g w v (takes_lock q alive nobody) = record { tenure = λ c p. omega arith; now = omega arith }
step_rises g w v (announces q alive) = record { tenure = λ c p. omega arith; now = omega arith }
step_rises g w v (recalls q announced exclusive) = record { tenure = λ c p. omega arith; now = omega arith }
step_rises g w v (gives_up_lock q recalled) = record { tenure = λ c p. omega arith; now = omega arith }
step_rises g w v (keeps_lock q) = record { tenure = λ c p. omega arith; now = omega arith }
step_rises g w v agent_ends = record { tenure = λ c p. omega arith; now = omega arith }
step_rises g w v (transacts t x step) = record { tenure = λ c p. omega arith; now = omega arith }
step_rises g w v (becomes_visible t committed) = record { tenure = λ c p. omega arith; now = omega arith }
step_rises g w v crashes = record { tenure = λ c p. omega arith; now = omega arith }
step_rises g w v (recovers t recovering) = record { tenure = λ c p. omega arith; now = omega arith }
step_rises g w v (starts down recovered) = record { tenure = λ c p. omega arith; now = omega arith }
step_rises g w v (loads n l step) = record { tenure = λ c p. omega arith; now = omega arith }

steps_rise : (g : Setting) (w v : World) → Steps g w v → Rises w v
steps_rise g w v none = record { tenure = λ c p. omega arith; now = omega arith }
steps_rise g w v (more {v = u} before step) =
    let first : Rises w u = steps_rise g w u before in
    let last : Rises u v = step_rises g u v step in
    record {
      tenure = λ c p. let a : w.tenure c p ≤ u.tenure c p = first.tenure c p in let b : u.tenure c p ≤ v.tenure c p = last.tenure c p in omega arith;
      now = let a : w.now ≤ u.now = first.now in let b : u.now ≤ v.now = last.now in omega arith;
    }

-- so a client that has its tenure later has it now
had_tenure : (g : Setting) (w v : World) (l : Load) (p : ℕ) → Steps g w v → IsHome g w l → HasTenure v l p → HasTenure w l p
had_tenure g w v l p later h t =
    let past : l.tenures p ≤ w.tenure l.client p = h.past p t.0 in
    let rises : w.tenure l.client p ≤ v.tenure l.client p = (steps_rise g w v later).tenure l.client p in
    let same : v.tenure l.client p ≡ l.tenures p = t.1 in
    (t.0, omega arith)

-- and a load whose answer is good later is not over now
not_over : (g : Setting) (w v : World) (l : Load) → Steps g w v → v.now < l.answered + g.patience → IsOver g w l → ⊥
not_over g w v l later good over =
    let rises : w.now ≤ v.now = (steps_rise g w v later).now in
    let past : over.0 + g.patience ≤ w.now = over.1 in
    let answered : l.answered ≤ over.0 = over.2.answered in
    absurd (omega arith)

pub answers_are_table : AnswersAreTable
answers_are_table g w key row reachable a =
    let l : Load = w.loads a.load in
    let h : RowFacts g w l key = ((sound g w reachable).loads a.load).rows a.kept key (λ p i. listed (a.tenures p i).0 p (a.tenures p i).2) in
    ⊎_elim (λ (same : l.rows key ≡ row_after w.changes key). sym a.taken ∙ same) (λ (over : IsOver g w l). absurd (not_over g w a.clock.0 l a.clock.1 a.clock.2 over))
    (h.row (λ p i. had_tenure g w (a.tenures p i).0 l p (a.tenures p i).1 (h.guarded p i).0 (a.tenures p i).2))
  where
    listed : (v : World) (p : ℕ) → HasTenure v (w.loads a.load) p → (w.loads a.load).places p ≡ true
    listed v p t = t.0

pub ranges_are_table : RangesAreTable
ranges_are_table g w lo n row_of reachable answers =
    range_same row_of (row_after w.changes) lo n (λ key low high. answers_are_table g w key (row_of key) reachable (answers key low high))
