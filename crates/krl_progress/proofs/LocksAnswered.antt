-- Every lock request is answered: of 129 times nine undisturbed rounds some nine are calm, since all clients together
-- are owed no more than 128 pushes; and nobody waits through nine calm ones.
use Rattle.std.specs.Prelude.{◌*◌}
use Rattle.krl_progress.proofs.Names.{◌≡◌, ℕ, zero, suc, ◌≤◌, ◌<◌, ◌+◌, ⊎_elim, ◌∙◌, Bool, true, false, Option, Some, None, length, refl, sym, ap, subst, arith, eq_cases, END}
use Rattle.krl_progress.proofs.Names.{Client, Server, State, client_of, max_clients}
use Rattle.krl_client.specs.Clients.{is_waiting}
use Rattle.krl_progress.specs.Blocks.{RoundsWhile}
use Rattle.krl_progress.specs.Calm.{HasAsked, IsCalm}
use Rattle.krl_progress.specs.Locks.{IsUndisturbed, LocksAreAnsweredIn}
use Rattle.krl_progress.proofs.Recovers.{same_up}
use Rattle.krl_progress.proofs.CallsBack.{in_order}
use Rattle.krl_progress.proofs.Answering.{runs_longer}
use Rattle.krl_progress.proofs.Calming.{later_while}
use Rattle.krl_progress.proofs.Lateness.{none_waiting}
use Rattle.krl_progress.proofs.Owing.{count, waits_by, seen_by, owed_low, waits_here, waits_away, seen_here, seen_away}
use Rattle.krl_progress.proofs.Paying.{total, total_less, total_most, waits_at, owed_at, seen_at, IsLow, IsLess, IsGood, rounds_low, calm_now, rounds_either}

-- Rounds in parts

record Parts (P : State → Type 0) (n m from : ℕ) (w v : State) : Type 0 where
  mid : State
  first : RoundsWhile P n from w mid
  second : RoundsWhile P m (length mid.sent) mid v

parts : (P : State → Type 0) (n m from : ℕ) (w v : State) → from ≤ length w.sent → RoundsWhile P (n + m) from w v → Parts P n m from w v
parts P zero m from w v le r = let none : 0 + m ≡ m = omega arith in record { mid = w; first = refl; second = later_while P m from (length w.sent) w v le (subst (λ x. RoundsWhile P x from w v) none r) }
parts P (suc n) m from w v le r =
    let one : suc n + m ≡ suc (n + m) = omega arith in
    let s : RoundsWhile P (suc (n + m)) from w v = subst (λ x. RoundsWhile P x from w v) one r in
    let rest = parts P n m (length w.sent) s.1 v (runs_longer s.0 w s.1 s.3) s.5 in
    record { mid = rest.mid; first = (s.0, s.1, s.2, s.3, s.4, rest.first); second = rest.second }

count_zero : (b : Bool) → count b ≡ 0 → b ≡ false
count_zero true e = absurd (omega (arith, e))
count_zero false e = refl

module _ (e : ℕ) (reqs writes : ℕ → ℕ) (some : 1 ≤ e) where
  abbrev Good : State → Type 0
  Good = IsGood e reqs writes some

  room_for : (w : State) → Good w → (c : ℕ) → seen_at e w c < END
  room_for w h c = by_client (client_of w c) refl
    where
      by_client : (o : Option Client) → client_of w c ≡ o → seen_by e o < END
      by_client None i = omega arith
      by_client (Some k) i = eq_cases k.epoch e
          (λ here. let x = (h.alone.undisturbed c k i (here ∙ sym h.now)).room in let y = seen_here e k here in omega (arith, x, y))
          (λ away. let y = seen_away e k away in omega (arith, y))

  -- nine calm rounds lead on from worlds in which nobody waits
  nobody_waits : (w v : State) → Good w → RoundsWhile (IsCalm (HasAsked reqs) (seen_at e w)) 9 (length w.sent) w v → (c : ℕ) → waits_at e w c ≡ 0
  nobody_waits w v h r c = by_client (client_of w c) refl
    where
      calm : IsCalm (HasAsked reqs) (seen_at e w) w
      calm = calm_now e reqs writes some (seen_at e w) w h (λ d. refl)

      waiting : (k : Client) → client_of w c ≡ Some k → k.epoch ≡ e → is_waiting k.asked ≡ true → ⊥
      waiting k i here asks = none_waiting reqs (seen_at e w) e (room_for w h) w v h.reached calm
          (ap (λ (s : Server). s.durable.epoch) (same_up calm.server h.alone.server (sym calm.up ∙ h.alone.up)) ∙ h.now) r c k i here asks

      by_wait : (k : Client) (b : Bool) → is_waiting k.asked ≡ b → client_of w c ≡ Some k → k.epoch ≡ e → count (is_waiting k.asked) ≡ 0
      by_wait k true f i here = absurd (waiting k i here f)
      by_wait k false f i here = ap count f

      by_client : (o : Option Client) → client_of w c ≡ o → waits_by e o ≡ 0
      by_client None i = refl
      by_client (Some k) i = eq_cases k.epoch e
          (λ here. waits_here e k here ∙ by_wait k (is_waiting k.asked) refl i here)
          (λ away. waits_away e k away)

  abbrev owed : State → ℕ
  owed u = total max_clients (owed_at e u)

  less_owed : (w z : State) → ((c : ℕ) → IsLow e w z c) → IsLess e w z → owed z < owed w
  less_owed w z low h = total_less max_clients (owed_at e z) (owed_at e w) h.client h.near (λ c. let a = (low c).waits in let b = (low c).writes in omega (arith, a, b)) h.less

  abbrev Undisturbed : ℕ → State → State → Type 0
  Undisturbed m w v = RoundsWhile (IsUndisturbed reqs writes) m (length w.sent) w v

  calm_ends : (m : ℕ) (w v z : State) → Good w → RoundsWhile (IsCalm (HasAsked reqs) (seen_at e w)) 9 (length w.sent) w z → Undisturbed m w v → (c : ℕ) → waits_at e v c ≡ 0
  calm_ends m w v z h calm r c = let a = nobody_waits w z h calm c in let b = ((rounds_low e reqs writes some m (length w.sent) w v h r).1 c).waits in omega (arith, a, b)

  -- by how much is owed at the beginning
  none_waits : (b : ℕ) (w v : State) → Good w → owed w ≤ b → Undisturbed (9 * suc b) w v → (c : ℕ) → waits_at e v c ≡ 0
  none_waits zero w v h low r c = ⊎_elim
      (λ (x : ((d : ℕ) → seen_at e v d ≡ seen_at e w d) × RoundsWhile (IsCalm (HasAsked reqs) (seen_at e w)) 9 (length w.sent) w v). calm_ends 9 w v v h x.1 r c)
      (λ (x : IsLess e w v). absurd (let less = less_owed w v (rounds_low e reqs writes some 9 (length w.sent) w v h r).1 x in omega (arith, less, low)))
      (rounds_either e reqs writes some (seen_at e w) 9 (length w.sent) w v h (λ d. refl) r)
  none_waits (suc b) w v h low r c = ⊎_elim
      (λ (x : ((d : ℕ) → seen_at e p.mid d ≡ seen_at e w d) × RoundsWhile (IsCalm (HasAsked reqs) (seen_at e w)) 9 (length w.sent) w p.mid). calm_ends (9 * suc (suc b)) w v p.mid h x.1 r c)
      (λ (x : IsLess e w p.mid). let less = less_owed w p.mid first.1 x in none_waits b p.mid v first.0 (omega (arith, less, low)) p.second c)
      (rounds_either e reqs writes some (seen_at e w) 9 (length w.sent) w p.mid h (λ d. refl) p.first)
    where
      split : 9 * suc (suc b) ≡ 9 + 9 * suc b
      split = omega arith

      p : Parts (IsUndisturbed reqs writes) 9 (9 * suc b) (length w.sent) w v
      p = parts (IsUndisturbed reqs writes) 9 (9 * suc b) (length w.sent) w v (omega arith) (subst (λ m. Undisturbed m w v) split r)

      first : Good p.mid × ((d : ℕ) → IsLow e w p.mid d)
      first = rounds_low e reqs writes some 9 (length w.sent) w p.mid h p.first

  owed_most : (w : State) → owed w ≤ 128
  unfolding max_clients
  owed_most w = let x = total_most max_clients (owed_at e w) (λ c. owed_low e (client_of w c)) in omega (arith, x)

pub locks_are_answered : LocksAreAnsweredIn 1161
locks_are_answered reqs writes w v s c k rw q r up i now =
    let e = q.server.durable.epoch in
    let some = (in_order w q.server rw q.up).0.begun in
    let good : IsGood e reqs writes some w = record { reached = rw; alone = q; now = refl } in
    let last = (rounds_low e reqs writes some 1161 (length w.sent) w v good r).0 in
    let here : k.epoch ≡ e = now ∙ ap (λ (y : Server). y.durable.epoch) (same_up s last.alone.server (sym up ∙ last.alone.up)) ∙ last.now in
    let none = none_waits e reqs writes some 128 w v good (owed_most e reqs writes some w) r c in
    count_zero (is_waiting k.asked) (sym (waits_here e k here) ∙ sym (ap (waits_by e) i) ∙ none)
