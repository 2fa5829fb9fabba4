-- Which messages wait. Messages are numbered from 1 in the order in which they were sent, and one
-- waits from then on until it is delivered for the first time or dropped.
use Rattle.std.specs.Prelude.{ℕ, zero, suc, ◌+◌, ◌-◌, Bool, not, nat_eq, if◌then◌else◌, List, [], ◌∷◌, ◌++◌, filter}

pub record Waits : Type 0 where
  pub sent : ℕ  -- how many messages were sent
  pub waiting : List ℕ  -- the numbers of those that wait, oldest first

-- nothing was sent
abbrev pub none_sent : Waits
none_sent = record { sent = 0; waiting = [] }

-- n numbers from the one after m
abbrev pub numbers : ℕ → ℕ → List ℕ
numbers m zero = []
numbers m (suc n) = numbers m n ++ (m + suc n) ∷ []

-- n more messages were sent: they wait after the others
abbrev pub sent_more : Waits → ℕ → Waits
sent_more w n = record { sent = w.sent + n; waiting = w.waiting ++ numbers w.sent n }

-- so many messages were sent by now
abbrev pub sent_to : Waits → ℕ → Waits
sent_to w total = sent_more w (total - w.sent)

-- the message of this number no longer waits
abbrev pub without : Waits → ℕ → Waits
without w number = record w { waiting = filter (λ n. not (nat_eq n number)) w.waiting }

-- no message waits any more
abbrev pub none_waiting : Waits → Waits
none_waiting w = record w { waiting = [] }

-- Of the messages after the n-th, in order, these flags show which no longer wait: the numbers of the
-- others.
abbrev pub waiting_after : ℕ → List Bool → List ℕ
waiting_after n [] = []
waiting_after n (past ∷ more) =
    if past then waiting_after (suc n) more else suc n ∷ waiting_after (suc n) more
