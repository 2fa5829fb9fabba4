-- A list of the slots at which somebody waits, while they are answered.
use Rattle.krl_server.proofs.Names.{◌≡◌, ℕ, suc, ◌+◌, true, List, [], ◌∷◌, Some, None, drop, sym, ap, subst, ◌∙◌, arith, AllByRecursion, is_slot, AreWaiting, State, meaning, Server, Turn, next_turn}
use Rattle.krl_server.proofs.Names.{answer_first, IsSound, IsTable, ToClient, HasTurned, HaveWaiters}
use Rattle.krl_server.proofs.Outputs.Ends.{turn_durable, turn_empties}
use Rattle.krl_server.proofs.Functions.Rounds.{NoneBelow, IsRound, round, none_at_all}

-- as the table finds them
pub listed : (st : State) (from : ℕ) (ns : List ℕ) → AreWaiting (meaning st).rows from ns → AllByRecursion (λ n. is_slot st.durable.index n ≡ true) ns → HaveWaiters (meaning st) from ns
listed st from [] h there = h
listed st from (n ∷ ns) h there = (h.0.above, there.0, h.0.least, listed st (suc n) ns h.1 there.1)

-- a turn brings nobody to a slot where nobody waited
pub still_listed : (s : Server) (t : Turn) → next_turn s ≡ Some t → (from : ℕ) (ns : List ℕ) → HaveWaiters s from ns → HaveWaiters (answer_first s t).server from ns
still_listed s t e from [] h = λ k le. turn_empties s t e k (h k le)
still_listed s t e from (n ∷ ns) h =
    (h.0, ap (λ d. is_slot d.index n) (turn_durable s t) ∙ h.1, λ k a b. turn_empties s t e k (h.2 k a b), still_listed s t e (suc n) ns h.3)

-- the slots of the list from this place on, and below them nobody can be answered
abbrev pub AreLeft : Server → List ℕ → ℕ → Type 0
AreLeft s ns i = (at : ℕ) × NoneBelow s at × HaveWaiters s at (drop i ns)

-- the slot at this place
module _ (s : Server) (ns : List ℕ) (i n : ℕ) (is : drop i ns ≡ n ∷ drop (i + 1) ns) (h : AreLeft s ns i) where
  here : HaveWaiters s h.0 (n ∷ drop (i + 1) ns)
  here = subst (HaveWaiters s h.0) is h.2

  pub slot_here : is_slot s.durable.index n ≡ true
  slot_here = here.1

  pub round_here : (u : Server) (o : ToClient) → IsSound s → IsTable s.durable.index s.rows → HasTurned s u n o → IsRound s u n o
  round_here u o sound table turned = round s u h.0 n o sound table h.1 here.1 here.2 turned

  pub left_after_turn : (u : Server) (t : Turn) → next_turn s ≡ Some t → u ≡ (answer_first s t).server → NoneBelow u n → AreLeft u ns i
  left_after_turn u t e server none = subst (λ x. AreLeft x ns i) (sym server) (h.0, (λ k lt. subst (λ x. NoneBelow x n) server none k (omega (arith, lt, here.0))), still_listed s t e h.0 (drop i ns) h.2)

pub none_left_at_all : (s : Server) (ns : List ℕ) (i : ℕ) → drop i ns ≡ [] → AreLeft s ns i → next_turn s ≡ None
none_left_at_all s ns i e h = none_at_all s h.0 h.1 (subst (HaveWaiters s h.0) e h.2)
