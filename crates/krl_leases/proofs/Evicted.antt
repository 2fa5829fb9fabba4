-- Each state of each run is Sound, so an evicted incarnation answers nothing.
use Rattle.std.proofs.Common.{◌≡◌, inl, List, [], ◌∷◌, Some, sym, ◌∙◌, subst, arith, ltb-true}
use Rattle.krl_leases.specs.Clocks.{Clocks, Limits, Agree}
use Rattle.krl_leases.specs.Machine.{Grant, Unknown, Evicted, State, Event, Pass, Connect, Say, Hear, Confirm, Take, Hello, Register, Stop, Start, Revise, Evict, begun, Goes, Runs}
use Rattle.krl_leases.specs.Laws.{Answers, EvictedAnswerNothing}
use Rattle.krl_leases.proofs.Sound.{ByServer, Sound, sound_begun}
use Rattle.krl_leases.proofs.Client.{passes, connects, says, takes_terms, greets}
use Rattle.krl_leases.proofs.Server.{hears, confirms, registers, stops}
use Rattle.krl_leases.proofs.Restarts.{starts, revises, evicts}

module _ (limits : Limits) (clocks : Clocks) (agree : Agree limits clocks) where
  goes : (w w' : State) (e : Event) → Goes limits clocks w e w' → Sound limits clocks w → Sound limits clocks w'
  goes w w' (Pass n) g h = subst (Sound limits clocks) (sym g) (passes limits clocks w n h)
  goes w w' Connect g h = subst (Sound limits clocks) (sym g.2) (connects limits clocks w g.0 g.1 h)
  goes w w' Say g h = subst (Sound limits clocks) (sym g.1) (says limits clocks w g.0 h)
  goes w w' (Hear sign) g h = subst (Sound limits clocks) (sym g.4) (hears limits clocks agree w g.0 sign h (subst (ByServer limits clocks w) g.1 h.server) g.2 g.3)
  goes w w' (Confirm x) g h = subst (Sound limits clocks) (sym g.3) (confirms limits clocks w g.0 x g.1 g.2 h)
  goes w w' (Take x) g h = subst (Sound limits clocks) (sym g.2) (takes_terms limits clocks w x g.0 g.1 h)
  goes w w' Hello g h = subst (Sound limits clocks) (sym g.2) (greets limits clocks w g.0 g.1 h)
  goes w w' Register g h = subst (Sound limits clocks) (sym g.4) (registers limits clocks agree w g.0 g.2 (subst (ByServer limits clocks w) g.1 h.server) h)
  goes w w' Stop g h = subst (Sound limits clocks) (sym g) (stops limits clocks w h)
  goes w w' (Start machine terms) g h = subst (Sound limits clocks) (sym g.2) (starts limits clocks agree w machine terms g.0 g.1 h)
  goes w w' Revise g h = subst (Sound limits clocks) (sym g.2) (revises limits clocks agree w g.0 h (subst (ByServer limits clocks w) g.1 h.server) g.1)
  goes w w' Evict g h = subst (Sound limits clocks) (sym g.4) (evicts limits clocks agree w g.0 g.1 g.2 g.3 h)

  pub runs : (es : List Event) (w w' : State) → Runs limits clocks w es w' → Sound limits clocks w → Sound limits clocks w'
  runs [] w w' r h = subst (Sound limits clocks) (sym r) h
  runs (e ∷ es) w w' r h = runs es r.0 w' r.2 (goes w r.0 e r.1 h)

  -- the check would have to come before the lease's end, and it has ended
  too_late : (w : State) (g : Grant) → Sound limits clocks w → w.standing ≡ Evicted → w.lives_by ≡ Some g → Answers clocks w → ⊥
  too_late w g h x e a =
      let over = (h.evicted x g (inl e)).over w.now (omega arith) in
      let before = ltb-true (clocks.client w.now) w.lease.end a in
      let by = (h.lease g e).end in
      omega arith

not_unknown : Evicted ≡ Unknown → ⊥
not_unknown e = cc

pub evicted_answer_nothing : EvictedAnswerNothing
evicted_answer_nothing limits clocks es w agree r x a =
    let h = runs limits clocks agree es begun w r (sound_begun limits clocks) in
    let t = h.known_first (λ u. not_unknown (sym x ∙ u)) in
    too_late limits clocks agree w t.0 h x t.1 a
