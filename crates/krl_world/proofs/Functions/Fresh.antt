-- The world in which nothing has happened since it was opened.
use Rattle.krl_world.proofs.Names.{◌≡◌, ℕ, ◌<◌, ◌≤◌, ◌+◌, ◌∙◌, inl, inr, subst, Bool, true, false, Option, Some, None, List, [], ◌∷◌, ◌++◌, length, get_or, refl, sym, ap, arith, nat_eq, nat_lt}
use Rattle.krl_world.proofs.Names.{if◌then◌else◌, length-append, get_or-append, get_or-eq_default, nat_tests, AllByRecursion, Record, Register, Durable, record_of, incarnation_or_0, start, Message}
use Rattle.krl_world.proofs.Names.{AppliedWrite, Up, never_started, opened, meaning, places_of, place_of, kept_nobody, AreUnstarted, IsReason, can_start, refused_by_server}
use Rattle.krl_world.specs.Steps.{CannotOpen}
use Rattle.std.proofs.Math.Seq.{get_or-append_seam}
use Rattle.std.proofs.Math.Path.{fun_ext}
use Rattle.krl_durable.specs.Kept.{IsKept}
use Rattle.krl_server.specs.declared.state.State.{State as Kept}
use Rattle.krl_server.specs.declared.start_refused.ServerNotStarted.{ServerNotStarted}
use Rattle.krl_server.specs.declared.start_refused.ServerNotStarted.TheVariants as beginner
use Rattle.krl_server.specs.StateMeaning as server_state
use Rattle.krl_world.specs.declared.node.ClientPlace.{ClientPlace as KeptClientPlace}
use Rattle.krl_world.specs.declared.node.ServerPlace.TheVariants as kept

-- nobody above 63 is registered
unknown : (es : Register) (c : ℕ) → AllByRecursion (λ e. nat_lt e.0 64 ≡ true) es → 64 ≤ c → record_of es c ≡ None
unknown [] c h l = refl
unknown (x ∷ xs) c h l = let apart : nat_eq c x.0 ≡ false = other c x.0 h.0 l in
    ap (λ (b : Bool). if b then Some x.1 else record_of xs c) apart ∙ unknown xs c h.1 l
  where
    other : (c k : ℕ) → nat_lt k 64 ≡ true → 64 ≤ c → nat_eq c k ≡ false
    other c k a b = grind (arith, nat_tests)

unstarted : (d : Durable) (places : List KeptClientPlace) → IsKept d → AreUnstarted d 64 places →
    places_of places ≡ never_started d
unstarted d places k h = fun_ext (λ c. by_test c (nat_lt c 64) refl)
  where
    by_test : (c : ℕ) (b : Bool) → nat_lt c 64 ≡ b → places_of places c ≡ never_started d c
    by_test c true e = ap place_of (h.each c (grind (arith, nat_tests)))
    by_test c false e =
        let past : 64 ≤ c = grind (arith, nat_tests) in
        ap place_of (get_or-eq_default places kept_nobody (omega (arith, past, h.count)))
        ∙ ap (λ (o : Option Record). record { last_incarnation = incarnation_or_0 o; client = None }) (sym (unknown d.register c k.clients past))

pub opened_fields : (d opening : Durable) (s : Kept) (places : List KeptClientPlace) (sent : List Message) (writes : List AppliedWrite) → d ≡ opening → IsKept opening → server_state.meaning s ≡ start d → AreUnstarted opening 64 places → sent ≡ [] → writes ≡ [] → meaning (record { opening = opening; server = kept.Up s; places = places; sent = sent; writes = writes }) ≡ opened opening
unfolding opened
opened_fields d opening s places sent writes e k f g h m = let n = unstarted opening places k g in
    λ t. record { opening = opening; server = Up ((f ∙ ap start e) t); places = n t; sent = h t; writes = m t }

-- no world is opened if no server starts
pub cannot_open : (d opening : Durable) (r : ServerNotStarted) → d ≡ opening → IsReason d r → CannotOpen opening (refused_by_server r)
cannot_open d opening beginner.Spent same h = inr (refl, subst (λ e. can_start e ≡ false) same h)
cannot_open d opening beginner.OutOfMemory same h = inl refl

-- one place more
pub one_more : (d : Durable) (n : ℕ) (places : List KeptClientPlace) (x : KeptClientPlace) → AreUnstarted d n places → x ≡ record { last_incarnation = incarnation_or_0 (record_of d.register n); client = None } → AreUnstarted d (n + 1) (places ++ x ∷ [])
one_more d n places x h e = record { count = omega (arith, length-append places (x ∷ []), h.count); each = λ c l. by_test c (nat_lt c n) refl l }
  where
    by_test : (c : ℕ) (b : Bool) → nat_lt c n ≡ b → c < n + 1 → get_or (places ++ x ∷ []) c kept_nobody ≡ record { last_incarnation = incarnation_or_0 (record_of d.register c); client = None }
    by_test c true i l =
        let low : c < n = grind (arith, nat_tests) in
        get_or-append places (x ∷ []) kept_nobody c (omega (arith, low, h.count)) ∙ h.each c low
    by_test c false i l =
        let high : n ≤ c = grind (arith, nat_tests) in
        let last : c ≡ length places = omega (arith, high, l, h.count) in
        let own : c ≡ n = omega (arith, high, l) in
        ap (λ m. get_or (places ++ x ∷ []) m kept_nobody) last ∙ get_or-append_seam places x [] kept_nobody ∙ e
        ∙ ap (λ m. let y : KeptClientPlace = record { last_incarnation = incarnation_or_0 (record_of d.register m); client = None } in y) (sym own)
