-- What survives is within its bounds, by what its type states.
use Rattle.krl_server.proofs.Names.{◌≡◌, ℕ, ◌<◌, true, false, [], ◌∷◌, Some, inl, inr, sym, ap, subst, ◌∙◌, nat_eq, ltb-true, eqb-false, nat_lt, AllByRecursion, IsDistinct, In, Record, Register}
use Rattle.krl_server.proofs.Names.{Durable, record_of, IsKept, max_clients, AreApart, clients_of, IsDurableWithin}
use Rattle.std.proofs.lemmas.Map.Keys.{IsDistinct-head, IsDistinct-tail}
use Rattle.std.specs.Map.{keys_of}
use Rattle.krl_server.proofs.Outputs.Numbers.{sixty_four}
use Rattle.krl_server.proofs.Invariant.Within.{known_in}

not_there : (k : ℕ) (es : Register) → AllByRecursion (λ y. nat_eq k y ≡ false) (keys_of es) → In k (clients_of es) → ⊥
not_there k [] h at = absurd at
not_there k (e ∷ es) h (inl f) = eqb-false k e.0 h.0 f
not_there k (e ∷ es) h (inr at) = not_there k es h.1 at

apart_of : (es : Register) → IsDistinct nat_eq (keys_of es) → AreApart (clients_of es)
apart_of [] h = tt
apart_of (e ∷ es) h = (not_there e.0 es (IsDistinct-head nat_eq e.0 (keys_of es) h), apart_of es (IsDistinct-tail nat_eq e.0 (keys_of es) h))

low_in : (es : Register) (c : ℕ) → AllByRecursion (λ e. nat_lt e.0 64 ≡ true) es → In c (clients_of es) → nat_lt c 64 ≡ true
low_in [] c h at = absurd at
low_in (e ∷ es) c h (inl f) = ap (λ n. nat_lt n 64) f ∙ h.0
low_in (e ∷ es) c h (inr at) = low_in es c h.1 at

low_known : (es : Register) (c : ℕ) (r : Record) → AllByRecursion (λ e. nat_lt e.0 64 ≡ true) es → record_of es c ≡ Some r → c < max_clients
low_known es c r h e = subst (λ k. c < k) (sym sixty_four) (ltb-true c 64 (low_in es c h (known_in es c r e)))

pub durable_within : (d : Durable) → IsKept d → IsDurableWithin d
durable_within d kept = record {
  epoch = kept.epoch;
  entries = kept.few;
  room = kept.room;
  once = apart_of d.register kept.once;
  known = λ c r e. let x = kept.incarnations c r e in (low_known d.register c r kept.clients e, x.0, x.1, kept.lasts c r e);
}
