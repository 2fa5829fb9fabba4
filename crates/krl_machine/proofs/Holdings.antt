-- What the holdings of a message state, as a push may state it.
use Rattle.krl_machine.proofs.Names.{◌≡◌, ◌≢◌, ℕ, suc, ◌≤◌, ◌<◌, Bool, true, false, Option, Some, None, List, [], ◌∷◌, inl, inr, refl, sym, ap, subst, ◌∙◌, arith, nat_eq, eq-eqb, ne_eqb, none-some}
use Rattle.krl_machine.proofs.Names.{same_Some, Mode, range_of, key_of, In, rank, Said, Shared, Link, IsSlot, InSpan, MaySay, at_slot, off_slots, key_at}
use Rattle.std.specs.Prelude.{if◌then◌else◌}
use Rattle.std.specs.List.{AllByRecursion}
use Rattle.krl_modes.specs.declared.part.KeyPart.TheVariants as key
use Rattle.krl_modes.specs.Spans.{contains}
use Rattle.krl_messages.specs.declared.holding.Holding.{Holding}
use Rattle.krl_modes.proofs.SpanLaws.{inside_span, in_span}
use Rattle.krl_machine.specs.Holdings.{said_at, or_by, said_by}
use Rattle.krl_machine.proofs.Worlds.{eq_cases}
use Rattle.krl_machine.proofs.Tables.{KeysNear, key_slot, range_span}
use Rattle.krl_machine.proofs.Refines.{Shows}

or_either : (P : Said → Type 0) (o : Option Said) (h : Holding) (q : ℕ) (t : Said) → (o ≡ Some t → P t) → (h.span.lo ≤ q → q < h.span.hi → P (said_at h q)) → or_by o h q ≡ Some t → P t
or_either P (Some x) h q t said one e = said e
or_either P None h q t said one e = by_test (contains h.span q) refl e
  where
    by_test : (b : Bool) → contains h.span q ≡ b → (if b then Some (said_at h q) else None) ≡ Some t → P t
    by_test true at e = let i = inside_span h.span q at in subst P (same_Some (said_at h q) t e) (one i.0 i.1)
    by_test false at e = absurd (none-some t e)

-- what holds of each holding at the points of its span holds of all that they state
pub said_each : (P : ℕ → Said → Type 0) (hs : List Holding) → AllByRecursion (λ h. (q : ℕ) → h.span.lo ≤ q → q < h.span.hi → P q (said_at h q)) hs → (q : ℕ) (t : Said) → said_by hs q ≡ Some t → P q t
said_each P [] each q t e = absurd (none-some t e)
said_each P (h ∷ hs) each q t e = or_either (P q) (said_by hs q) h q t (said_each P hs each.1 q t) (each.0 q) e

or_here : (o : Option Said) (h : Holding) (q : ℕ) → contains h.span q ≡ true → or_by o h q ≢ None
or_here (Some x) h q at none = none-some x (sym none)
or_here None h q at none = none-some (said_at h q) (sym none ∙ ap (λ b. if b then Some (said_at h q) else None) at)

or_said : (o : Option Said) (h : Holding) (q : ℕ) → o ≢ None → or_by o h q ≢ None
or_said (Some x) h q some none = none-some x (sym none)
or_said None h q some none = some refl

-- the holdings speak of each point of a span of theirs
pub speaks_at : (hs : List Holding) (h : Holding) → In h hs → (q : ℕ) → h.span.lo ≤ q → q < h.span.hi → said_by hs q ≢ None
speaks_at [] h i q low up = absurd i
speaks_at (x ∷ xs) h (inl e) q low up = or_here (said_by xs q) x q (subst (λ z. contains z.span q ≡ true) e (in_span h.span q low up))
speaks_at (x ∷ xs) h (inr i) q low up = or_said (said_by xs q) x q (speaks_at xs h i q low up)

-- one holding states this of a point of its span
pub says_here : (h : Holding) (q : ℕ) → h.span.lo ≤ q → q < h.span.hi → said_by (h ∷ []) q ≡ Some (said_at h q)
says_here h q low up = ap (λ b. if b then Some (said_at h q) else None) (in_span h.span q low up)

-- a holding of the mode at the slot n, on its span, is what a push may state
pub slot_holding : (s : Shared) (l : Link) (modes : ℕ → Mode) → KeysNear s → Shows s l modes → (n : ℕ) → IsSlot s n → (h : Holding) → h.mode ≡ modes n → h.span.hi ≡ suc n → ((q : ℕ) → h.span.lo ≤ q → q < h.span.hi → InSpan s n q) → (n ≢ s.end → 1 ≤ rank (key_of h.mode) → s.index n ≡ h.value) → (q : ℕ) → h.span.lo ≤ q → q < h.span.hi → MaySay s l q (said_at h q)
slot_holding s l modes near shows n slot h mode hi within entry q low up =
    let span = within q low up in
    let part : range_of h.mode ≡ l.top_range q = ap range_of mode ∙ sym (range_span s near modes n q slot span) ∙ sym (shows.range q) in
    eq_cases q n
    (λ e.
    let last : nat_eq (suc q) h.span.hi ≡ true = eq-eqb (suc q) h.span.hi (ap suc e ∙ sym hi) in
    at_slot (subst (IsSlot s) (sym e) slot) part
    (ap (λ b. if b then key_of h.mode else key.N) last ∙ ap key_of mode ∙ sym (key_slot s near modes n slot) ∙ ap (key_at s modes) (sym e) ∙ sym (shows.key q))
    (λ far r. ap s.index e ∙ entry (λ f. far (e ∙ f)) (subst (λ b. 1 ≤ rank (if b then key_of h.mode else key.N)) last r) ∙ sym (ap (λ b. if b then h.value else None) last)))
    (λ ne. let i = span.1 q (omega arith) (omega (arith, ne, span.0)) in
    off_slots i.1 i.0 part (ap (λ b. if b then key_of h.mode else key.N) (ne_eqb (suc q) h.span.hi (λ f. ne (omega (arith, f, hi))))))
