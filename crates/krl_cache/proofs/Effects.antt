-- What adopting and lowering do, by what they do to the range parts and to the entries.
use Rattle.krl_cache.proofs.Names.{◌≡◌, ℕ, Bool, true, false, cond, Option, None, Some, refl, sym, ap, ◌∙◌, option_and_then, RangePart, KeyPart, Mode, range_meet, key_meet, reads_key, range_of}
use Rattle.krl_cache.proofs.Names.{key_of, Bounds, contains, Value, Holding, Entry, has_its_value, Belief, is_last, adopt, lower, part_of, value_of, belief_by, entry_of, entry_lowered, own_entry}
use Rattle.krl_modes.specs.declared.part.KeyPart.TheVariants as key
use Rattle.krl_cache.proofs.Calls.{no_held}

-- two beliefs that agree at each point are one
pub same_belief : (a b : Belief) → ((p : ℕ) → a.range_at p ≡ b.range_at p) → ((p : ℕ) → a.key_at p ≡ b.key_at p) → ((p : ℕ) → a.value_at p ≡ b.value_at p) → a ≡ b
same_belief a b r k v = λ i. record { range_at = λ p. r p i; key_at = λ p. k p i; value_at = λ p. v p i }

part_of_own : (part : KeyPart) (value : Option Value) → part_of (entry_of part value) ≡ part
part_of_own key.N value = refl
part_of_own key.S value = refl
part_of_own key.U value = refl
part_of_own key.X value = refl

value_of_own : (part : KeyPart) (value : Option Value) → value_of (entry_of part value) ≡ cond (reads_key part) value None
value_of_own key.N value = refl
value_of_own key.S value = refl
value_of_own key.U value = refl
value_of_own key.X value = refl

no_value : (part : KeyPart) (value : Option Value) → (reads_key part ≡ false → value ≡ None) → cond (reads_key part) value None ≡ value
no_value key.N value h = sym (h refl)
no_value key.S value h = refl
no_value key.U value h = refl
no_value key.X value h = refl

through : {A : Type 0} (f : Option Entry → A) (b c : Bool) (o p : Option Entry) → f (cond b (cond c o None) p) ≡ cond b (cond c (f o) (f None)) (f p)
through f true true o p = refl
through f true false o p = refl
through f false c o p = refl

pub adopts : (h : Holding) (old new : ℕ → RangePart) (was is : ℕ → Option Entry) → has_its_value h ≡ true → ((p : ℕ) → new p ≡ cond (contains h.span p) (range_of h.mode) (old p)) → ((p : ℕ) → is p ≡ cond (contains h.span p) (cond (is_last h.span p) (own_entry h) None) (was p)) → belief_by new is ≡ adopt h (belief_by old was)
adopts h old new was is rule r e =
    same_belief (belief_by new is) (adopt h (belief_by old was))
    r
    (λ p. ap part_of (e p) ∙ through part_of (contains h.span p) (is_last h.span p) (own_entry h) (was p) ∙ ap (λ (k : KeyPart). cond (contains h.span p) (cond (is_last h.span p) k key.N) (part_of (was p))) (part_of_own (key_of h.mode) h.value))
    (λ p. ap value_of (e p) ∙ through value_of (contains h.span p) (is_last h.span p) (own_entry h) (was p)
    ∙ ap (λ (v : Option Value). cond (contains h.span p) (cond (is_last h.span p) v None) (value_of (was p))) (value_of_own (key_of h.mode) h.value ∙ no_value (key_of h.mode) h.value (no_held h rule)))

part_lowered : (keep : KeyPart) (o : Option Entry) → part_of (option_and_then (entry_lowered keep) o) ≡ key_meet (part_of o) keep
part_lowered keep None = refl
part_lowered keep (Some e) = part_of_own (key_meet e.part keep) e.value

value_lowered : (keep : KeyPart) (o : Option Entry) → value_of (option_and_then (entry_lowered keep) o) ≡ cond (reads_key (key_meet (part_of o) keep)) (value_of o) None
value_lowered keep None = refl
value_lowered keep (Some e) = value_of_own (key_meet e.part keep) e.value

inside : {A : Type 0} (f : Option Entry → A) (b : Bool) (o p : Option Entry) → f (cond b o p) ≡ cond b (f o) (f p)
inside f true o p = refl
inside f false o p = refl

pub lowers : (s : Bounds) (keep : Mode) (old new : ℕ → RangePart) (was is : ℕ → Option Entry) → ((p : ℕ) → new p ≡ cond (contains s p) (range_meet (old p) (range_of keep)) (old p)) → ((p : ℕ) → is p ≡ cond (contains s p) (option_and_then (entry_lowered (key_of keep)) (was p)) (was p)) → belief_by new is ≡ lower s keep (belief_by old was)
lowers s keep old new was is r e =
    same_belief (belief_by new is) (lower s keep (belief_by old was))
    r
    (λ p. ap part_of (e p) ∙ inside part_of (contains s p) (option_and_then (entry_lowered (key_of keep)) (was p)) (was p) ∙ ap (λ (k : KeyPart). cond (contains s p) k (part_of (was p))) (part_lowered (key_of keep) (was p)))
    (λ p. ap value_of (e p) ∙ inside value_of (contains s p) (option_and_then (entry_lowered (key_of keep)) (was p)) (was p) ∙ ap (λ (v : Option Value). cond (contains s p) v (value_of (was p))) (value_lowered (key_of keep) (was p)))
