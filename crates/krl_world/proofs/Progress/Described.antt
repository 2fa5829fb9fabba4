-- Some pieces describe what each client of a reachable world believes.
use Rattle.krl_world.proofs.Names.{◌≡◌, ℕ, ◌<◌, ◌∙◌, Bool, true, false, Option, Some, None, List, [], refl, sym, subst, END, RangePart, KeyPart, range_at_most, key_at_most, reads_key, Value, Pieces}
use Rattle.krl_world.proofs.Names.{RangeAtMost, KeyAtMost, Link, Logged, ranges_by_table, keys_by_table, Belief, IsBelief, Describes, Client, ShowsClient, ShowsPlace, State, client_of}
use Rattle.std.specs.Prelude.{nat_eq}
use Rattle.krl_modes.specs.declared.part.RangePart.TheVariants as range
use Rattle.krl_modes.specs.declared.part.KeyPart.TheVariants as key
use Rattle.krl_machine.specs.Worlds as machine
use Rattle.krl_durable.proofs.SlotLaws.{end_test}
use Rattle.krl_cache.proofs.Described.{beliefs_are_described}
use Rattle.krl_world.proofs.Refinement.Mirrors.{machine_of, Mirrors}
use Rattle.krl_world.proofs.Promises.CompatibilityAndScans.{end_is}

-- nothing is believed past END
abbrev IsWithin : Belief → Type 0
IsWithin b = (p : ℕ) → END < p → (b.range_at p ≡ range.N) × (b.key_at p ≡ key.N)

-- pieces state nothing of values, so they describe a belief as they describe it with some value wherever an entry is
-- read

some_value : Bool → KeyPart → Option Value
some_value true k = None
some_value false key.N = None
some_value false key.S = Some []
some_value false key.U = Some []
some_value false key.X = Some []

abbrev valued : Belief → Belief
valued b = record { range_at = b.range_at; key_at = b.key_at; value_at = λ p. some_value (nat_eq p END) (b.key_at p) }

value_there : (t : Bool) (k : KeyPart) → t ≡ false → reads_key k ≡ true → (v : Value) × (some_value t k ≡ Some v)
unfolding some_value
value_there true k e r = absurd (cc)
value_there false key.N e r = absurd (cc)
value_there false key.S e r = ([], refl)
value_there false key.U e r = ([], refl)
value_there false key.X e r = ([], refl)

value_none : (t : Bool) (k : KeyPart) → k ≡ key.N → some_value t k ≡ None
unfolding some_value
value_none true k e = refl
value_none false k e = subst (λ x. some_value false x ≡ None) (sym e) refl

valued_is : (b : Belief) → IsWithin b → IsBelief (valued b)
unfolding some_value
valued_is b h = record {
  valued = λ p ne r. value_there (nat_eq p END) (b.key_at p) (end_test p ne) r;
  no_entry = λ p e. value_none (nat_eq p END) (b.key_at p) e;
  at_end = refl;
  past = h;
}

described_within : (b : Belief) → IsWithin b → (ps : Pieces) × Describes ps b
described_within b h = let x = beliefs_are_described (valued b) (valued_is b h) in
    (x.0, record { ranges_in_order = x.1.ranges_in_order; merged = x.1.merged; keys_in_order = x.1.keys_in_order; ranges = x.1.ranges; keys = x.1.keys })

-- What a client believes is at most a row, and past END that is blank

least_range : (r : RangePart) → range_at_most r range.N ≡ true → r ≡ range.N
least_range range.N e = refl
least_range range.S e = absurd (cc)
least_range range.I e = absurd (cc)
least_range range.X e = absurd (cc)

least_key : (k : KeyPart) → key_at_most k key.N ≡ true → k ≡ key.N
least_key key.N e = refl
least_key key.S e = absurd (cc)
least_key key.U e = absurd (cc)
least_key key.X e = absurd (cc)

no_range : (r top : RangePart) → top ≡ range.N → RangeAtMost r top → r ≡ range.N
no_range r top e h = least_range r (subst (λ x. range_at_most r x ≡ true) e ((ranges_by_table r top).1 h))

no_key : (k top : KeyPart) → top ≡ key.N → KeyAtMost k top → k ≡ key.N
no_key k top e h = least_key k (subst (λ x. key_at_most k x ≡ true) e ((keys_by_table k top).1 h))

within_world : (w : State) (of : ℕ → Link) (log : List Logged) (c : ℕ) (k : Client) → machine.IsBounded (machine_of w.server of log) → machine.Restarts (machine_of w.server of log) → ShowsClient c k (of c).client → IsWithin k.belief
within_world w of log c k low r h p far =
    let blank = (r.rows c).past p (subst (λ n. n < p) (sym (end_is w.server)) far) in
    (h.range p ∙ no_range _ _ blank.0 (low c p).0, h.key p ∙ no_key _ _ blank.1 (low c p).1)

pub described_world : (w : State) (of : ℕ → Link) (log : List Logged) → Mirrors w of log → machine.IsBounded (machine_of w.server of log) → machine.Restarts (machine_of w.server of log) → (c : ℕ) (k : Client) → client_of w c ≡ Some k → (ps : Pieces) × Describes ps k.belief
described_world w of log m low r c k up =
    let place : ShowsPlace c (w.places c).last_incarnation (Some k) (of c) = subst (λ x. ShowsPlace c (w.places c).last_incarnation x (of c)) up (m.places c) in
    described_within k.belief (within_world w of log c k low r place.1)
