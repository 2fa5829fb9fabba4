-- Some pieces describe each belief, put together from its last point down. No call makes them.
use Rattle.krl_cache.proofs.Names.{◌≡◌, ◌≢◌, ◌⊎◌, ℕ, zero, suc, ◌+◌, ◌≤◌, ◌<◌, inl, inr, Bool, true, false, ◌||◌, cond, List, [], ◌∷◌, refl, sym, ap, ◌∙◌, arith, nat_eq, nat_tests, leb_tells}
use Rattle.krl_cache.proofs.Names.{eqb_tells, END, TOP, RangePart, KeyPart, reads_key, contains, RangePiece, Belief, IsBelief, first_range_at, first_key_at, AreInOrder, DiffersFromNext, AreMerged}
use Rattle.krl_cache.proofs.Names.{AreAscending, Describes, BeliefsAreDescribed}
use Rattle.krl_modes.specs.declared.part.RangePart.TheVariants as range
use Rattle.krl_modes.specs.declared.part.KeyPart.TheVariants as key
use Rattle.krl_messages.specs.declared.key_pieces.KeyPiece.{KeyPiece}
use Rattle.krl_messages.specs.declared.pieces.Pieces.{Pieces}
use Rattle.krl_cache.proofs.Calls.{past_end}
use Rattle.krl_cache.proofs.Windows.{before_window}

abbrev key_before : Bool → ℕ → KeyPart → List KeyPiece → List KeyPiece
key_before true p part ks = record { point = p; part = part } ∷ ks
key_before false p part ks = ks

unfoldable keys_from : (ℕ → KeyPart) → ℕ → ℕ → List KeyPiece
keys_from f p zero = []
keys_from f p (suc n) = key_before (reads_key (f p)) p (f p) (keys_from f (suc p) n)

-- Range parts

-- the pieces state f from p on for n points, and no more
record SaysFrom (f : ℕ → RangePart) (p n : ℕ) (xs : List RangePiece) : Type 0 where
  in_order : AreInOrder p xs
  merged : AreMerged xs
  inside : (q : ℕ) → p ≤ q → q < p + n → first_range_at xs q ≡ f q
  after : (q : ℕ) → p + n ≤ q → first_range_at xs q ≡ range.N

abbrev number_of : RangePart → ℕ
number_of range.N = 0
number_of range.S = 1
number_of range.I = 2
number_of range.X = 3

abbrev of_number : ℕ → RangePart
of_number zero = range.N
of_number (suc zero) = range.S
of_number (suc (suc zero)) = range.I
of_number (suc (suc (suc n))) = range.X

numbered : (r : RangePart) → of_number (number_of r) ≡ r
numbered range.N = refl
numbered range.S = refl
numbered range.I = refl
numbered range.X = refl

same_or_not : (a b : RangePart) → (a ≡ b) ⊎ (a ≢ b)
same_or_not a b =
    elim (eqb_tells (number_of a) (number_of b)) [
      | inl h ↦ inl (sym (numbered a) ∙ ap of_number h.1 ∙ numbered b)
      | inr h ↦ inr (λ e. h.1 (ap number_of e))
    ]

in_order_lower : (a b : ℕ) (xs : List RangePiece) → a ≤ b → AreInOrder b xs → AreInOrder a xs
in_order_lower a b [] l h = tt
in_order_lower a b (x ∷ xs) l h = (omega (arith, l, h.0), h.1, h.2, h.3)

pub in_order_before : (lo q : ℕ) (xs : List RangePiece) → AreInOrder lo xs → q < lo → first_range_at xs q ≡ range.N
in_order_before lo q [] h l = refl
in_order_before lo q (x ∷ xs) h l =
    let out : contains x.span q ≡ false = before_window x.span.lo x.span.hi q (omega (arith, h.0, l)) in
    rw out (in_order_before x.span.hi q xs h.3 (omega (arith, h.0, h.1, l)))

-- a piece at one point, if another part follows
abbrev alone : ℕ → RangePart → RangePiece
alone p r = record { span = record { lo = p; hi = suc p }; part = r }

-- the first piece, from a point before it on
abbrev longer : ℕ → RangePiece → RangePiece
longer p y = record { span = record { lo = p; hi = y.span.hi }; part = y.part }

says_alone : (p q : ℕ) (r : RangePart) (xs : List RangePiece) → first_range_at (alone p r ∷ xs) q ≡ cond (nat_eq q p) r (first_range_at xs q)
says_alone p q r xs = let one : contains (record { lo = p; hi = suc p }) q ≡ nat_eq q p = grind (arith, nat_tests) in ap (λ (t : Bool). cond t r (first_range_at xs q)) one

says_longer : (p q : ℕ) (y : RangePiece) (ys : List RangePiece) → y.span.lo ≡ suc p → y.span.lo < y.span.hi → first_range_at (longer p y ∷ ys) q ≡ cond (nat_eq q p) y.part (first_range_at (y ∷ ys) q)
says_longer p q y ys e l = both (contains (record { lo = p; hi = y.span.hi }) q) (contains y.span q) (nat_eq q p) (first_range_at ys q) (grind (arith, nat_tests))
  where
    both : (b c t : Bool) (r : RangePart) → b ≡ (t || c) → cond b y.part r ≡ cond t y.part (cond c y.part r)
    both true true true r h = refl
    both true true false r h = refl
    both true false true r h = refl
    both true false false r h = absurd (let bad : true ≡ false = h in cc)
    both false c true r h = absurd (let bad : false ≡ true = h in cc)
    both false true false r h = absurd (let bad : false ≡ true = h in cc)
    both false false false r h = refl

-- one more point in front
says_more : (f : ℕ → RangePart) (p n : ℕ) (r : RangePart) (xs ys : List RangePiece) → f p ≡ r → SaysFrom f (suc p) n xs → ((q : ℕ) → first_range_at ys q ≡ cond (nat_eq q p) r (first_range_at xs q)) → AreInOrder p ys → AreMerged ys → SaysFrom f p (suc n) ys
says_more f p n r xs ys here h said order merged = record {
  in_order = order;
  merged = merged;
  inside = λ q a b. said q ∙ elim (eqb_tells q p) [
    | inl e ↦ ap (λ (t : Bool). cond t r (first_range_at xs q)) e.0 ∙ sym here ∙ ap f (sym e.1)
    | inr e ↦ ap (λ (t : Bool). cond t r (first_range_at xs q)) e.0 ∙ h.inside q (omega (arith, a, e.1)) (omega (arith, b))
  ];
  after = λ q a. said q ∙ elim (eqb_tells q p) [
    | inl e ↦ absurd (omega (arith, a, e.1))
    | inr e ↦ ap (λ (t : Bool). cond t r (first_range_at xs q)) e.0 ∙ h.after q (omega (arith, a))
  ];
}

differs_as : (x y : RangePiece) (ys : List RangePiece) → x.span.hi ≡ y.span.hi → x.part ≡ y.part → DiffersFromNext y ys → DiffersFromNext x ys
differs_as x y [] e r d = tt
differs_as x y (z ∷ zs) e r d = λ same also. d (same ∙ e) (also ∙ r)

abbrev Said : (ℕ → RangePart) → ℕ → ℕ → Type 0
Said f p n = (xs : List RangePiece) × SaysFrom f p n xs

says_none : (f : ℕ → RangePart) (p n : ℕ) (xs : List RangePiece) → f p ≡ range.N → SaysFrom f (suc p) n xs → SaysFrom f p (suc n) xs
says_none f p n xs here h =
    says_more f p n range.N xs xs here h
    (λ q. elim (eqb_tells q p) [
      | inl e ↦
          in_order_before (suc p) q xs h.in_order (omega (arith, e.1)) ∙ sym (ap (λ (t : Bool). cond t range.N (first_range_at xs q)) e.0)
      | inr e ↦ sym (ap (λ (t : Bool). cond t range.N (first_range_at xs q)) e.0)
    ])
    (in_order_lower p (suc p) xs (omega arith) h.in_order) h.merged

says_apart : (f : ℕ → RangePart) (p n : ℕ) (r : RangePart) (xs : List RangePiece) → suc p ≤ TOP → f p ≡ r → r ≢ range.N → SaysFrom f (suc p) n xs → DiffersFromNext (alone p r) xs → SaysFrom f p (suc n) (alone p r ∷ xs)
says_apart f p n r xs l here held h d =
    says_more f p n r xs (alone p r ∷ xs) here h (λ q. says_alone p q r xs)
    (omega arith, omega arith, l, h.in_order) (held, d, h.merged)

says_joined : (f : ℕ → RangePart) (p n : ℕ) (y : RangePiece) (ys : List RangePiece) → f p ≡ y.part → y.span.lo ≡ suc p → SaysFrom f (suc p) n (y ∷ ys) → SaysFrom f p (suc n) (longer p y ∷ ys)
says_joined f p n y ys here e h =
    says_more f p n y.part (y ∷ ys) (longer p y ∷ ys) here h (λ q. says_longer p q y ys e h.in_order.1)
    (omega arith, omega (arith, e, h.in_order.1), h.in_order.2, h.in_order.3)
    (h.merged.0, differs_as (longer p y) y ys refl refl h.merged.1, h.merged.2)

said_held : (f : ℕ → RangePart) (p n : ℕ) (r : RangePart) (xs : List RangePiece) → suc p ≤ TOP → f p ≡ r → r ≢ range.N → SaysFrom f (suc p) n xs → Said f p (suc n)
said_held f p n r [] l here held h = (alone p r ∷ [], says_apart f p n r [] l here held h tt)
said_held f p n r (y ∷ ys) l here held h =
    elim (eqb_tells y.span.lo (suc p)) [
      | inl e ↦
          elim (same_or_not y.part r) [
            | inl same ↦ (longer p y ∷ ys, says_joined f p n y ys (here ∙ sym same) e.1 h)
            | inr other ↦ (alone p r ∷ y ∷ ys, says_apart f p n r (y ∷ ys) l here held h (λ meets. other))
          ]
      | inr e ↦ (alone p r ∷ y ∷ ys, says_apart f p n r (y ∷ ys) l here held h (λ meets. absurd (e.1 meets)))
    ]

said_from : (f : ℕ → RangePart) (p n : ℕ) → p + n ≤ TOP → Said f p n
said_from f p zero l = ([], record { in_order = tt; merged = tt; inside = λ q a b. absurd (omega (arith, a, b)); after = λ q a. refl })
said_from f p (suc n) l =
    let rest = said_from f (suc p) n (omega (arith, l)) in
    elim (same_or_not (f p) range.N) [
      | inl e ↦ (rest.0, says_none f p n rest.0 e rest.1)
      | inr e ↦ said_held f p n (f p) rest.0 (omega (arith, l)) refl e rest.1
    ]

-- Key parts

ascends : (p n lo : ℕ) (part : KeyPart) (ks : List KeyPiece) (t : Bool) → reads_key part ≡ t → lo ≤ p → p ≤ END → AreAscending (suc p) ks → ((m : ℕ) → m ≤ suc p → AreAscending m ks) → AreAscending lo (key_before t p part ks)
ascends p n lo part ks true r l e h low = (l, e, r, h)
ascends p n lo part ks false r l e h low = low lo (omega (arith, l))

keys_ascend : (f : ℕ → KeyPart) (p n lo : ℕ) → lo ≤ p → p + n ≤ TOP → AreAscending lo (keys_from f p n)
unfolding keys_from
keys_ascend f p zero lo l m = tt
keys_ascend f p (suc n) lo l m =
    let c = past_end in
    ascends p n lo (f p) (keys_from f (suc p) n) (reads_key (f p)) refl l (omega (arith, m, c)) (keys_ascend f (suc p) n (suc p) (omega arith) (omega (arith, m)))
    (λ k b. keys_ascend f (suc p) n k b (omega (arith, m)))

not_read : (k : KeyPart) → reads_key k ≡ false → k ≡ key.N
not_read key.N e = refl
not_read key.S e = absurd (let bad : true ≡ false = e in cc)
not_read key.U e = absurd (let bad : true ≡ false = e in cc)
not_read key.X e = absurd (let bad : true ≡ false = e in cc)

says_here : (p : ℕ) (part : KeyPart) (ks : List KeyPiece) (t : Bool) → reads_key part ≡ t → first_key_at ks p ≡ key.N → first_key_at (key_before t p part ks) p ≡ part
says_here p part ks true r h = let same : nat_eq p p ≡ true = grind (arith, nat_tests) in ap (λ (t : Bool). cond t part (first_key_at ks p)) same
says_here p part ks false r h = h ∙ sym (not_read part r)

says_elsewhere : (p q : ℕ) (part : KeyPart) (ks : List KeyPiece) (t : Bool) → nat_eq q p ≡ false → first_key_at (key_before t p part ks) q ≡ first_key_at ks q
says_elsewhere p q part ks true ne = ap (λ (t : Bool). cond t part (first_key_at ks q)) ne
says_elsewhere p q part ks false ne = refl

keys_before : (f : ℕ → KeyPart) (p n q : ℕ) → q < p → first_key_at (keys_from f p n) q ≡ key.N
unfolding keys_from
keys_before f p zero q a = refl
keys_before f p (suc n) q a =
    let ne : nat_eq q p ≡ false = grind (arith, nat_tests) in
    says_elsewhere p q (f p) (keys_from f (suc p) n) (reads_key (f p)) ne ∙ keys_before f (suc p) n q (omega (arith, a))

keys_inside : (f : ℕ → KeyPart) (p n q : ℕ) → p ≤ q → q < p + n → first_key_at (keys_from f p n) q ≡ f q
unfolding keys_from
keys_inside f p zero q a b = absurd (omega (arith, a, b))
keys_inside f p (suc n) q a b =
    elim (eqb_tells q p) [
      | inl e ↦
          ap (λ (m : ℕ). first_key_at (key_before (reads_key (f p)) p (f p) (keys_from f (suc p) n)) m) e.1
          ∙ says_here p (f p) (keys_from f (suc p) n) (reads_key (f p)) refl (keys_before f (suc p) n p (omega arith)) ∙ ap f (sym e.1)
      | inr e ↦ says_elsewhere p q (f p) (keys_from f (suc p) n) (reads_key (f p)) e.0 ∙ keys_inside f (suc p) n q (omega (arith, a, e.1)) (omega (arith, b))
    ]

keys_after : (f : ℕ → KeyPart) (p n q : ℕ) → p + n ≤ q → first_key_at (keys_from f p n) q ≡ key.N
unfolding keys_from
keys_after f p zero q a = refl
keys_after f p (suc n) q a =
    let ne : nat_eq q p ≡ false = grind (arith, nat_tests) in
    says_elsewhere p q (f p) (keys_from f (suc p) n) (reads_key (f p)) ne ∙ keys_after f (suc p) n q (omega (arith, a))

-- Beliefs

describes : (b : Belief) (n : ℕ) (xs : List RangePiece) → n ≡ TOP → IsBelief b → SaysFrom b.range_at 0 n xs → Describes (record { ranges = xs; keys = keys_from b.key_at 0 n }) b
describes b n xs e i h = record {
  ranges_in_order = h.in_order;
  merged = h.merged;
  keys_in_order = keys_ascend b.key_at 0 n 0 (omega arith) (omega (arith, e));
  ranges = λ p. elim (leb_tells n p) [
    | inl l ↦ h.after p (omega (arith, l.1)) ∙ sym (i.past p (let c = past_end in omega (arith, l.1, e, c))).0
    | inr l ↦ h.inside p (omega arith) (omega (arith, l.1))
  ];
  keys = λ p. elim (leb_tells n p) [
    | inl l ↦ keys_after b.key_at 0 n p (omega (arith, l.1)) ∙ sym (i.past p (let c = past_end in omega (arith, l.1, e, c))).1
    | inr l ↦ keys_inside b.key_at 0 n p (omega arith) (omega (arith, l.1))
  ];
}

described_to : (b : Belief) (n : ℕ) → n ≡ TOP → IsBelief b → (ps : Pieces) × Describes ps b
described_to b n e i =
    let xs = said_from b.range_at 0 n (omega (arith, e)) in
    (record { ranges = xs.0; keys = keys_from b.key_at 0 n }, describes b n xs.0 e i xs.1)

pub beliefs_are_described : BeliefsAreDescribed
beliefs_are_described b i = described_to b TOP refl i
