-- Holdings, and what a client reports, as they are spelled.
use Rattle.std.proofs.Common.{◌≡◌, ℕ, zero, suc, ◌<◌, ◌≤◌, true, false, cond, ltb, List, [], ◌∷◌, ◌++◌, length, Option, Result, Ok, Err, refl, sym, ap, subst, ◌∙◌, append_assoc, arith, length-append}
use Rattle.std.specs.Prelude.{nat_le, ◌&&◌, ◌/◌, ◌*◌}
use Rattle.std.specs.Int.{w32}
use Rattle.std.specs.List.{flat_map, AllByRecursion}
use Rattle.std.proofs.Math.Nat.{suc-mul}
use Rattle.std.proofs.lemmas.Nat.{le-div}
use Rattle.std.proofs.lemmas.Bool.{ltb-false, le-ltb, leb-true, le-leb, and_parts}
use Rattle.std.proofs.lemmas.List.Concat.{flat_map-cons}
use Rattle.krl_modes.specs.Spans.{Bounds}
use Rattle.krl_modes.specs.declared.mode.Mode.{Mode}
use Rattle.krl_modes.specs.declared.part.RangePart.{RangePart}
use Rattle.krl_modes.specs.declared.part.KeyPart.{KeyPart}
use Rattle.krl_messages.specs.Values.{Value}
use Rattle.krl_messages.specs.Ascending.{Ascend}
use Rattle.krl_messages.specs.declared.holding.Holding.{Holding}
use Rattle.krl_messages.specs.declared.range_pieces.RangePiece.{RangePiece}
use Rattle.krl_messages.specs.declared.key_pieces.KeyPiece.{KeyPiece}
use Rattle.krl_messages.specs.declared.pieces.Pieces.{Pieces}
use Rattle.krl_wire.specs.declared.fault.Fault.{Fault}
use Rattle.krl_wire.specs.declared.fault.Fault.TheVariants as fault
use Rattle.krl_wire.specs.Spelling.{count, holding, holdings, list, range_piece, key_piece, pieces}
use Rattle.krl_wire.specs.Fitting.{FitsHolding, FitsHoldings, FitsRange, FitsKey, FitsList, FitsPieces}
use Rattle.krl_wire.specs.Reading.{◌>>=◌, byte_at, number_at, holding_at, holding_from, holdings_from, holdings_at, range_piece_at, key_piece_at, count_at, items_at, list_at, pieces_at}
use Rattle.krl_wire.proofs.Fields.{IsBytes, IsBytes-rest, bind_ok, passed, held, ok_is, Takes, Takes-then, IsCodec, number_codec, small_codec, span_codec, optional_codec}
use Rattle.krl_wire.proofs.Rows.{two_take, two_again, three_take, three_again}
use Rattle.krl_wire.proofs.Tables.{mode_codec, range_codec, key_codec}

-- ---- a holding

abbrev holding_of : Bounds → Mode → Option Value → Holding
holding_of s m v = record { span = s; mode = m; value = v }

holding_takes : (bytes : List ℕ) (x : Holding × List ℕ) → IsBytes bytes → holding_at bytes ≡ Ok x
    → Takes bytes (holding x.0) x.1 × FitsHolding x.0
unfolding holding_at
holding_takes bytes x fits e =
    let t = three_take span_codec mode_codec optional_codec holding_of bytes x fits e in
    subst (λ (y : Holding). Takes bytes (holding y) x.1 × FitsHolding y) t.3 (t.4, (t.5, t.7))

holding_again : (h : Holding) (rest : List ℕ) → FitsHolding h → holding_at (holding h ++ rest) ≡ Ok (h, rest)
unfolding holding_at
holding_again h rest fits = three_again span_codec mode_codec optional_codec holding_of h.span h.mode h.value rest
    fits.0 tt fits.1

pub holding_codec : IsCodec holding holding_at FitsHolding
holding_codec = record { takes = holding_takes; again = holding_again }

-- ---- holdings, each after the one before

-- the first at this point or later
abbrev Rises : ℕ → List Holding → Type 0
Rises least [] = Unit {0}
Rises least (h ∷ hs) = (least ≤ h.span.lo) × Rises h.span.hi hs

ascends : (h : Holding) (hs : List Holding) → Rises h.span.hi hs → Ascend (h ∷ hs)
ascends h [] up = (tt, tt)
ascends h (k ∷ ks) up = (up.0, ascends k ks up.1)

rises_behind : (h : Holding) (hs : List Holding) → Ascend (h ∷ hs) → Rises h.span.hi hs
rises_behind h [] up = tt
rises_behind h (k ∷ ks) up = (up.0, rises_behind k ks up.1)

all_ascend : (hs : List Holding) → Rises 0 hs → Ascend hs
all_ascend [] up = tt
all_ascend (h ∷ hs) up = ascends h hs up.1

all_rise : (hs : List Holding) → Ascend hs → Rises 0 hs
all_rise [] up = tt
all_rise (h ∷ hs) up = (omega arith, rises_behind h hs up)

from_takes : (least : ℕ) (bytes : List ℕ) (x : Holding × List ℕ) → IsBytes bytes → holding_from least bytes ≡ Ok x
    → Takes bytes (holding x.0) x.1 × FitsHolding x.0 × (least ≤ x.0.span.lo)
unfolding holding_from
from_takes least bytes x fits e =
    let a = bind_ok (holding_at bytes) (λ h. cond (ltb h.0.span.lo least) (Err fault.Order) (Ok (h.0, h.1))) x e in
    let g = passed (ltb a.0.0.span.lo least) fault.Order (Ok a.0) x a.2 in
    let t = holding_codec.takes bytes a.0 fits a.1 in
    subst (λ (y : Holding × List ℕ). Takes bytes (holding y.0) y.1 × FitsHolding y.0 × (least ≤ y.0.span.lo))
    (ok_is a.0 x g.1)
    (t.0, t.1, ltb-false _ _ g.0)

from_again : (least : ℕ) (h : Holding) (rest : List ℕ) → FitsHolding h → least ≤ h.span.lo
    → holding_from least (holding h ++ rest) ≡ Ok (h, rest)
unfolding holding_from
from_again least h rest fits le =
    let high : ltb h.span.lo least ≡ false = le-ltb _ _ le in
    rw (holding_codec.again h rest fits, high) refl

several_take : (n least : ℕ) (bytes : List ℕ) (x : List Holding × List ℕ) → IsBytes bytes
    → holdings_from n least bytes ≡ Ok x
    → Takes bytes (flat_map holding x.0) x.1 × (length x.0 ≡ n) × AllByRecursion FitsHolding x.0 × Rises least x.0
unfolding holdings_from
several_take zero least bytes x fits e =
    subst (λ (y : List Holding × List ℕ). Takes bytes (flat_map holding y.0) y.1 × (length y.0 ≡ 0)
    × AllByRecursion FitsHolding y.0 × Rises least y.0) (ok_is ([], bytes) x e)
    (record { parts = refl; rest_fits = fits }, refl, tt, tt)
several_take (suc n) least bytes x fits e =
    let a = bind_ok (holding_from least bytes) (λ h. holdings_from n h.0.span.hi h.1 >>= λ hs. Ok (h.0 ∷ hs.0, hs.1))
    x e in
    let b = bind_ok (holdings_from n a.0.0.span.hi a.0.1) (λ hs. Ok (a.0.0 ∷ hs.0, hs.1)) x a.2 in
    let first = from_takes least bytes a.0 fits a.1 in
    let others = several_take n a.0.0.span.hi a.0.1 b.0 first.0.rest_fits b.1 in
    let both = Takes-then bytes (holding a.0.0) a.0.1 (flat_map holding b.0.0) b.0.1 first.0 others.0 in
    let made : List Holding × List ℕ = (a.0.0 ∷ b.0.0, b.0.1) in
    subst (λ (y : List Holding × List ℕ). Takes bytes (flat_map holding y.0) y.1 × (length y.0 ≡ suc n)
    × AllByRecursion FitsHolding y.0 × Rises least y.0) (ok_is made x b.2)
    (rw flat_map-cons both, ap suc others.1, (first.1, others.2), (first.2, others.3))

several_again : (hs : List Holding) (least : ℕ) (rest : List ℕ) → AllByRecursion FitsHolding hs → Rises least hs
    → holdings_from (length hs) least (flat_map holding hs ++ rest) ≡ Ok (hs, rest)
unfolding holdings_from
several_again [] least rest fits up = refl
several_again (h ∷ hs) least rest fits up =
    let regrouped : flat_map holding (h ∷ hs) ++ rest ≡ holding h ++ (flat_map holding hs ++ rest) = ap
    (λ (x : List ℕ). x ++ rest) (flat_map-cons holding h hs) ∙ append_assoc (holding h)
    (flat_map holding hs) rest in
    ap (holdings_from (suc (length hs)) least) regrouped
    ∙ rw (from_again least h (flat_map holding hs ++ rest) fits.0 up.0, several_again hs h.span.hi rest fits.1 up.1)
    refl

holdings_takes : (bytes : List ℕ) (x : List Holding × List ℕ) → IsBytes bytes → holdings_at bytes ≡ Ok x
    → Takes bytes (holdings x.0) x.1 × FitsHoldings x.0
unfolding holdings_at byte_at
holdings_takes [] x fits e = absurd cc
holdings_takes (n ∷ bytes) x fits e =
    let g = held (nat_le 1 n && nat_le n 128) fault.Count (holdings_from n 0 bytes) x e in
    let b = and_parts (nat_le 1 n) (nat_le n 128) g.0 in
    let low : 1 ≤ n = leb-true _ _ b.0 in
    let high : n ≤ 128 = leb-true _ _ b.1 in
    let t = several_take n 0 bytes x (IsBytes-rest n bytes fits) g.1 in (
      record {
        parts = ap (λ (k : ℕ). k ∷ bytes) (sym t.1) ∙ ap (λ (w : List ℕ). length x.0 ∷ w) t.0.parts;
        rest_fits = t.0.rest_fits;
      },
      (omega (arith, t.1, low), omega (arith, t.1, high), all_ascend x.0 t.3, t.2),
    )

holdings_again : (hs : List Holding) (rest : List ℕ) → FitsHoldings hs
    → holdings_at (holdings hs ++ rest) ≡ Ok (hs, rest)
unfolding holdings_at byte_at
holdings_again hs rest fits =
    let low : nat_le 1 (length hs) ≡ true = le-leb _ _ fits.0 in
    let high : nat_le (length hs) 128 ≡ true = le-leb _ _ fits.1 in
    rw (low, high) (several_again hs 0 rest fits.3 (all_rise hs fits.2))

pub holdings_codec : IsCodec holdings holdings_at FitsHoldings
holdings_codec = record { takes = holdings_takes; again = holdings_again }

-- ---- lists

module _ {X : Type 0} {spell : X → List ℕ} {read : List ℕ → Result (X × List ℕ) Fault} {Fits : X → Type 0}
    (c : IsCodec spell read Fits) where
  items_take : (n : ℕ) (bytes : List ℕ) (x : List X × List ℕ) → IsBytes bytes → items_at read n bytes ≡ Ok x
      → Takes bytes (flat_map spell x.0) x.1 × (length x.0 ≡ n) × AllByRecursion Fits x.0
  unfolding items_at
  items_take zero bytes x fits e =
      subst (λ (y : List X × List ℕ). Takes bytes (flat_map spell y.0) y.1 × (length y.0 ≡ 0)
      × AllByRecursion Fits y.0) (ok_is ([], bytes) x e) (record { parts = refl; rest_fits = fits }, refl, tt)
  items_take (suc n) bytes x fits e =
      let a = bind_ok (read bytes) (λ first. items_at read n first.1 >>= λ others. Ok (first.0 ∷ others.0, others.1))
      x e in
      let b = bind_ok (items_at read n a.0.1) (λ others. Ok (a.0.0 ∷ others.0, others.1)) x a.2 in
      let first = c.takes bytes a.0 fits a.1 in
      let second = items_take n a.0.1 b.0 first.0.rest_fits b.1 in
      let both = Takes-then bytes (spell a.0.0) a.0.1 (flat_map spell b.0.0) b.0.1 first.0 second.0 in
      let made : List X × List ℕ = (a.0.0 ∷ b.0.0, b.0.1) in
      subst (λ (y : List X × List ℕ). Takes bytes (flat_map spell y.0) y.1 × (length y.0 ≡ suc n)
      × AllByRecursion Fits y.0) (ok_is made x b.2) (rw flat_map-cons both, ap suc second.1, (first.1, second.2))

  items_again : (xs : List X) (rest : List ℕ) → AllByRecursion Fits xs
      → items_at read (length xs) (flat_map spell xs ++ rest) ≡ Ok (xs, rest)
  unfolding items_at
  items_again [] rest fits = refl
  items_again (n ∷ ns) rest fits =
      let regrouped : flat_map spell (n ∷ ns) ++ rest ≡ spell n ++ (flat_map spell ns ++ rest) = ap
      (λ (x : List ℕ). x ++ rest) (flat_map-cons spell n ns) ∙ append_assoc (spell n) (flat_map spell ns) rest in
      ap (items_at read (suc (length ns))) regrouped
      ∙ rw (c.again n (flat_map spell ns ++ rest) fits.0, items_again ns rest fits.1) refl

  module _ (size : ℕ) (some : 0 < size) (each : (x : X) → length (spell x) ≡ size) where
    room : (xs : List X) → length xs * size ≤ length (flat_map spell xs)
    room [] = omega arith
    room (x ∷ xs) =
        let a = ap length (flat_map-cons spell x xs) in
        let b = length-append (spell x) (flat_map spell xs) in
        let d = suc-mul (length xs) size in
        omega (arith, a, b, d, each x, room xs)

    list_takes : (bytes : List ℕ) (x : List X × List ℕ) → IsBytes bytes → list_at size read bytes ≡ Ok x
        → Takes bytes (list spell x.0) x.1 × FitsList Fits x.0
    unfolding list_at count_at
    list_takes bytes x fits e =
        let n = bind_ok (count_at size bytes) (λ n. items_at read n.0 n.1) x e in
        let m = bind_ok (number_at w32 bytes)
        (λ n. cond (ltb (length n.1 / size) n.0) (Err fault.Short) (Ok (n.0, n.1))) n.0 n.1 in
        let g = passed (ltb (length m.0.1 / size) m.0.0) fault.Short (Ok m.0) n.0 m.2 in
        let counted : number_at w32 bytes ≡ Ok n.0 = m.1 ∙ g.1 in
        let t1 = small_codec.takes bytes n.0 fits counted in
        let t2 = items_take n.0.0 n.0.1 x t1.0.rest_fits n.2 in
        let both = Takes-then bytes (count n.0.0) n.0.1 (flat_map spell x.0) x.1 t1.0 t2.0 in (
          subst (λ (k : ℕ). Takes bytes (count k ++ flat_map spell x.0) x.1) (sym t2.1) both,
          (omega (arith, t2.1, t1.1), t2.2),
        )

    list_again : (xs : List X) (rest : List ℕ) → FitsList Fits xs
        → list_at size read (list spell xs ++ rest) ≡ Ok (xs, rest)
    unfolding list_at count_at
    list_again xs rest fits =
        let body = flat_map spell xs ++ rest in
        let all : length xs * size ≤ length body = omega (arith, room xs, length-append (flat_map spell xs) rest) in
        let enough : ltb (length body / size) (length xs) ≡ false = le-ltb _ _
        (le-div (length xs) (length body) size some all) in
        ap (list_at size read) (append_assoc (count (length xs)) (flat_map spell xs) rest)
        ∙ rw (small_codec.again (length xs) body fits.0, enough) (items_again xs rest fits.1)

    list_codec : IsCodec (list spell) (list_at size read) (FitsList Fits)
    list_codec = record { takes = list_takes; again = list_again }

-- ---- what a client reports

abbrev range_of : Bounds → RangePart → RangePiece
range_of s p = record { span = s; part = p }

abbrev key_of : ℕ → KeyPart → KeyPiece
key_of n p = record { point = n; part = p }

range_piece_takes : (bytes : List ℕ) (x : RangePiece × List ℕ) → IsBytes bytes → range_piece_at bytes ≡ Ok x
    → Takes bytes (range_piece x.0) x.1 × FitsRange x.0
unfolding range_piece_at
range_piece_takes bytes x fits e =
    let t = two_take span_codec range_codec range_of bytes x fits e in
    subst (λ (y : RangePiece). Takes bytes (range_piece y) x.1 × FitsRange y) t.2 (t.3, t.4)

range_piece_again : (p : RangePiece) (rest : List ℕ) → FitsRange p
    → range_piece_at (range_piece p ++ rest) ≡ Ok (p, rest)
unfolding range_piece_at
range_piece_again p rest fits = two_again span_codec range_codec range_of p.span p.part rest fits tt

range_piece_codec : IsCodec range_piece range_piece_at FitsRange
range_piece_codec = record { takes = range_piece_takes; again = range_piece_again }

key_piece_takes : (bytes : List ℕ) (x : KeyPiece × List ℕ) → IsBytes bytes → key_piece_at bytes ≡ Ok x
    → Takes bytes (key_piece x.0) x.1 × FitsKey x.0
unfolding key_piece_at
key_piece_takes bytes x fits e =
    let t = two_take number_codec key_codec key_of bytes x fits e in
    subst (λ (y : KeyPiece). Takes bytes (key_piece y) x.1 × FitsKey y) t.2 (t.3, t.4)

key_piece_again : (p : KeyPiece) (rest : List ℕ) → FitsKey p → key_piece_at (key_piece p ++ rest) ≡ Ok (p, rest)
unfolding key_piece_at
key_piece_again p rest fits = two_again number_codec key_codec key_of p.point p.part rest fits tt

key_piece_codec : IsCodec key_piece key_piece_at FitsKey
key_piece_codec = record { takes = key_piece_takes; again = key_piece_again }

range_list_codec : IsCodec (list range_piece) (list_at 17 range_piece_at) (FitsList FitsRange)
range_list_codec = list_codec range_piece_codec 17 (omega arith) (λ p. refl)

key_list_codec : IsCodec (list key_piece) (list_at 9 key_piece_at) (FitsList FitsKey)
key_list_codec = list_codec key_piece_codec 9 (omega arith) (λ p. refl)

abbrev pieces_of : List RangePiece → List KeyPiece → Pieces
pieces_of rs ks = record { ranges = rs; keys = ks }

pieces_takes : (bytes : List ℕ) (x : Pieces × List ℕ) → IsBytes bytes → pieces_at bytes ≡ Ok x
    → Takes bytes (pieces x.0) x.1 × FitsPieces x.0
unfolding pieces_at
pieces_takes bytes x fits e =
    let t = two_take range_list_codec key_list_codec pieces_of bytes x fits e in
    subst (λ (y : Pieces). Takes bytes (pieces y) x.1 × FitsPieces y) t.2 (t.3, (t.4, t.5))

pieces_again : (p : Pieces) (rest : List ℕ) → FitsPieces p → pieces_at (pieces p ++ rest) ≡ Ok (p, rest)
unfolding pieces_at
pieces_again p rest fits = two_again range_list_codec key_list_codec pieces_of p.ranges p.keys rest fits.0 fits.1

pub pieces_codec : IsCodec pieces pieces_at FitsPieces
pieces_codec = record { takes = pieces_takes; again = pieces_again }
