-- What a client believes: a range part, a key part and a value at each point; what each call of a
-- cache makes of it.
use Rattle.std.specs.Prelude.{◌≡◌, ℕ, suc, ◌≤◌, ◌<◌, Bool, true, false, ◌&&◌, ◌||◌, Option, None, List, [], ◌∷◌, if◌then◌else◌, nat_eq, nat_lt, nat_le}
use Rattle.std.specs.Ordering.{nat_cmp}
use Rattle.std.specs.FinMap.{find, is_sorted}
use Rattle.krl_modes.specs.declared.point.TheConstants.{TOP}
use Rattle.krl_modes.specs.declared.part.RangePart.{RangePart}
use Rattle.krl_modes.specs.declared.part.RangePart.TheVariants as range
use Rattle.krl_modes.specs.declared.part.KeyPart.{KeyPart}
use Rattle.krl_modes.specs.declared.part.KeyPart.TheVariants as key
use Rattle.krl_modes.specs.declared.mode.Mode.{Mode}
use Rattle.krl_modes.specs.Parts.{range_meet, key_meet, reads_key, reads_gap}
use Rattle.krl_modes.specs.Modes.{range_of, key_of}
use Rattle.krl_modes.specs.Spans.{Bounds, contains, IsPointOf}
use Rattle.krl_messages.specs.declared.holding.Holding.{Holding}
use Rattle.krl_messages.specs.Values.{Value}
use Rattle.krl_cache.specs.declared.scanned.Scanned.{Scanned}
use Rattle.krl_cache.specs.declared.scanned.Scanned.TheVariants as scanned

-- what a client believes of each point
pub record Belief : Type 0 where
  pub range_at : ℕ → RangePart
  pub key_at : ℕ → KeyPart
  pub value_at : ℕ → Option Value

-- Spans

-- the two ends bound a span
abbrev pub is_span : Bounds → Bool
is_span s = nat_lt s.lo s.hi && nat_le s.hi TOP

-- the point is the span's last
abbrev pub is_last : Bounds → ℕ → Bool
is_last s p = nat_eq (suc p) s.hi

-- Calls

-- N everywhere, and no entry
abbrev pub no_belief : Belief
no_belief = record { range_at = λ p. range.N; key_at = λ p. key.N; value_at = λ p. None }

-- the holding's range part on its span; its key part and value at the span's last point, and no
-- other entry there
abbrev pub adopt : Holding → Belief → Belief
adopt h b = record {
  range_at = λ p. if contains h.span p then range_of h.mode else b.range_at p;
  key_at = λ p.
      if contains h.span p
      then (if is_last h.span p then key_of h.mode else key.N)
      else b.key_at p;
  value_at = λ p.
      if contains h.span p
      then (if is_last h.span p then h.value else None)
      else b.value_at p;
}

-- each holding in its turn
abbrev pub adopt_all : List Holding → Belief → Belief
adopt_all [] b = b
adopt_all (h ∷ hs) b = adopt_all hs (adopt h b)

-- at each point of the span the meet of both parts; an entry whose key part becomes N goes
abbrev pub lower : Bounds → Mode → Belief → Belief
lower s keep b = record {
  range_at = λ p.
      if contains s p then range_meet (b.range_at p) (range_of keep) else b.range_at p;
  key_at = λ p. if contains s p then key_meet (b.key_at p) (key_of keep) else b.key_at p;
  value_at = λ p.
      if contains s p
      then (if reads_key (key_meet (b.key_at p) (key_of keep)) then b.value_at p else None)
      else b.value_at p;
}

-- Scans

-- the point is known: its entry is read, or its gap is
abbrev pub is_covered : Belief → ℕ → Bool
is_covered b p = reads_key (b.key_at p) || reads_gap (b.range_at p)

-- each point of the span is known
abbrev pub CoversAll : Belief → Bounds → Type 0
CoversAll b s = (p : ℕ) → IsPointOf s p → is_covered b p ≡ true

-- the least point of the span that is not known
pub record IsLeastUncovered (b : Belief) (s : Bounds) (p : ℕ) : Type 0 where
  pub point : IsPointOf s p
  pub uncovered : is_covered b p ≡ false
  pub least : (q : ℕ) → s.lo ≤ q → q < p → is_covered b q ≡ true

-- these are the entries of the span, each with its value, in key order
pub record AreRows (b : Belief) (s : Bounds) (rows : List (ℕ × Value)) : Type 0 where
  pub sorted : is_sorted nat_cmp rows ≡ true
  pub at : (p : ℕ) → find nat_cmp p rows ≡ (if contains s p then b.value_at p else None)

-- what a scan of the span finds
abbrev pub Scans : Belief → Bounds → Scanned → Type 0
Scans b s (scanned.Rows rows) = CoversAll b s × AreRows b s rows
Scans b s (scanned.Miss p) = IsLeastUncovered b s p
