-- What the lists of a cache stand for, after each call.
use Rattle.std.proofs.Common.{◌≡◌, ℕ, true, cond, List, map, None, sym, ap, subst, ◌∙◌, arith}
use Rattle.std.specs.Option.{option_and_then}
use Rattle.std.specs.Ordering.{nat_cmp}
use Rattle.std.specs.FinMap.{find}
use Rattle.krl_modes.specs.declared.point.TheConstants.{TOP}
use Rattle.krl_modes.specs.declared.part.RangePart.{RangePart}
use Rattle.krl_modes.specs.declared.part.KeyPart.{KeyPart}
use Rattle.krl_modes.specs.declared.mode.Mode.{Mode}
use Rattle.krl_modes.specs.Parts.{range_meet}
use Rattle.krl_modes.specs.Modes.{range_of, key_of}
use Rattle.krl_modes.specs.Spans.{Bounds, contains}
use Rattle.krl_messages.specs.declared.holding.Holding.{Holding}
use Rattle.krl_messages.specs.declared.range_pieces.RangePiece.{RangePiece}
use Rattle.krl_messages.specs.declared.key_pieces.KeyPiece.{KeyPiece}
use Rattle.krl_cache.specs.declared.entry.Entry.{Entry}
use Rattle.krl_messages.specs.Holdings.{has_its_value}
use Rattle.krl_cache.specs.Beliefs.{is_last, adopt, lower}
use Rattle.krl_cache.specs.Kept.{first_range_at, first_key_at, AreMerged, AreAscending, Describes}
use Rattle.krl_cache.specs.Entries.{key_piece, entry_of, entry_lowered, StandWithin}
use Rattle.krl_cache_laws.specs.Lists.{lists_believe, AreKept}
use Rattle.krl_cache.proofs.Effects.{adopts, lowers}
use Rattle.krl_cache.proofs.Pieces.{stand_in_order}
use Rattle.krl_cache.proofs.Entries.{keys_say, keys_ascend}

pub lists_adopt : (h : Holding) (rs xs new : List RangePiece) (es ys is : List (ℕ × Entry)) (parts : RangePart × KeyPart) → has_its_value h ≡ true → parts ≡ (range_of h.mode, key_of h.mode) → xs ≡ rs → ys ≡ es → ((p : ℕ) → first_range_at new p ≡ cond (contains h.span p) parts.0 (first_range_at xs p)) → ((p : ℕ) → find nat_cmp p is ≡ cond (contains h.span p) (cond (is_last h.span p) (entry_of parts.1 h.value) None) (find nat_cmp p ys)) → lists_believe (record { ranges = new; entries = is }) ≡ adopt h (lists_believe (record { ranges = rs; entries = es }))
lists_adopt h rs xs new es ys is parts rule e ex ey said found =
    adopts h (first_range_at rs) (first_range_at new) (λ p. find nat_cmp p es) (λ p. find nat_cmp p is) rule
    (λ p. said p ∙ ap (λ (x : RangePart × KeyPart). cond (contains h.span p) x.0 (first_range_at xs p)) e ∙ ap (λ (x : List RangePiece). cond (contains h.span p) (range_of h.mode) (first_range_at x p)) ex)
    (λ p. found p ∙ ap (λ (x : RangePart × KeyPart). cond (contains h.span p) (cond (is_last h.span p) (entry_of x.1 h.value) None) (find nat_cmp p ys)) e
    ∙ ap (λ (y : List (ℕ × Entry)). cond (contains h.span p) (cond (is_last h.span p) (entry_of (key_of h.mode) h.value) None) (find nat_cmp p y)) ey)

pub lists_lower : (s : Bounds) (keep : Mode) (rs xs new : List RangePiece) (es ys is : List (ℕ × Entry)) (parts : RangePart × KeyPart) → parts ≡ (range_of keep, key_of keep) → xs ≡ rs → ys ≡ es → ((p : ℕ) → first_range_at new p ≡ cond (contains s p) (range_meet (first_range_at xs p) parts.0) (first_range_at xs p)) → ((p : ℕ) → find nat_cmp p is ≡ cond (contains s p) (option_and_then (entry_lowered parts.1) (find nat_cmp p ys)) (find nat_cmp p ys)) → lists_believe (record { ranges = new; entries = is }) ≡ lower s keep (lists_believe (record { ranges = rs; entries = es }))
lists_lower s keep rs xs new es ys is parts e ex ey said found =
    lowers s keep (first_range_at rs) (first_range_at new) (λ p. find nat_cmp p es) (λ p. find nat_cmp p is)
    (λ p. said p ∙ ap (λ (x : RangePart × KeyPart). cond (contains s p) (range_meet (first_range_at xs p) x.0) (first_range_at xs p)) e ∙ ap (λ (x : List RangePiece). cond (contains s p) (range_meet (first_range_at x p) (range_of keep)) (first_range_at x p)) ex)
    (λ p. found p ∙ ap (λ (x : RangePart × KeyPart). cond (contains s p) (option_and_then (entry_lowered x.1) (find nat_cmp p ys)) (find nat_cmp p ys)) e
    ∙ ap (λ (y : List (ℕ × Entry)). cond (contains s p) (option_and_then (entry_lowered (key_of keep)) (find nat_cmp p y)) (find nat_cmp p y)) ey)

pub lists_describe : (rs xs : List RangePiece) (es ys : List (ℕ × Entry)) (keys : List KeyPiece) → AreKept (record { ranges = rs; entries = es }) → xs ≡ rs → ys ≡ es → keys ≡ map key_piece ys → Describes (record { ranges = xs; keys = keys }) (lists_believe (record { ranges = rs; entries = es }))
lists_describe rs xs es ys keys kept ex ey e =
    let whole : keys ≡ map key_piece es = e ∙ ap (λ (y : List (ℕ × Entry)). map key_piece y) ey in
    record {
      ranges_in_order = stand_in_order 0 TOP xs (omega arith) (subst (λ (x : List RangePiece). StandWithin 0 TOP x) (sym ex) kept.ranges);
      merged = subst (λ (x : List RangePiece). AreMerged x) (sym ex) kept.merged;
      keys_in_order = subst (λ (x : List KeyPiece). AreAscending 0 x) (sym whole) (keys_ascend 0 TOP es (omega arith) kept.entries.rise kept.entries.read);
      ranges = λ p. ap (λ (x : List RangePiece). first_range_at x p) ex;
      keys = λ p. ap (λ (x : List KeyPiece). first_key_at x p) whole ∙ keys_say es p;
    }
