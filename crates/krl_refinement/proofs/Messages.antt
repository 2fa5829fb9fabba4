-- What a client reports stands in its link; what the server sends is what a client takes; and whatever stands in a link
-- stays there while no message goes.
use Rattle.std.proofs.Common.{◌≡◌, ℕ, suc, ◌<◌, ◌∙◌, Bool, true, false, None, List, [], ◌∷◌, inl, refl, sym, ap, arith, nat_eq, if◌then◌else◌, eqb-true}
use Rattle.krl_refinement.proofs.Names.{eqb-false, AllByRecursion, range_join, key_join, IsWhole, contains, inside_span, Pieces, ToClientBody, PushBody, Head, Link, joined_range_at}
use Rattle.krl_refinement.proofs.Names.{greatest_key_at, Belief, AreInOrder, AreAscending, Describes, report_of, push_of, RequestStands, Stands, IsTold, WasSent, Grows, IsFrom, Tells, IsTo}
use mathlib.Core.Path.{fun_ext}
use Rattle.krl_modes.specs.declared.part.KeyPart.TheVariants as key
use Rattle.krl_messages.specs.declared.range_pieces.RangePiece.{RangePiece}
use Rattle.krl_messages.specs.declared.key_pieces.KeyPiece.{KeyPiece}
use Rattle.krl_messages.specs.declared.to_server.ToServerBody.{ToServerBody}
use Rattle.krl_messages.specs.declared.to_server.ToServerBody.TheVariants as said
use Rattle.krl_messages.specs.declared.to_server.RequestBody.{RequestBody}
use Rattle.krl_messages.specs.declared.to_server.RequestBody.TheVariants as asked
use Rattle.krl_messages.specs.declared.to_client.ToClientBody.TheVariants as told
use Rattle.krl_messages.specs.declared.to_client.PushBody.TheVariants as push
use Rattle.krl_machine.specs.Links as links
use Rattle.krl_cache.specs.Kept as cache
use Rattle.krl_cache.proofs.Described.{in_order_before}
use Rattle.krl_table.proofs.ReportRows.PieceByPiece.{range_right, key_right}

-- Reports. If pieces stand apart, the first that speaks of a point is the join of all that do

ranges_agree : (xs : List RangePiece) (lo q : ℕ) → AreInOrder lo xs → joined_range_at xs q ≡ cache.first_range_at xs q
ranges_agree [] lo q h = refl
ranges_agree (x ∷ xs) lo q h = by_test (contains x.span q) refl (ranges_agree xs x.span.hi q h.3)
  where
    by_test : (t : Bool) → contains x.span q ≡ t → joined_range_at xs q ≡ cache.first_range_at xs q → (if t then range_join x.part (joined_range_at xs q) else joined_range_at xs q) ≡ (if t then x.part else cache.first_range_at xs q)
    by_test true e ih = let i = inside_span x.span q e in ap (range_join x.part) (ih ∙ in_order_before x.span.hi q xs h.3 i.1) ∙ range_right x.part
    by_test false e ih = ih

keys_later : (xs : List KeyPiece) (lo q : ℕ) → AreAscending lo xs → q < lo → greatest_key_at xs q ≡ key.N
keys_later [] lo q h l = refl
keys_later (x ∷ xs) lo q h l = by_test (nat_eq x.point q) refl (keys_later xs (suc x.point) q h.3 (let a = h.0 in omega arith))
  where
    by_test : (t : Bool) → nat_eq x.point q ≡ t → greatest_key_at xs q ≡ key.N → (if t then key_join x.part (greatest_key_at xs q) else greatest_key_at xs q) ≡ key.N
    by_test true e ih = let i = eqb-true x.point q e in let a = h.0 in absurd (omega arith)
    by_test false e ih = ih

keys_agree : (xs : List KeyPiece) (lo q : ℕ) → AreAscending lo xs → greatest_key_at xs q ≡ cache.first_key_at xs q
keys_agree [] lo q h = refl
keys_agree (x ∷ xs) lo q h = by_tests (nat_eq x.point q) (nat_eq q x.point) refl refl (keys_agree xs (suc x.point) q h.3)
  where
    by_tests : (t u : Bool) → nat_eq x.point q ≡ t → nat_eq q x.point ≡ u → greatest_key_at xs q ≡ cache.first_key_at xs q → (if t then key_join x.part (greatest_key_at xs q) else greatest_key_at xs q) ≡ (if u then x.part else cache.first_key_at xs q)
    by_tests true true e f ih = let i = eqb-true x.point q e in ap (key_join x.part) (keys_later xs (suc x.point) q h.3 (omega arith)) ∙ key_right x.part
    by_tests true false e f ih = let i = eqb-true x.point q e in absurd (eqb-false q x.point f (sym i))
    by_tests false true e f ih = let i = eqb-true q x.point f in absurd (eqb-false x.point q e (sym i))
    by_tests false false e f ih = ih

all_whole : (xs : List RangePiece) (lo : ℕ) → AreInOrder lo xs → AllByRecursion (λ x. IsWhole x.span) xs
all_whole [] lo h = tt
all_whole (x ∷ xs) lo h = (h.1, all_whole xs x.span.hi h.3)

report_is : (r : links.Report) (inc epoch : ℕ) (ps : Pieces) → r.inc ≡ inc → r.epoch ≡ epoch → Describes ps (record { range_at = r.range; key_at = r.key; value_at = λ p. None }) → r ≡ report_of inc epoch ps
report_is r inc epoch ps i e d =
    let ranges : r.range ≡ joined_range_at ps.ranges = fun_ext (λ q. sym (ranges_agree ps.ranges 0 q d.ranges_in_order ∙ d.ranges q)) in
    let keys : r.key ≡ greatest_key_at ps.keys = fun_ext (λ q. sym (keys_agree ps.keys 0 q d.keys_in_order ∙ d.keys q)) in
    λ t. record { inc = i t; epoch = e t; range = ranges t; key = keys t }

-- pieces that describe something describe what they state
described : (ps : Pieces) (b : Belief) → Describes ps b → Describes ps (record { range_at = joined_range_at ps.ranges; key_at = greatest_key_at ps.keys; value_at = λ p. None })
described ps b d = record { ranges_in_order = d.ranges_in_order; merged = d.merged; keys_in_order = d.keys_in_order; ranges = λ q. sym (ranges_agree ps.ranges 0 q d.ranges_in_order); keys = λ q. sym (keys_agree ps.keys 0 q d.keys_in_order) }

-- the last report, of pieces that describe what it states
pub report_stands : (l : Link) (r : links.Report) (inc epoch : ℕ) (ps : Pieces) → r.inc ≡ inc → r.epoch ≡ epoch → Describes ps (record { range_at = r.range; key_at = r.key; value_at = λ p. None }) → IsFrom (record l { reports = r ∷ l.reports }) inc (said.Report epoch ps)
report_stands l r inc epoch ps i e d = ((inl (sym (report_is r inc epoch ps i e d)), all_whole ps.ranges 0 d.ranges_in_order), described ps _ d)

-- What a push bears

pub push_inc : (inc epoch number : ℕ) (b : PushBody) → (push_of inc epoch number b).inc ≡ inc
push_inc inc epoch number (push.Grant req hs) = refl
push_inc inc epoch number (push.Absent req point) = refl
push_inc inc epoch number (push.Answer w o h) = refl

pub push_epoch : (inc epoch number : ℕ) (b : PushBody) → (push_of inc epoch number b).epoch ≡ epoch
push_epoch inc epoch number (push.Grant req hs) = refl
push_epoch inc epoch number (push.Absent req point) = refl
push_epoch inc epoch number (push.Answer w o h) = refl

pub push_number : (inc epoch number : ℕ) (b : PushBody) → (push_of inc epoch number b).number ≡ number
push_number inc epoch number (push.Grant req hs) = refl
push_number inc epoch number (push.Absent req point) = refl
push_number inc epoch number (push.Answer w o h) = refl

-- What a client sends and receives

pub from_stands : (l : Link) (inc : ℕ) (b : ToServerBody) → IsFrom l inc b → Stands l inc b
from_stands l inc said.Hello h = h
from_stands l inc said.Bye h = h
from_stands l inc (said.Report epoch ps) h = h.0
from_stands l inc (said.Request r) h = h

push_tells : (inc epoch number : ℕ) (b : PushBody) → IsTold b → Tells b (push_of inc epoch number b)
push_tells inc epoch number (push.Grant req hs) t = (refl, λ q. refl)
push_tells inc epoch number (push.Absent req point) t = (refl, λ q. refl)
push_tells inc epoch number (push.Answer w o h) t = (refl, (λ q. refl), refl, t)

pub sent_tells : (l : Link) (inc : ℕ) (b : ToClientBody) → WasSent l inc b → IsTo l inc b
sent_tells l inc (told.Epoch epoch) h = h
sent_tells l inc (told.Push epoch number b) h = (push_of inc epoch number b, h.0, push_inc inc epoch number b, push_epoch inc epoch number b, push_number inc epoch number b, h.1, push_tells inc epoch number b h.2)
sent_tells l inc (told.Callback epoch s keep) h = h

-- No message goes

request_stays : (l m : Link) → Grows l m → (a : Head) (b : RequestBody) → RequestStands l a b → RequestStands m a b
request_stays l m g a (asked.Lock req point hi mode) h = h
request_stays l m g a (asked.Write number x seizes) h = g.writes _ h
request_stays l m g a (asked.Release s keep) h = (h.0, g.releases _ h.1)
request_stays l m g a asked.Ack h = h

pub stands_stays : (l m : Link) → Grows l m → (inc : ℕ) (b : ToServerBody) → Stands l inc b → Stands m inc b
stands_stays l m g inc said.Hello h = g.hellos _ h
stands_stays l m g inc said.Bye h = g.byes _ h
stands_stays l m g inc (said.Report epoch ps) h = (g.reports _ h.0, h.1)
stands_stays l m g inc (said.Request r) h = (g.heads _ h.0, request_stays l m g _ r.body h.1)

pub from_stays : (l m : Link) → Grows l m → (inc : ℕ) (b : ToServerBody) → IsFrom l inc b → IsFrom m inc b
from_stays l m g inc said.Hello h = g.hellos _ h
from_stays l m g inc said.Bye h = g.byes _ h
from_stays l m g inc (said.Report epoch ps) h = (stands_stays l m g inc (said.Report epoch ps) h.0, h.1)
from_stays l m g inc (said.Request r) h = stands_stays l m g inc (said.Request r) h

pub sent_stays : (l m : Link) → Grows l m → (inc : ℕ) (b : ToClientBody) → WasSent l inc b → WasSent m inc b
sent_stays l m g inc (told.Epoch epoch) h = g.notices _ h
sent_stays l m g inc (told.Push epoch number b) h = (g.pushes _ h.0, h.1, h.2)
sent_stays l m g inc (told.Callback epoch s keep) h = h
