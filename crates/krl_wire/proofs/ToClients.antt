-- Messages to a client, as they are spelled.
use Rattle.std.proofs.Common.{◌≡◌, ℕ, ◌≤◌, cond, eqb, List, [], ◌++◌, Result, Ok, Err, refl, sym, subst, ◌∙◌, arith, inl, inr}
use Rattle.std.specs.Prelude.{IfOk}
use Rattle.std.specs.Int.{w64}
use Rattle.std.proofs.lemmas.Bool.{eqb-true, eqb-false}
use Rattle.krl_messages.specs.declared.to_client.ToClient.{ToClient}
use Rattle.krl_messages.specs.declared.to_client.ToClientBody.{ToClientBody}
use Rattle.krl_messages.specs.declared.to_client.ToClientBody.TheVariants as client
use Rattle.krl_messages.specs.declared.to_client.PushBody.{PushBody}
use Rattle.krl_messages.specs.declared.to_client.PushBody.TheVariants as push
use Rattle.krl_wire.specs.declared.fault.Fault.{Fault}
use Rattle.krl_wire.specs.declared.fault.ReadError.{ReadError}
use Rattle.krl_wire.specs.Spelling.{push_kind, push_body, to_client_kind, to_client_body, to_client}
use Rattle.krl_wire.specs.Fitting.{FitsPush, FitsClientBody, FitsToClient}
use Rattle.krl_wire.specs.Reading.{GivesIfRoom, number_at, grant_at, absent_at, answer_at, push_body_at, push_at, epoch_at, callback_at, to_client_body_at, to_client_of}
use Rattle.krl_wire.proofs.Fields.{IsBytes, bind_ok, chosen, ok_is, Takes, IsCodec, number_codec, span_codec}
use Rattle.krl_wire.proofs.Rows.{two_take, two_again, three_take, three_again}
use Rattle.krl_wire.proofs.Tables.{mode_codec, outcome_codec}
use Rattle.krl_wire.proofs.Lists.{holding_codec, holdings_codec}
use Rattle.krl_wire.proofs.Heads.{whole_takes, whole_again}

-- ---- pushes

abbrev IsPush : ℕ → PushBody → Type 0
IsPush kind b = (kind ≡ push_kind b) × FitsPush b

abbrev Reads : ℕ → List ℕ → PushBody × List ℕ → Type 0
Reads kind bytes x = Takes bytes (push_body x.0) x.1 × IsPush kind x.0

grant_takes : (bytes : List ℕ) (x : PushBody × List ℕ) → IsBytes bytes → grant_at bytes ≡ Ok x → Reads 17 bytes x
unfolding grant_at
grant_takes bytes x fits e =
    let t = two_take number_codec holdings_codec push.Grant bytes x fits e in
    subst (λ (y : PushBody). Reads 17 bytes (y, x.1)) t.2 (t.3, (refl, (t.4, t.5)))

absent_takes : (bytes : List ℕ) (x : PushBody × List ℕ) → IsBytes bytes → absent_at bytes ≡ Ok x → Reads 18 bytes x
unfolding absent_at
absent_takes bytes x fits e =
    let t = two_take number_codec number_codec push.Absent bytes x fits e in
    subst (λ (y : PushBody). Reads 18 bytes (y, x.1)) t.2 (t.3, (refl, (t.4, t.5)))

answer_takes : (bytes : List ℕ) (x : PushBody × List ℕ) → IsBytes bytes → answer_at bytes ≡ Ok x → Reads 19 bytes x
unfolding answer_at
answer_takes bytes x fits e =
    let t = three_take number_codec outcome_codec holding_codec push.Answer bytes x fits e in
    subst (λ (y : PushBody). Reads 19 bytes (y, x.1)) t.3 (t.4, (refl, (t.5, t.7)))

-- the kind is what the test shows
at_kind : (k n : ℕ) (bytes : List ℕ) (x : PushBody × List ℕ) → k ≡ n → Reads n bytes x → Reads k bytes x
at_kind k n bytes x e t = subst (λ (i : ℕ). Reads i bytes x) (sym e) t

push_takes : (kind : ℕ) (bytes : List ℕ) (x : PushBody × List ℕ) → 17 ≤ kind → kind ≤ 19 → IsBytes bytes
    → push_body_at kind bytes ≡ Ok x → Reads kind bytes x
unfolding push_body_at
push_takes kind bytes x low high fits e =
    elim (chosen (eqb kind 17) (grant_at bytes) (cond (eqb kind 18) (absent_at bytes) (answer_at bytes)) (Ok x) e) [
      | inl p ↦ at_kind kind 17 bytes x (eqb-true _ _ p.0) (grant_takes bytes x fits p.1)
      | inr p ↦ elim (chosen (eqb kind 18) (absent_at bytes) (answer_at bytes) (Ok x) p.1) [
        | inl q ↦ at_kind kind 18 bytes x (eqb-true _ _ q.0) (absent_takes bytes x fits q.1)
        | inr q ↦ at_kind kind 19 bytes x (omega (arith, low, high, eqb-false kind 17 p.0, eqb-false kind 18 q.0))
            (answer_takes bytes x fits q.1)
      ]
    ]

push_again : (b : PushBody) (rest : List ℕ) → FitsPush b → push_body_at (push_kind b) (push_body b ++ rest) ≡ Ok
    (b, rest)
unfolding push_body_at grant_at absent_at answer_at
push_again (push.Grant req hs) rest fits = two_again number_codec holdings_codec push.Grant req hs rest fits.0 fits.1
push_again (push.Absent req point) rest fits = two_again number_codec number_codec push.Absent req point rest fits.0
    fits.1
push_again (push.Answer n o h) rest fits = three_again number_codec outcome_codec holding_codec push.Answer n o h
    rest fits.0 tt fits.1

push_codec : (kind : ℕ) → 17 ≤ kind → kind ≤ 19 → IsCodec push_body (push_body_at kind) (IsPush kind)
push_codec kind low high = record {
  takes = λ bytes x fits e. push_takes kind bytes x low high fits e;
  again = λ b rest fits. subst (λ (k : ℕ). push_body_at k (push_body b ++ rest) ≡ Ok (b, rest)) (sym fits.0)
      (push_again b rest fits.1);
}

push_low : (b : PushBody) → 17 ≤ push_kind b
push_low (push.Grant req hs) = omega arith
push_low (push.Absent req point) = omega arith
push_low (push.Answer n o h) = omega arith

push_high : (b : PushBody) → push_kind b ≤ 19
push_high (push.Grant req hs) = omega arith
push_high (push.Absent req point) = omega arith
push_high (push.Answer n o h) = omega arith

-- ---- bodies

abbrev IsBody : ℕ → ToClientBody → Type 0
IsBody kind b = (kind ≡ to_client_kind b) × FitsClientBody b

body_takes : (kind : ℕ) (bytes : List ℕ) (x : ToClientBody × List ℕ) → 16 ≤ kind → kind ≤ 20 → IsBytes bytes
    → to_client_body_at kind bytes ≡ Ok x → Takes bytes (to_client_body x.0) x.1 × IsBody kind x.0
unfolding to_client_body_at epoch_at push_at callback_at
body_takes kind bytes x low high fits e =
    elim (chosen (eqb kind 16) (epoch_at bytes) (cond (eqb kind 20) (callback_at bytes) (push_at kind bytes))
    (Ok x) e) [
      | inl p ↦
          let a = bind_ok (number_at w64 bytes) (λ n. Ok (client.Epoch n.0, n.1)) x p.1 in
          let t = number_codec.takes bytes a.0 fits a.1 in
          subst (λ (y : ToClientBody × List ℕ). Takes bytes (to_client_body y.0) y.1 × IsBody kind y.0)
          (ok_is (client.Epoch a.0.0, a.0.1) x a.2) (t.0, (eqb-true _ _ p.0, t.1))
      | inr p ↦ elim (chosen (eqb kind 20) (callback_at bytes) (push_at kind bytes) (Ok x) p.1) [
        | inl q ↦
            let t = three_take number_codec span_codec mode_codec client.Callback bytes x fits q.1 in
            subst (λ (y : ToClientBody). Takes bytes (to_client_body y) x.1 × IsBody kind y) t.3
            (t.4, (eqb-true _ _ q.0, (t.5, t.6)))
        | inr q ↦
            let least : 17 ≤ kind = omega (arith, low, eqb-false kind 16 p.0) in
            let most : kind ≤ 19 = omega (arith, high, eqb-false kind 20 q.0) in
            let t = three_take number_codec number_codec (push_codec kind least most) client.Push bytes x fits q.1 in
            subst (λ (y : ToClientBody). Takes bytes (to_client_body y) x.1 × IsBody kind y) t.3
            (t.4, (t.7.0, (t.5, t.6, t.7.1)))
      ]
    ]

-- a push is none of the other kinds
is_push : (b : PushBody) (bytes : List ℕ) → to_client_body_at (push_kind b) bytes ≡ push_at (push_kind b) bytes
unfolding to_client_body_at
is_push (push.Grant req hs) bytes = refl
is_push (push.Absent req point) bytes = refl
is_push (push.Answer n o h) bytes = refl

body_again : (b : ToClientBody) (rest : List ℕ) → FitsClientBody b
    → to_client_body_at (to_client_kind b) (to_client_body b ++ rest) ≡ Ok (b, rest)
unfolding to_client_body_at epoch_at push_at callback_at
body_again (client.Epoch n) rest fits = rw (number_codec.again n rest fits) refl
body_again (client.Push n m b) rest fits =
    is_push b (to_client_body (client.Push n m b) ++ rest)
    ∙ three_again number_codec number_codec (push_codec (push_kind b) (push_low b) (push_high b)) client.Push n m b
    rest fits.0 fits.1 (refl, fits.2)
body_again (client.Callback n s m) rest fits = three_again number_codec span_codec mode_codec client.Callback n s m
    rest fits.0 fits.1 tt

kind_low : (b : ToClientBody) → 16 ≤ to_client_kind b
kind_low (client.Epoch n) = omega arith
kind_low (client.Push n m b) = omega (arith, push_low b)
kind_low (client.Callback n s m) = omega arith

kind_high : (b : ToClientBody) → to_client_kind b ≤ 20
kind_high (client.Epoch n) = omega arith
kind_high (client.Push n m b) = omega (arith, push_high b)
kind_high (client.Callback n s m) = omega arith

-- ---- whole messages

abbrev message_of : ℕ → ℕ → ToClientBody → ToClient
message_of c i b = record { client = c; incarnation = i; body = b }

client_takes : (bytes : List ℕ) (m : ToClient) → IsBytes bytes → to_client_of bytes ≡ Ok m
    → FitsToClient m × (bytes ≡ to_client m)
unfolding to_client_of
client_takes bytes m fits e =
    let t = whole_takes 16 20 to_client_body_at to_client_kind to_client_body FitsClientBody message_of body_takes
    bytes m fits e in
    subst (λ (y : ToClient). FitsToClient y × (bytes ≡ to_client y)) t.3 ((t.4, t.5, t.6), t.7)

pub client_again : (m : ToClient) → FitsToClient m → to_client_of (to_client m) ≡ Ok m
unfolding to_client_of
client_again m fits =
    whole_again 16 20 to_client_body_at to_client_kind to_client_body FitsClientBody message_of m.client
    m.incarnation m.body (kind_low m.body) (kind_high m.body) fits.0 fits.1 (body_again m.body [] fits.2)

pub client_found : (bytes : List ℕ) (r : Result ToClient ReadError) → IsBytes bytes
    → GivesIfRoom r (to_client_of bytes) → IfOk r (λ m. FitsToClient m × (bytes ≡ to_client m))
client_found bytes (Ok m) fits given = client_takes bytes m fits given
client_found bytes (Err e) fits given = tt
