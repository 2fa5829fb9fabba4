-- Messages to the server, as they are spelled.
use Rattle.std.proofs.Common.{◌≡◌, ℕ, ◌≤◌, Bool, true, false, cond, eqb, List, [], ◌++◌, Result, Ok, Err, refl, sym, subst, ◌∙◌, arith, inl, inr}
use Rattle.std.specs.Prelude.{IfOk}
use Rattle.std.proofs.lemmas.Bool.{eqb-true, eqb-false}
use Rattle.krl_messages.specs.Values.{Value}
use Rattle.krl_messages.specs.declared.write_op.WriteOp.TheVariants as write
use Rattle.krl_messages.specs.declared.to_server.ToServer.{ToServer}
use Rattle.krl_messages.specs.declared.to_server.ToServerBody.{ToServerBody}
use Rattle.krl_messages.specs.declared.to_server.ToServerBody.TheVariants as server
use Rattle.krl_messages.specs.declared.to_server.RequestBody.{RequestBody}
use Rattle.krl_messages.specs.declared.to_server.RequestBody.TheVariants as request
use Rattle.krl_wire.specs.declared.fault.Fault.{Fault}
use Rattle.krl_wire.specs.declared.fault.ReadError.{ReadError}
use Rattle.krl_wire.specs.Spelling.{write_kind, request_kind, request_body, to_server_kind, to_server_body, to_server}
use Rattle.krl_wire.specs.Fitting.{FitsRequest, FitsServerBody, FitsToServer}
use Rattle.krl_wire.specs.Reading.{GivesIfRoom, lock_at, insert_at, put_at, delete_at, release_at, request_body_at, request_at, report_at, to_server_body_at, to_server_of}
use Rattle.krl_wire.proofs.Fields.{IsBytes, chosen, ok_is, Takes, IsCodec, number_codec, span_codec, value_codec}
use Rattle.krl_wire.proofs.Rows.{two_take, two_again, three_take, three_again, four_take, four_again}
use Rattle.krl_wire.proofs.Tables.{mode_codec}
use Rattle.krl_wire.proofs.Lists.{pieces_codec}
use Rattle.krl_wire.proofs.Heads.{whole_takes, whole_again}

-- ---- requests

abbrev insert_of : Bool → ℕ → ℕ → Value → RequestBody
insert_of seizes n k v = request.Write n (write.Insert k v) seizes

abbrev put_of : Bool → ℕ → ℕ → Value → RequestBody
put_of seizes n k v = request.Write n (write.Put k v) seizes

abbrev delete_of : Bool → ℕ → ℕ → RequestBody
delete_of seizes n k = request.Write n (write.Delete k) seizes

abbrev IsRequest : ℕ → RequestBody → Type 0
IsRequest kind b = (kind ≡ request_kind b) × FitsRequest b

-- what a request of the kind is, read from these bytes
abbrev Reads : ℕ → List ℕ → RequestBody × List ℕ → Type 0
Reads kind bytes x = Takes bytes (request_body x.0) x.1 × IsRequest kind x.0

lock_takes : (bytes : List ℕ) (x : RequestBody × List ℕ) → IsBytes bytes → lock_at bytes ≡ Ok x → Reads 3 bytes x
unfolding lock_at
lock_takes bytes x fits e =
    let t = four_take number_codec number_codec number_codec mode_codec request.Lock bytes x fits e in
    subst (λ (y : RequestBody). Reads 3 bytes (y, x.1)) t.4 (t.5, (refl, (t.6, t.7, t.8)))

insert_takes : (kind : ℕ) (seizes : Bool) (bytes : List ℕ) (x : RequestBody × List ℕ)
    → ((k : ℕ) (v : Value) → kind ≡ write_kind (write.Insert k v) seizes) → IsBytes bytes
    → insert_at seizes bytes ≡ Ok x → Reads kind bytes x
unfolding insert_at
insert_takes kind seizes bytes x is fits e =
    let t = three_take number_codec number_codec value_codec (insert_of seizes) bytes x fits e in
    subst (λ (y : RequestBody). Reads kind bytes (y, x.1)) t.3 (t.4, (is t.1 t.2, (t.5, t.6, t.7)))

put_takes : (kind : ℕ) (seizes : Bool) (bytes : List ℕ) (x : RequestBody × List ℕ)
    → ((k : ℕ) (v : Value) → kind ≡ write_kind (write.Put k v) seizes) → IsBytes bytes
    → put_at seizes bytes ≡ Ok x → Reads kind bytes x
unfolding put_at
put_takes kind seizes bytes x is fits e =
    let t = three_take number_codec number_codec value_codec (put_of seizes) bytes x fits e in
    subst (λ (y : RequestBody). Reads kind bytes (y, x.1)) t.3 (t.4, (is t.1 t.2, (t.5, t.6, t.7)))

delete_takes : (kind : ℕ) (seizes : Bool) (bytes : List ℕ) (x : RequestBody × List ℕ)
    → ((k : ℕ) → kind ≡ write_kind (write.Delete k) seizes) → IsBytes bytes
    → delete_at seizes bytes ≡ Ok x → Reads kind bytes x
unfolding delete_at
delete_takes kind seizes bytes x is fits e =
    let t = two_take number_codec number_codec (delete_of seizes) bytes x fits e in
    subst (λ (y : RequestBody). Reads kind bytes (y, x.1)) t.2 (t.3, (is t.1, (t.4, t.5)))

release_takes : (bytes : List ℕ) (x : RequestBody × List ℕ) → IsBytes bytes → release_at bytes ≡ Ok x
    → Reads 7 bytes x
unfolding release_at
release_takes bytes x fits e =
    let t = two_take span_codec mode_codec request.Release bytes x fits e in
    subst (λ (y : RequestBody). Reads 7 bytes (y, x.1)) t.2 (t.3, (refl, t.4))

-- the kind is what the test shows
at_kind : (k n : ℕ) (bytes : List ℕ) (x : RequestBody × List ℕ) → k ≡ n → Reads n bytes x → Reads k bytes x
at_kind k n bytes x e t = subst (λ (i : ℕ). Reads i bytes x) (sym e) t

-- a write that takes the lock that it needs
abbrev take_at : ℕ → List ℕ → Result (RequestBody × List ℕ) Fault
take_at kind bytes =
    cond (eqb kind 9) (insert_at true bytes) (cond (eqb kind 10) (put_at true bytes) (delete_at true bytes))

take_takes : (kind : ℕ) (bytes : List ℕ) (x : RequestBody × List ℕ) → 9 ≤ kind → kind ≤ 11 → IsBytes bytes
    → take_at kind bytes ≡ Ok x → Reads kind bytes x
take_takes kind bytes x low high fits e =
    let e10 : Result (RequestBody × List ℕ) Fault = cond (eqb kind 10) (put_at true bytes) (delete_at true bytes) in
    elim (chosen (eqb kind 9) (insert_at true bytes) e10 (Ok x) e) [
      | inl p ↦ insert_takes kind true bytes x (λ k v. eqb-true _ _ p.0) fits p.1
      | inr p ↦ elim (chosen (eqb kind 10) (put_at true bytes) (delete_at true bytes) (Ok x) p.1) [
        | inl q ↦ put_takes kind true bytes x (λ k v. eqb-true _ _ q.0) fits q.1
        | inr q ↦
            let is : kind ≡ 11 = omega (arith, low, high, eqb-false kind 9 p.0, eqb-false kind 10 q.0) in
            delete_takes kind true bytes x (λ k. is) fits q.1
      ]
    ]

request_takes : (kind : ℕ) (bytes : List ℕ) (x : RequestBody × List ℕ) → 3 ≤ kind → kind ≤ 11 → IsBytes bytes
    → request_body_at kind bytes ≡ Ok x → Reads kind bytes x
unfolding request_body_at
request_takes kind bytes x low high fits e =
    let ack : Result (RequestBody × List ℕ) Fault = Ok (request.Ack, bytes) in
    let e8 : Result (RequestBody × List ℕ) Fault = cond (eqb kind 8) ack (take_at kind bytes) in
    let e7 : Result (RequestBody × List ℕ) Fault = cond (eqb kind 7) (release_at bytes) e8 in
    let e6 : Result (RequestBody × List ℕ) Fault = cond (eqb kind 6) (delete_at false bytes) e7 in
    let e5 : Result (RequestBody × List ℕ) Fault = cond (eqb kind 5) (put_at false bytes) e6 in
    let e4 : Result (RequestBody × List ℕ) Fault = cond (eqb kind 4) (insert_at false bytes) e5 in
    elim (chosen (eqb kind 3) (lock_at bytes) e4 (Ok x) e) [
      | inl p ↦ at_kind kind 3 bytes x (eqb-true _ _ p.0) (lock_takes bytes x fits p.1)
      | inr p ↦ elim (chosen (eqb kind 4) (insert_at false bytes) e5 (Ok x) p.1) [
        | inl q ↦ insert_takes kind false bytes x (λ k v. eqb-true _ _ q.0) fits q.1
        | inr q ↦ elim (chosen (eqb kind 5) (put_at false bytes) e6 (Ok x) q.1) [
          | inl r ↦ put_takes kind false bytes x (λ k v. eqb-true _ _ r.0) fits r.1
          | inr r ↦ elim (chosen (eqb kind 6) (delete_at false bytes) e7 (Ok x) r.1) [
            | inl s ↦ delete_takes kind false bytes x (λ k. eqb-true _ _ s.0) fits s.1
            | inr s ↦ elim (chosen (eqb kind 7) (release_at bytes) e8 (Ok x) s.1) [
              | inl u ↦ at_kind kind 7 bytes x (eqb-true _ _ u.0) (release_takes bytes x fits u.1)
              | inr u ↦ elim (chosen (eqb kind 8) ack (take_at kind bytes) (Ok x) u.1) [
                | inl w ↦ subst (λ (y : RequestBody × List ℕ). Reads kind bytes y) (ok_is (request.Ack, bytes) x w.1)
                    (record { parts = refl; rest_fits = fits }, (eqb-true _ _ w.0, tt))
                | inr w ↦
                    let least : 9 ≤ kind = omega (
                      arith,
                      low,
                      eqb-false kind 3 p.0,
                      eqb-false kind 4 q.0,
                      eqb-false kind 5 r.0,
                      eqb-false kind 6 s.0,
                      eqb-false kind 7 u.0,
                      eqb-false kind 8 w.0,
                    ) in
                    take_takes kind bytes x least high fits w.1
              ]
            ]
          ]
        ]
      ]
    ]

request_again : (b : RequestBody) (rest : List ℕ) → FitsRequest b
    → request_body_at (request_kind b) (request_body b ++ rest) ≡ Ok (b, rest)
unfolding request_body_at lock_at insert_at put_at delete_at release_at
request_again (request.Lock req point hi m) rest fits = four_again number_codec number_codec number_codec mode_codec
    request.Lock req point hi m rest fits.0 fits.1 fits.2 tt
request_again (request.Write n (write.Insert k v) false) rest fits = three_again number_codec number_codec value_codec
    (insert_of false) n k v rest fits.0 fits.1 fits.2
request_again (request.Write n (write.Insert k v) true) rest fits = three_again number_codec number_codec value_codec
    (insert_of true) n k v rest fits.0 fits.1 fits.2
request_again (request.Write n (write.Put k v) false) rest fits = three_again number_codec number_codec value_codec
    (put_of false) n k v rest fits.0 fits.1 fits.2
request_again (request.Write n (write.Put k v) true) rest fits = three_again number_codec number_codec value_codec
    (put_of true) n k v rest fits.0 fits.1 fits.2
request_again (request.Write n (write.Delete k) false) rest fits = two_again number_codec number_codec
    (delete_of false) n k rest fits.0 fits.1
request_again (request.Write n (write.Delete k) true) rest fits = two_again number_codec number_codec
    (delete_of true) n k rest fits.0 fits.1
request_again (request.Release s m) rest fits = two_again span_codec mode_codec request.Release s m rest fits tt
request_again request.Ack rest fits = refl

request_codec : (kind : ℕ) → 3 ≤ kind → kind ≤ 11 → IsCodec request_body (request_body_at kind) (IsRequest kind)
request_codec kind low high = record {
  takes = λ bytes x fits e. request_takes kind bytes x low high fits e;
  again = λ b rest fits. subst (λ (k : ℕ). request_body_at k (request_body b ++ rest) ≡ Ok (b, rest)) (sym fits.0)
      (request_again b rest fits.1);
}

request_low : (b : RequestBody) → 3 ≤ request_kind b
request_low (request.Lock req point hi m) = omega arith
request_low (request.Write n (write.Insert k v) false) = omega arith
request_low (request.Write n (write.Insert k v) true) = omega arith
request_low (request.Write n (write.Put k v) false) = omega arith
request_low (request.Write n (write.Put k v) true) = omega arith
request_low (request.Write n (write.Delete k) false) = omega arith
request_low (request.Write n (write.Delete k) true) = omega arith
request_low (request.Release s m) = omega arith
request_low request.Ack = omega arith

request_high : (b : RequestBody) → request_kind b ≤ 11
request_high (request.Lock req point hi m) = omega arith
request_high (request.Write n (write.Insert k v) false) = omega arith
request_high (request.Write n (write.Insert k v) true) = omega arith
request_high (request.Write n (write.Put k v) false) = omega arith
request_high (request.Write n (write.Put k v) true) = omega arith
request_high (request.Write n (write.Delete k) false) = omega arith
request_high (request.Write n (write.Delete k) true) = omega arith
request_high (request.Release s m) = omega arith
request_high request.Ack = omega arith

-- ---- bodies

abbrev request_of : ℕ → ℕ → RequestBody → ToServerBody
request_of e s b = server.Request (record { epoch = e; seen = s; body = b })

abbrev IsBody : ℕ → ToServerBody → Type 0
IsBody kind b = (kind ≡ to_server_kind b) × FitsServerBody b

body_takes : (kind : ℕ) (bytes : List ℕ) (x : ToServerBody × List ℕ) → 0 ≤ kind → kind ≤ 11 → IsBytes bytes
    → to_server_body_at kind bytes ≡ Ok x → Takes bytes (to_server_body x.0) x.1 × IsBody kind x.0
unfolding to_server_body_at report_at request_at
body_takes kind bytes x low high fits e =
    let e2 : Result (ToServerBody × List ℕ) Fault = cond (eqb kind 2) (report_at bytes) (request_at kind bytes) in
    let e1 : Result (ToServerBody × List ℕ) Fault = cond (eqb kind 1) (Ok (server.Bye, bytes)) e2 in
    elim (chosen (eqb kind 0) (Ok (server.Hello, bytes)) e1 (Ok x) e) [
      | inl p ↦ subst (λ (y : ToServerBody × List ℕ). Takes bytes (to_server_body y.0) y.1 × IsBody kind y.0)
          (ok_is (server.Hello, bytes) x p.1) (record { parts = refl; rest_fits = fits }, (eqb-true _ _ p.0, tt))
      | inr p ↦ elim (chosen (eqb kind 1) (Ok (server.Bye, bytes)) e2 (Ok x) p.1) [
        | inl q ↦ subst (λ (y : ToServerBody × List ℕ). Takes bytes (to_server_body y.0) y.1 × IsBody kind y.0)
            (ok_is (server.Bye, bytes) x q.1) (record { parts = refl; rest_fits = fits }, (eqb-true _ _ q.0, tt))
        | inr q ↦ elim (chosen (eqb kind 2) (report_at bytes) (request_at kind bytes) (Ok x) q.1) [
          | inl r ↦
              let t = two_take number_codec pieces_codec server.Report bytes x fits r.1 in
              subst (λ (y : ToServerBody). Takes bytes (to_server_body y) x.1 × IsBody kind y) t.2
              (t.3, (eqb-true _ _ r.0, (t.4, t.5)))
          | inr r ↦
              let least : 3 ≤ kind = omega (arith, eqb-false kind 0 p.0, eqb-false kind 1 q.0, eqb-false kind 2 r.0)
              in
              let t = three_take number_codec number_codec (request_codec kind least high) request_of bytes x fits
              r.1 in
              subst (λ (y : ToServerBody). Takes bytes (to_server_body y) x.1 × IsBody kind y) t.3
              (t.4, (t.7.0, (t.5, t.6, t.7.1)))
        ]
      ]
    ]

-- a request is none of the other kinds
is_request : (b : RequestBody) (bytes : List ℕ) → to_server_body_at (request_kind b) bytes ≡ request_at
    (request_kind b) bytes
unfolding to_server_body_at
is_request (request.Lock req point hi m) bytes = refl
is_request (request.Write n (write.Insert k v) false) bytes = refl
is_request (request.Write n (write.Insert k v) true) bytes = refl
is_request (request.Write n (write.Put k v) false) bytes = refl
is_request (request.Write n (write.Put k v) true) bytes = refl
is_request (request.Write n (write.Delete k) false) bytes = refl
is_request (request.Write n (write.Delete k) true) bytes = refl
is_request (request.Release s m) bytes = refl
is_request request.Ack bytes = refl

body_again : (b : ToServerBody) (rest : List ℕ) → FitsServerBody b
    → to_server_body_at (to_server_kind b) (to_server_body b ++ rest) ≡ Ok (b, rest)
unfolding to_server_body_at report_at request_at
body_again server.Hello rest fits = refl
body_again server.Bye rest fits = refl
body_again (server.Report n p) rest fits = two_again number_codec pieces_codec server.Report n p rest fits.0 fits.1
body_again (server.Request r) rest fits =
    is_request r.body (to_server_body (server.Request r) ++ rest)
    ∙ three_again number_codec number_codec
    (request_codec (request_kind r.body) (request_low r.body) (request_high r.body)) request_of r.epoch r.seen
    r.body rest fits.0 fits.1 (refl, fits.2)

kind_high : (b : ToServerBody) → to_server_kind b ≤ 11
kind_high server.Hello = omega arith
kind_high server.Bye = omega arith
kind_high (server.Report n p) = omega arith
kind_high (server.Request r) = request_high r.body

-- ---- whole messages

abbrev message_of : ℕ → ℕ → ToServerBody → ToServer
message_of c i b = record { client = c; incarnation = i; body = b }

server_takes : (bytes : List ℕ) (m : ToServer) → IsBytes bytes → to_server_of bytes ≡ Ok m
    → FitsToServer m × (bytes ≡ to_server m)
unfolding to_server_of
server_takes bytes m fits e =
    let t = whole_takes 0 11 to_server_body_at to_server_kind to_server_body FitsServerBody message_of body_takes
    bytes m fits e in
    subst (λ (y : ToServer). FitsToServer y × (bytes ≡ to_server y)) t.3 ((t.4, t.5, t.6), t.7)

pub server_again : (m : ToServer) → FitsToServer m → to_server_of (to_server m) ≡ Ok m
unfolding to_server_of
server_again m fits =
    whole_again 0 11 to_server_body_at to_server_kind to_server_body FitsServerBody message_of m.client m.incarnation
    m.body (omega arith) (kind_high m.body) fits.0 fits.1 (body_again m.body [] fits.2)

pub server_found : (bytes : List ℕ) (r : Result ToServer ReadError) → IsBytes bytes
    → GivesIfRoom r (to_server_of bytes) → IfOk r (λ m. FitsToServer m × (bytes ≡ to_server m))
server_found bytes (Ok m) fits given = server_takes bytes m fits given
server_found bytes (Err e) fits given = tt
