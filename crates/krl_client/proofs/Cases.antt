-- What a client does with each message, by what its tests show.
use Rattle.std.proofs.Common.{◌≡◌, ◌≢◌, ℕ, suc, ◌<◌, ◌≤◌, true, false, ◌&&◌, List, [], ◌∷◌, ◌++◌, refl, sym, ap, ◌∙◌, subst, nat_eq, nat_le, eq-eqb, lt-ltb, le-ltb, leb-true, eqb-true}
use Rattle.std.proofs.lemmas.Bool.{and_parts, ne_eqb}
use Rattle.krl_modes.specs.declared.point.TheConstants.{END}
use Rattle.krl_modes.specs.declared.mode.Mode.{Mode}
use Rattle.krl_modes.specs.Spans.{Bounds}
use Rattle.krl_messages.specs.declared.outcome.Outcome.{Outcome}
use Rattle.krl_messages.specs.declared.pieces.Pieces.{Pieces}
use Rattle.krl_messages.specs.declared.to_server.ToServer.{ToServer}
use Rattle.krl_messages.specs.declared.to_client.ToClient.{ToClient}
use Rattle.krl_messages.specs.declared.to_client.ToClientBody.TheVariants as told
use Rattle.krl_messages.specs.declared.to_client.PushBody.{PushBody}
use Rattle.krl_cache.specs.Laws.{IsBelief}
use Rattle.krl_cache.proofs.Described.{beliefs_are_described}
use Rattle.krl_client.specs.Clients.{Client, LastWrite, Unwritten, Outstanding, Judged, is_writing_in, meets_pin, has_joined, outstanding}
use Rattle.krl_client.specs.Messages.{ClientCase, Ignores, AcksAgain, Adopts, Accepts, Lowers, client_case_of, client_case_of_body, after, sends, fits, judged_as, says_ack}
use Rattle.krl_client.specs.Ticks.{says_hello, lock_again, write_again}
use Rattle.krl_client.specs.FieldSteps.{judged_where, Follows, IsTick, IsOpening}

-- Follows, if no pieces are given: some describe the belief

pub ignores : (k : Client) (x : ClientCase) (list : List ToServer) → IsBelief k.belief → x ≡ Ignores → list ≡ [] → Follows k x k list
ignores k x list i e l = let some = beliefs_are_described k.belief i in rw (e, l) (record { client = refl; pieces = some.0; described = some.1; says = refl })

pub acks_again : (k : Client) (list : List ToServer) → IsBelief k.belief → ((ps : Pieces) → list ≡ sends ps k AcksAgain) → Follows k AcksAgain k list
acks_again k list i l = let some = beliefs_are_described k.belief i in record { client = refl; pieces = some.0; described = some.1; says = l some.0 }

pub accepts : (k : Client) (what : PushBody) (next : Client) (list : List ToServer) → IsBelief k.belief → next ≡ after k (Accepts what) → ((ps : Pieces) → list ≡ sends ps k (Accepts what)) → Follows k (Accepts what) next list
accepts k what next list i e l = let some = beliefs_are_described k.belief i in record { client = e; pieces = some.0; described = some.1; says = l some.0 }

pub lowers : (k : Client) (s : Bounds) (keep : Mode) (next : Client) (list : List ToServer) → IsBelief k.belief → next ≡ after k (Lowers s keep) → ((ps : Pieces) → list ≡ sends ps k (Lowers s keep)) → Follows k (Lowers s keep) next list
lowers k s keep next list i e l = let some = beliefs_are_described k.belief i in record { client = e; pieces = some.0; described = some.1; says = l some.0 }

pub same_case : (k : Client) (x y : ClientCase) (next : Client) (list : List ToServer) → y ≡ x → Follows k x next list → Follows k y next list
same_case k x y next list e f = subst (λ (z : ClientCase). Follows k z next list) (sym e) f

-- Cases

pub epoch_known : (k : Client) (epoch : ℕ) → epoch ≤ k.epoch → client_case_of_body k (told.Epoch epoch) ≡ Ignores
epoch_known k epoch h = rw (le-ltb k.epoch epoch h)

pub epoch_later : (k : Client) (epoch : ℕ) → k.epoch < epoch → client_case_of_body k (told.Epoch epoch) ≡ Adopts epoch
epoch_later k epoch h = rw (lt-ltb k.epoch epoch h)

pub push_elsewhere : (k : Client) (epoch number : ℕ) (what : PushBody) → epoch ≢ k.epoch → client_case_of_body k (told.Push epoch number what) ≡ Ignores
push_elsewhere k epoch number what ne = rw (ne_eqb epoch k.epoch ne)

pub push_unfit : (k : Client) (epoch number : ℕ) (what : PushBody) → epoch ≡ k.epoch → fits what ≡ false → client_case_of_body k (told.Push epoch number what) ≡ Ignores
push_unfit k epoch number what e f = rw (eq-eqb epoch k.epoch e, f)

pub push_next : (k : Client) (epoch number : ℕ) (what : PushBody) → epoch ≡ k.epoch → fits what ≡ true → (nat_eq number (suc k.seen) && nat_le number END) ≡ true → client_case_of_body k (told.Push epoch number what) ≡ Accepts what
push_next k epoch number what e f n = rw (eq-eqb epoch k.epoch e, f, n)

pub push_again : (k : Client) (epoch number : ℕ) (what : PushBody) → epoch ≡ k.epoch → fits what ≡ true → (nat_eq number (suc k.seen) && nat_le number END) ≡ false → number ≡ k.seen → client_case_of_body k (told.Push epoch number what) ≡ AcksAgain
push_again k epoch number what e f n s = rw (eq-eqb epoch k.epoch e, f, n, eq-eqb number k.seen s)

pub push_other : (k : Client) (epoch number : ℕ) (what : PushBody) → epoch ≡ k.epoch → fits what ≡ true → (nat_eq number (suc k.seen) && nat_le number END) ≡ false → number ≢ k.seen → client_case_of_body k (told.Push epoch number what) ≡ Ignores
push_other k epoch number what e f n s = rw (eq-eqb epoch k.epoch e, f, n, ne_eqb number k.seen s)

pub next_fits : (number seen : ℕ) → (nat_eq number (suc seen) && nat_le number END) ≡ true → suc seen ≤ END
next_fits number seen h =
    let parts = and_parts (nat_eq number (suc seen)) (nat_le number END) h in
    let e = eqb-true number (suc seen) parts.0 in
    let l = leb-true number END parts.1 in subst (λ (n : ℕ). n ≤ END) e l

pub callback_elsewhere : (k : Client) (epoch : ℕ) (s : Bounds) (keep : Mode) → epoch ≢ k.epoch → client_case_of_body k (told.Callback epoch s keep) ≡ Ignores
callback_elsewhere k epoch s keep ne = rw (ne_eqb epoch k.epoch ne)

pub callback_written : (k : Client) (epoch : ℕ) (s : Bounds) (keep : Mode) → epoch ≡ k.epoch → is_writing_in k s ≡ true → client_case_of_body k (told.Callback epoch s keep) ≡ Ignores
callback_written k epoch s keep e w = rw (eq-eqb epoch k.epoch e, w)

pub callback_pinned : (k : Client) (epoch : ℕ) (s : Bounds) (keep : Mode) → epoch ≡ k.epoch → is_writing_in k s ≡ false → meets_pin k s ≡ true → client_case_of_body k (told.Callback epoch s keep) ≡ Ignores
callback_pinned k epoch s keep e w p = rw (eq-eqb epoch k.epoch e, w, p)

pub callback_lowers : (k : Client) (epoch : ℕ) (s : Bounds) (keep : Mode) → epoch ≡ k.epoch → is_writing_in k s ≡ false → meets_pin k s ≡ false → client_case_of_body k (told.Callback epoch s keep) ≡ Lowers s keep
callback_lowers k epoch s keep e w p = rw (eq-eqb epoch k.epoch e, w, p)

pub other_client : (k : Client) (m : ToClient) → m.client ≢ k.number → client_case_of k m ≡ Ignores
other_client k m ne = rw (ne_eqb m.client k.number ne)

pub other_incarnation : (k : Client) (m : ToClient) → m.client ≡ k.number → m.incarnation ≢ k.incarnation → client_case_of k m ≡ Ignores
other_incarnation k m e ne = rw (eq-eqb m.client k.number e, ne_eqb m.incarnation k.incarnation ne)

pub own : (k : Client) (m : ToClient) → m.client ≡ k.number → m.incarnation ≡ k.incarnation → client_case_of k m ≡ client_case_of_body k m.body
own k m e f = rw (eq-eqb m.client k.number e, eq-eqb m.incarnation k.incarnation f)

-- Ticks

pub ticks_hello : (k : Client) (list : List ToServer) → IsBelief k.belief → has_joined k ≡ false → list ≡ says_hello k ∷ [] → IsTick k list
ticks_hello k list i h l = let some = beliefs_are_described k.belief i in record { pieces = some.0; described = some.1; says = rw h l }

pub ticks_joined : (k : Client) (m : ToServer) (list : List ToServer) → has_joined k ≡ true → IsOpening k m → list ≡ m ∷ (lock_again k k.asked ++ write_again k (outstanding k.written)) → IsTick k list
ticks_joined k m list h o l = record {
  pieces = o.pieces;
  described = o.described;
  says = rw h (l ∙ ap (λ (x : ToServer). x ∷ (lock_again k k.asked ++ write_again k (outstanding k.written))) o.message);
}

pub opens_with_ack : (k : Client) (m : ToServer) → IsBelief k.belief → nat_eq k.seen 0 ≡ false → m ≡ says_ack k → IsOpening k m
opens_with_ack k m i h l = let some = beliefs_are_described k.belief i in record { pieces = some.0; described = some.1; message = rw h l }

-- A key in a span

-- An answer

pub judged_is : (k : Client) (number : ℕ) (outcome : Outcome) (w : LastWrite) → judged_where (nat_eq number k.writes) outcome w ≡ judged_as k number outcome w
judged_is k number outcome Unwritten = refl
judged_is k number outcome (Outstanding change) = refl
judged_is k number outcome (Judged old) = refl
