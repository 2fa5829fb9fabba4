-- A node reads the letter that is picked, or it is lost.
use Rattle.krl_nodes.proofs.Names.{◌≡◌, ℕ, zero, suc, ◌+◌, ◌<◌, List, [], ◌∷◌, ◌++◌, length, inr, refl, sym, ap, subst, ◌∙◌, arith, set, append-nil, length-append, Result, Ok, Err, slice_index_or}
use Rattle.krl_nodes.proofs.Names.{Value, ToServer, ToClient, Message, Refused, ServerPlace, ClientPlace, letters_to, left_by, from_client, by_server, only_to, sorted, mail_of, IsPicked, IsReader}
use Rattle.krl_nodes.proofs.Names.{waiting_for, with_said, with_sent, with_to_server, with_to_client, HasHeard, HasRead, HasTaken, HasOne, HasNone, ServerActs, ClientActs, Pick, Chair}
use Rattle.krl_nodes.specs.declared.post.Reader.{Reader}
use Rattle.krl_nodes.specs.declared.post.Reader.TheVariants as reader
use Rattle.krl_nodes.specs.declared.orders.ServerOrder.TheVariants as server_order
use Rattle.krl_nodes.specs.declared.orders.ClientOrder.TheVariants as client_order
use Rattle.krl_nodes.specs.declared.orders.Turn.{Turn}
use Rattle.krl_nodes.specs.declared.orders.Turn.TheVariants.{Did, Idle, Lost}
use Rattle.krl_nodes.proofs.Piles.{said, sent, box_at, set_box, one_said, one_to, none_said, none_to}

-- a list is the one at its place, whatever stands for none
pub index_is : (b : List (List ToClient)) (c : ℕ) (l : List ToClient) → c < length b → l ≡ slice_index_or b c l → slice_index_or b c [] ≡ l
index_is [] c l lt e = absurd (omega (arith, lt))
index_is (x ∷ b) zero l lt e = sym e
index_is (x ∷ b) (suc c) l lt e = index_is b c l (omega (arith, lt)) e

-- nothing after the letters
bare : {A : Type 0} (xs ys : List A) → ys ≡ [] → xs ++ ys ≡ xs
bare xs ys e = ap (λ l. xs ++ l) e ∙ append-nil xs

pub some_of : {A : Type 0} (xs ys : List A) → 0 < length ys → 0 < length (xs ++ ys)
some_of xs ys lt = rw (length-append xs ys) (omega (arith, lt))

module _ (o : List (ℕ × Value)) (q : List ToServer) (b : List (List ToClient)) (pile : List Message) (chairs : List Chair) where
  -- a letter to a client is among those that were sent last
  pub some_to : (c : ℕ) → c < length b → HasOne (reader.Client c) pile → 0 < length (letters_to c (mail_of o q b pile chairs))
  some_to c small one =
      let e : 0 + c ≡ c = omega arith in
      subst (λ xs. 0 < length xs) (sym (box_at 0 c b (by_server pile) small)) (some_of (slice_index_or b c []) (only_to (0 + c) (by_server pile)) (subst (λ k. 0 < length (only_to k (by_server pile))) (sym e) (one_to c pile one)))

  pub some_for : length b ≡ 64 → (r : Reader) → IsReader r → HasOne r pile → 0 < waiting_for r (mail_of o q b pile chairs)
  some_for all reader.Server ok one = some_of q (from_client pile) (one_said pile one)
  some_for all (reader.Client c) ok one = some_to c (omega (arith, all, ok)) one

  pub all_server : HasNone reader.Server pile → length (q ++ from_client pile) ≡ length q
  all_server none = ap length (bare q (from_client pile) (none_said pile none))

  pub all_client : (c : ℕ) → c < length b → HasNone (reader.Client c) pile → (l : List ToClient) → l ≡ slice_index_or b c [] → length (letters_to c (mail_of o q b pile chairs)) ≡ length l
  all_client c small none l is =
      let e : 0 + c ≡ c = omega arith in
      ap length (box_at 0 c b (by_server pile) small ∙ bare (slice_index_or b c []) (only_to (0 + c) (by_server pile)) (ap (λ k. only_to k (by_server pile)) e ∙ none_to c pile none) ∙ sym is)

module _ (p : Pick) (o : List (ℕ × Value)) (b : List (List ToClient)) (pile pile' : List Message) (chairs : List Chair) where
  module _ (q q' : List ToServer) (d d' : ServerPlace) (none : HasNone reader.Server pile) where
    all_q : q ++ from_client pile ≡ q
    all_q = bare q (from_client pile) (none_said pile none)

    -- the letters that are left
    left_q : mail_of o (left_by p q) b pile chairs ≡ with_to_server (mail_of o q b pile chairs) (left_by p (q ++ from_client pile))
    left_q = λ i. record {
      opening = o;
      to_server = (bare (left_by p q) (from_client pile) (none_said pile none) ∙ sym (ap (left_by p) all_q)) i;
      to_clients = sorted 0 b (by_server pile);
      chairs = chairs;
    }

    pub served_by : (r : Result Turn Refused) → HasTaken HasHeard p q d pile q' d' pile' r → ServerActs p server_order.Letter (mail_of o q b pile chairs) d (mail_of o q' b pile' chairs) d' r
    served_by (Ok (Did a)) h = (
      h.0,
      refl,
      record {
        delivers = h.1;
        letter = h.3.0;
        outs = h.3.2.outs;
        picked = subst (λ xs. IsPicked p xs h.3.0) (sym all_q) h.3.1;
        reads = h.3.2.reads;
        post = (λ i. mail_of o (h.2 i) b (h.3.2.sent i) chairs) ∙ sent o (left_by p q) b pile chairs h.3.2.outs ∙ ap (λ m. with_sent m h.3.2.outs) left_q;
      },
    )
    served_by (Ok Idle) h = (all_q ∙ h.0, record { post = λ i. mail_of o (h.1 i) b (h.3 i) chairs; node = h.2 })
    served_by (Ok Lost) h = record {
      loses = h.0;
      some = subst (λ xs. 0 < length xs) (sym all_q) h.1;
      node = h.3;
      post = (λ i. mail_of o (h.2 i) b (h.4 i) chairs) ∙ left_q;
    }
    served_by (Err e) h = (inr (refl, h.0, subst (λ xs. 0 < length xs) (sym all_q) h.1), record { post = λ i. mail_of o (h.2 i) b (h.4 i) chairs; node = h.3 })

  module _ (q : List ToServer) (c : ℕ) (l l' : List ToClient) (x x' : ClientPlace) (none : HasNone (reader.Client c) pile) (small : c < length b) (is : slice_index_or b c [] ≡ l) where
    only_none : only_to (0 + c) (by_server pile) ≡ []
    only_none = let e : 0 + c ≡ c = omega arith in ap (λ k. only_to k (by_server pile)) e ∙ none_to c pile none

    all_l : letters_to c (mail_of o q b pile chairs) ≡ l
    all_l = box_at 0 c b (by_server pile) small ∙ bare (slice_index_or b c []) (only_to (0 + c) (by_server pile)) only_none ∙ is

    left_l : mail_of o q (set b c (left_by p l)) pile chairs ≡ with_to_client (mail_of o q b pile chairs) c (left_by p (letters_to c (mail_of o q b pile chairs)))
    left_l = λ i. record {
      opening = o;
      to_server = q ++ from_client pile;
      to_clients = (set_box 0 c b (left_by p l) (by_server pile) small ∙ ap (set (sorted 0 b (by_server pile)) c) (bare (left_by p l) (only_to (0 + c) (by_server pile)) only_none ∙ sym (ap (left_by p) all_l))) i;
      chairs = chairs;
    }

    set_same : (l' : List ToClient) → l' ≡ l → set b c l' ≡ b
    set_same l' e = ap (set b c) (e ∙ sym is) ∙ back b c
      where
        back : (b : List (List ToClient)) (c : ℕ) → set b c (slice_index_or b c []) ≡ b
        back [] c = refl
        back (y ∷ b) zero = refl
        back (y ∷ b) (suc c) = ap (λ (r : List (List ToClient)). y ∷ r) (back b c)

    pub read_by : (r : Result Turn Refused) → HasTaken HasRead p l x pile l' x' pile' r → ClientActs p client_order.Letter c (mail_of o q b pile chairs) x (mail_of o q (set b c l') pile' chairs) x' r
    read_by (Ok (Did a)) h = (
      refl,
      (
        h.0,
        record {
          delivers = h.1;
          letter = h.3.0;
          list = h.3.2.list;
          picked = subst (λ xs. IsPicked p xs h.3.0) (sym all_l) h.3.1;
          reads = h.3.2.reads;
          last_incarnation = h.3.2.last_incarnation;
          post = (λ i. mail_of o q (set b c (h.2 i)) (h.3.2.sent i) chairs) ∙ said o q (set b c (left_by p l)) pile chairs h.3.2.list ∙ ap (λ m. with_said m h.3.2.list) left_l;
        },
      ),
    )
    read_by (Ok Idle) h = (all_l ∙ h.0, record { post = λ i. mail_of o q (set_same l' h.1 i) (h.3 i) chairs; node = h.2 })
    read_by (Ok Lost) h = record {
      loses = h.0;
      some = subst (λ xs. 0 < length xs) (sym all_l) h.1;
      node = h.3;
      post = (λ i. mail_of o q (set b c (h.2 i)) (h.4 i) chairs) ∙ left_l;
    }
    read_by (Err e) h = (inr (refl, h.0, subst (λ xs. 0 < length xs) (sym all_l) h.1), record { post = λ i. mail_of o q (set_same l' h.2 i) (h.4 i) chairs; node = h.3 })
