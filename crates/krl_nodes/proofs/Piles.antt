-- What was sent, put after the letters to each node.
use Rattle.krl_nodes.proofs.Names.{◌≡◌, ◌≢◌, ℕ, zero, suc, ◌+◌, ◌<◌, List, [], ◌∷◌, ◌++◌, length, Bool, true, false, cond, Some, refl, sym, ap, ◌∙◌, arith, nat_eq, eq-eqb, ne_eqb, set, append_assoc}
use Rattle.krl_nodes.proofs.Names.{slice_get, slice_index_or, Value, ToServer, ToClient, Message, from_clients, from_server, from_client, by_server, only_to, sorted, mail_of, with_said, with_sent}
use Rattle.krl_nodes.proofs.Names.{IsPut, HasOne, HasNone, is_for, Chair}
use Rattle.krl_world.specs.declared.message.Message.TheVariants as message
use Rattle.krl_nodes.specs.declared.post.Reader.TheVariants as reader

-- Messages after others

from_more : (xs : List Message) (ys : List ToServer) → from_client (xs ++ from_clients ys) ≡ from_client xs ++ ys
from_more [] [] = refl
from_more [] (y ∷ ys) = ap (λ (l : List ToServer). y ∷ l) (from_more [] ys)
from_more (message.ToServer m ∷ xs) ys = ap (λ (l : List ToServer). m ∷ l) (from_more xs ys)
from_more (message.ToClient m ∷ xs) ys = from_more xs ys

by_none : (xs : List Message) (ys : List ToServer) → by_server (xs ++ from_clients ys) ≡ by_server xs
by_none [] [] = refl
by_none [] (y ∷ ys) = by_none [] ys
by_none (message.ToServer m ∷ xs) ys = by_none xs ys
by_none (message.ToClient m ∷ xs) ys = ap (λ (l : List ToClient). m ∷ l) (by_none xs ys)

from_none : (xs : List Message) (ys : List ToClient) → from_client (xs ++ from_server ys) ≡ from_client xs
from_none [] [] = refl
from_none [] (y ∷ ys) = from_none [] ys
from_none (message.ToServer m ∷ xs) ys = ap (λ (l : List ToServer). m ∷ l) (from_none xs ys)
from_none (message.ToClient m ∷ xs) ys = from_none xs ys

by_more : (xs : List Message) (ys : List ToClient) → by_server (xs ++ from_server ys) ≡ by_server xs ++ ys
by_more [] [] = refl
by_more [] (y ∷ ys) = ap (λ (l : List ToClient). y ∷ l) (by_more [] ys)
by_more (message.ToServer m ∷ xs) ys = by_more xs ys
by_more (message.ToClient m ∷ xs) ys = ap (λ (l : List ToClient). m ∷ l) (by_more xs ys)

only_more : (c : ℕ) (xs ys : List ToClient) → only_to c (xs ++ ys) ≡ only_to c xs ++ only_to c ys
only_more c [] ys = refl
only_more c (m ∷ xs) ys = by_test (nat_eq m.client c) (only_more c xs ys)
  where
    by_test : (b : Bool) → only_to c (xs ++ ys) ≡ only_to c xs ++ only_to c ys → cond b (m ∷ only_to c (xs ++ ys)) (only_to c (xs ++ ys)) ≡ cond b (m ∷ only_to c xs) (only_to c xs) ++ only_to c ys
    by_test true e = ap (λ (l : List ToClient). m ∷ l) e
    by_test false e = e

sorted_more : (c : ℕ) (b : List (List ToClient)) (xs ys : List ToClient) → sorted c b (xs ++ ys) ≡ sorted c (sorted c b xs) ys
sorted_more c [] xs ys = refl
sorted_more c (l ∷ b) xs ys = λ i. (ap (λ (r : List ToClient). l ++ r) (only_more c xs ys) ∙ sym (append_assoc l (only_to c xs) (only_to c ys))) i ∷ sorted_more (suc c) b xs ys i

module _ (o : List (ℕ × Value)) (q : List ToServer) (b : List (List ToClient)) (pile : List Message) (chairs : List Chair) where
  pub said : (list : List ToServer) → mail_of o q b (pile ++ from_clients list) chairs ≡ with_said (mail_of o q b pile chairs) list
  said list = λ i. record {
    opening = o;
    to_server = (ap (λ (l : List ToServer). q ++ l) (from_more pile list) ∙ sym (append_assoc q (from_client pile) list)) i;
    to_clients = sorted 0 b (by_none pile list i);
    chairs = chairs;
  }

  pub sent : (outs : List ToClient) → mail_of o q b (pile ++ from_server outs) chairs ≡ with_sent (mail_of o q b pile chairs) outs
  sent outs = λ i. record {
    opening = o;
    to_server = q ++ from_none pile outs i;
    to_clients = (ap (sorted 0 b) (by_more pile outs) ∙ sorted_more 0 b (by_server pile) outs) i;
    chairs = chairs;
  }

-- The letters to one client

pub box_at : (k c : ℕ) (b : List (List ToClient)) (ms : List ToClient) → c < length b → slice_index_or (sorted k b ms) c [] ≡ slice_index_or b c [] ++ only_to (k + c) ms
box_at k c [] ms lt = absurd (omega (arith, lt))
box_at k zero (l ∷ b) ms lt = let e : k ≡ k + 0 = omega arith in ap (λ j. l ++ only_to j ms) e
box_at k (suc c) (l ∷ b) ms lt = let e : suc k + c ≡ k + suc c = omega arith in box_at (suc k) c b ms (omega (arith, lt)) ∙ ap (λ j. slice_index_or b c [] ++ only_to j ms) e

pub set_box : (k c : ℕ) (b : List (List ToClient)) (l : List ToClient) (ms : List ToClient) → c < length b → sorted k (set b c l) ms ≡ set (sorted k b ms) c (l ++ only_to (k + c) ms)
set_box k c [] l ms lt = absurd (omega (arith, lt))
set_box k zero (x ∷ b) l ms lt = let e : k ≡ k + 0 = omega arith in ap (λ j. (l ++ only_to j ms) ∷ sorted (suc k) b ms) e
set_box k (suc c) (x ∷ b) l ms lt = let e : suc k + c ≡ k + suc c = omega arith in ap (λ (r : List (List ToClient)). (x ++ only_to k ms) ∷ r) (set_box (suc k) c b l ms (omega (arith, lt)) ∙ ap (λ j. set (sorted (suc k) b ms) c (l ++ only_to j ms)) e)

-- One message is put after the letters to its reader

only_here : (c : ℕ) (m : ToClient) (ms : List ToClient) → m.client ≡ c → only_to c (m ∷ ms) ≡ m ∷ only_to c ms
only_here c m ms e = ap (λ b. cond b (m ∷ only_to c ms) (only_to c ms)) (eq-eqb m.client c e)

only_else : (c : ℕ) (m : ToClient) (ms : List ToClient) → m.client ≢ c → only_to c (m ∷ ms) ≡ only_to c ms
only_else c m ms ne = ap (λ b. cond b (m ∷ only_to c ms) (only_to c ms)) (ne_eqb m.client c ne)

-- it is to none of these
past_boxes : (k : ℕ) (b : List (List ToClient)) (m : ToClient) (ms : List ToClient) → ((j : ℕ) → j < length b → m.client ≢ k + j) → sorted k b (m ∷ ms) ≡ sorted k b ms
past_boxes k [] m ms not = refl
past_boxes k (x ∷ b) m ms not = λ i. (x ++ only_else k m ms (λ e. not 0 (omega arith) (omega (arith, e))) i) ∷ past_boxes (suc k) b m ms (λ j lt e. not (suc j) (omega (arith, lt)) (omega (arith, e))) i

put_box : (k c : ℕ) (b : List (List ToClient)) (m : ToClient) (ms : List ToClient) → m.client ≡ k + c → c < length b → sorted k (set b c (slice_index_or b c [] ++ m ∷ [])) ms ≡ sorted k b (m ∷ ms)
put_box k c [] m ms is lt = absurd (omega (arith, lt))
put_box k zero (x ∷ b) m ms is lt =
    let here : m.client ≡ k = omega (arith, is) in
    λ i. (append_assoc x (m ∷ []) (only_to k ms) ∙ ap (λ (l : List ToClient). x ++ l) (sym (only_here k m ms here))) i ∷ sym (past_boxes (suc k) b m ms (λ j _ e. absurd (omega (arith, e, here)))) i
put_box k (suc c) (x ∷ b) m ms is lt =
    let apart : m.client ≢ k = λ (e : m.client ≡ k). absurd (omega (arith, e, is)) in
    λ i. (x ++ sym (only_else k m ms apart) i) ∷ put_box (suc k) c b m ms (omega (arith, is)) (omega (arith, lt)) i

pub put_server : (a : List ToServer) (b : List (List ToClient)) (m : ToServer) → IsPut a b (message.ToServer m) (a ++ m ∷ []) b
put_server a b m rest = record { to_server = append_assoc a (m ∷ []) (from_client rest); to_clients = refl }

pub put_client : (a : List ToServer) (b : List (List ToClient)) (m : ToClient) → m.client < length b → IsPut a b (message.ToClient m) a (set b m.client (slice_index_or b m.client [] ++ m ∷ []))
put_client a b m lt rest = record { to_server = refl; to_clients = put_box 0 m.client b m (by_server rest) (omega arith) lt }

pub put_nowhere : (a : List ToServer) (b : List (List ToClient)) (m : ToClient) → (m.client < length b → ⊥) → IsPut a b (message.ToClient m) a b
put_nowhere a b m past rest = record { to_server = refl; to_clients = sym (past_boxes 0 b m (by_server rest) (λ j lt e. past (omega (arith, lt, e)))) }

-- Whether one of them is to a reader

pub none_said : (ms : List Message) → HasNone reader.Server ms → from_client ms ≡ []
none_said [] h = refl
none_said (message.ToServer m ∷ ms) h = let no : true ≡ false = h 0 (message.ToServer m) refl in absurd (cc)
none_said (message.ToClient m ∷ ms) h = none_said ms (λ i x e. h (suc i) x e)

pub none_to : (c : ℕ) (ms : List Message) → HasNone (reader.Client c) ms → only_to c (by_server ms) ≡ []
none_to c [] h = refl
none_to c (message.ToServer m ∷ ms) h = none_to c ms (λ i x e. h (suc i) x e)
none_to c (message.ToClient m ∷ ms) h = ap (λ b. cond b (m ∷ only_to c (by_server ms)) (only_to c (by_server ms))) (h 0 (message.ToClient m) refl) ∙ none_to c ms (λ i x e. h (suc i) x e)

pub one_said : (ms : List Message) → HasOne reader.Server ms → 0 < length (from_client ms)
one_said ms h = go ms h.0 h.1 h.2 h.3
  where
    go : (ms : List Message) (i : ℕ) (m : Message) → slice_get ms i ≡ Some m → is_for reader.Server m ≡ true → 0 < length (from_client ms)
    go [] i m e t = absurd (cc)
    go (message.ToServer x ∷ ms) i m e t = omega arith
    go (message.ToClient x ∷ ms) zero m e t = let same : message.ToClient x ≡ m = cc in let no : false ≡ true = ap (is_for reader.Server) same ∙ t in absurd (cc)
    go (message.ToClient x ∷ ms) (suc i) m e t = go ms i m e t

pub one_to : (c : ℕ) (ms : List Message) → HasOne (reader.Client c) ms → 0 < length (only_to c (by_server ms))
one_to c ms h = go ms h.0 h.1 h.2 h.3
  where
    more : (b : Bool) (x : ToClient) (l : List ToClient) → 0 < length l → 0 < length (cond b (x ∷ l) l)
    more true x l lt = omega arith
    more false x l lt = lt

    here : (b : Bool) (x : ToClient) (l : List ToClient) → b ≡ true → 0 < length (cond b (x ∷ l) l)
    here true x l e = omega arith
    here false x l e = absurd (cc)

    go : (ms : List Message) (i : ℕ) (m : Message) → slice_get ms i ≡ Some m → is_for (reader.Client c) m ≡ true → 0 < length (only_to c (by_server ms))
    go [] i m e t = absurd (cc)
    go (message.ToServer x ∷ ms) zero m e t = let same : message.ToServer x ≡ m = cc in let no : false ≡ true = ap (is_for (reader.Client c)) same ∙ t in absurd (cc)
    go (message.ToServer x ∷ ms) (suc i) m e t = go ms i m e t
    go (message.ToClient x ∷ ms) zero m e t = let same : message.ToClient x ≡ m = cc in here (nat_eq x.client c) x (only_to c (by_server ms)) (ap (is_for (reader.Client c)) same ∙ t)
    go (message.ToClient x ∷ ms) (suc i) m e t = more (nat_eq x.client c) x (only_to c (by_server ms)) (go ms i m e t)
