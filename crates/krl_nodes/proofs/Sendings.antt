-- Letters stand among all that were sent, and what a node sends goes to the end of both.
use Rattle.krl_nodes.proofs.Names.{◌≡◌, ◌⊎◌, ℕ, zero, suc, ◌+◌, List, [], ◌∷◌, ◌++◌, Bool, true, false, cond, Some, inl, inr, ⊎_elim, refl, sym, ap, ◌∙◌, arith, nat_eq, eqb-true, set, slice_get}
use Rattle.krl_nodes.proofs.Names.{slice_index_or, remove, ToServer, ToClient, Message, from_clients, from_server, Mail, letters_to, left_by, only_to, sorted, with_said, with_sent, with_to_server}
use Rattle.krl_nodes.proofs.Names.{with_to_client, AllSent, Pick, Take, Copy, Lose}
use Rattle.krl_world.specs.declared.message.Message.TheVariants as message

-- a value stands in a list
abbrev pub Stands : {A : Type 0} → A → List A → Type 0
Stands x xs = (i : ℕ) × (slice_get xs i ≡ Some x)

module _ {A : Type 0} where
  stands_more : (l : A) (xs ys : List A) → Stands l xs → Stands l (xs ++ ys)
  stands_more l xs ys t = (t.0, longer xs t.0 t.1)
    where
      longer : (xs : List A) (i : ℕ) → slice_get xs i ≡ Some l → slice_get (xs ++ ys) i ≡ Some l
      longer [] i e = absurd (cc)
      longer (x ∷ xs) zero e = e
      longer (x ∷ xs) (suc i) e = longer xs i e

  stands_end : (xs ys : List A) (k : ℕ) (l : A) → slice_get ys k ≡ Some l → Stands l (xs ++ ys)
  stands_end [] ys k l e = (k, e)
  stands_end (x ∷ xs) ys k l e = let r = stands_end xs ys k l e in (suc r.0, r.1)

  in_either : (xs ys : List A) (k : ℕ) (l : A) → slice_get (xs ++ ys) k ≡ Some l → Stands l xs ⊎ Stands l ys
  in_either [] ys k l e = inr (k, e)
  in_either (x ∷ xs) ys zero l e = inl (0, e)
  in_either (x ∷ xs) ys (suc k) l e = ⊎_elim (λ (t : Stands l xs). inl (suc t.0, t.1)) (λ (t : Stands l ys). inr t) (in_either xs ys k l e)

  removed_in : (xs : List A) (i k : ℕ) (x : A) → slice_get (remove xs i) k ≡ Some x → Stands x xs
  removed_in [] zero k x e = absurd (cc)
  removed_in [] (suc i) k x e = absurd (cc)
  removed_in (y ∷ xs) zero k x e = (suc k, e)
  removed_in (y ∷ xs) (suc i) zero x e = (0, e)
  removed_in (y ∷ xs) (suc i) (suc k) x e = let t = removed_in xs i k x e in (suc t.0, t.1)

  left_in : (p : Pick) (xs : List A) (k : ℕ) (x : A) → slice_get (left_by p xs) k ≡ Some x → Stands x xs
  left_in (Take i) xs k x e = removed_in xs _ k x e
  left_in (Copy i) xs k x e = (k, e)
  left_in (Lose i) xs k x e = removed_in xs _ k x e

  pub picked_in : (xs : List A) (k : ℕ) (x : A) → slice_get xs k ≡ Some x → Stands x xs
  picked_in xs k x e = (k, e)

said_at : (list : List ToServer) (k : ℕ) (m : ToServer) → slice_get list k ≡ Some m → slice_get (from_clients list) k ≡ Some (message.ToServer m)
said_at [] k m e = absurd (cc)
said_at (x ∷ list) zero m e = let same : x ≡ m = cc in ap (λ (y : ToServer). Some (message.ToServer y)) same
said_at (x ∷ list) (suc k) m e = said_at list k m e

sent_at : (outs : List ToClient) (k : ℕ) (m : ToClient) → slice_get outs k ≡ Some m → slice_get (from_server outs) k ≡ Some (message.ToClient m)
sent_at [] k m e = absurd (cc)
sent_at (x ∷ outs) zero m e = let same : x ≡ m = cc in ap (λ (y : ToClient). Some (message.ToClient y)) same
sent_at (x ∷ outs) (suc k) m e = sent_at outs k m e

only_in : (c : ℕ) (ms : List ToClient) (k : ℕ) (m : ToClient) → slice_get (only_to c ms) k ≡ Some m → (m.client ≡ c) × Stands m ms
only_in c [] k m e = absurd (cc)
only_in c (x ∷ ms) k m e = by_test (nat_eq x.client c) k refl (λ j f. only_in c ms j m f) e
  where
    by_test : (b : Bool) (k : ℕ) → nat_eq x.client c ≡ b → ((j : ℕ) → slice_get (only_to c ms) j ≡ Some m → (m.client ≡ c) × Stands m ms) → slice_get (cond b (x ∷ only_to c ms) (only_to c ms)) k ≡ Some m → (m.client ≡ c) × Stands m (x ∷ ms)
    by_test true zero is rest e = let same : x ≡ m = cc in (ap (λ (y : ToClient). y.client) (sym same) ∙ eqb-true x.client c is, (0, ap (λ (y : ToClient). Some y) same))
    by_test true (suc k) is rest e = let t = rest k e in (t.0, (suc t.1.0, t.1.1))
    by_test false k is rest e = let t = rest k e in (t.0, (suc t.1.0, t.1.1))

in_box : (k c : ℕ) (b : List (List ToClient)) (ms : List ToClient) (j : ℕ) (m : ToClient) → slice_get (slice_index_or (sorted k b ms) c []) j ≡ Some m → Stands m (slice_index_or b c []) ⊎ ((m.client ≡ k + c) × Stands m ms)
in_box k c [] ms j m e = absurd (cc)
in_box k zero (l ∷ b) ms j m e = ⊎_elim (λ (t : Stands m l). inl t) (λ (t : Stands m (only_to k ms)). let s = only_in k ms t.0 m t.1 in let is : m.client ≡ k + 0 = omega (arith, s.0) in inr (is, s.1)) (in_either l (only_to k ms) j m e)
in_box k (suc c) (l ∷ b) ms j m e = ⊎_elim (λ (t : Stands m (slice_index_or b c [])). inl t) (λ (t : (m.client ≡ suc k + c) × Stands m ms). let is : m.client ≡ k + suc c = omega (arith, t.0) in inr (is, t.1)) (in_box (suc k) c b ms j m e)

in_set : (b : List (List ToClient)) (c d : ℕ) (l : List ToClient) (k : ℕ) (m : ToClient) → slice_get (slice_index_or (set b c l) d []) k ≡ Some m → ((d ≡ c) × (slice_get l k ≡ Some m)) ⊎ (slice_get (slice_index_or b d []) k ≡ Some m)
in_set [] c d l k m e = inr e
in_set (x ∷ b) zero zero l k m e = inl (refl, e)
in_set (x ∷ b) zero (suc d) l k m e = inr e
in_set (x ∷ b) (suc c) zero l k m e = inr e
in_set (x ∷ b) (suc c) (suc d) l k m e = ⊎_elim (λ (t : (d ≡ c) × (slice_get l k ≡ Some m)). inl (ap suc t.0, t.1)) (λ (t : slice_get (slice_index_or b d []) k ≡ Some m). inr t) (in_set b c d l k m e)

module _ (mail : Mail) (sent : List Message) (all : AllSent mail sent) where
  pub said_sent : (list : List ToServer) → AllSent (with_said mail list) (sent ++ from_clients list)
  said_sent list = record {
    to_server = λ k m e. ⊎_elim
        (λ (t : Stands m mail.to_server). stands_more (message.ToServer m) sent (from_clients list) (all.to_server t.0 m t.1))
        (λ (t : Stands m list). stands_end sent (from_clients list) t.0 (message.ToServer m) (said_at list t.0 m t.1))
        (in_either mail.to_server list k m e);
    to_clients = λ c k m e. let a = all.to_clients c k m e in (a.0, stands_more (message.ToClient m) sent (from_clients list) a.1);
  }

  pub sent_sent : (outs : List ToClient) → AllSent (with_sent mail outs) (sent ++ from_server outs)
  sent_sent outs = record {
    to_server = λ k m e. stands_more (message.ToServer m) sent (from_server outs) (all.to_server k m e);
    to_clients = λ c k m e. ⊎_elim
        (λ (t : Stands m (letters_to c mail)). let a = all.to_clients c t.0 m t.1 in (a.0, stands_more (message.ToClient m) sent (from_server outs) a.1))
        (λ (t : (m.client ≡ 0 + c) × Stands m outs). let is : m.client ≡ c = omega (arith, t.0) in (is, stands_end sent (from_server outs) t.1.0 (message.ToClient m) (sent_at outs t.1.0 m t.1.1)))
        (in_box 0 c mail.to_clients outs k m e);
  }

  pub left_server : (p : Pick) → AllSent (with_to_server mail (left_by p mail.to_server)) sent
  left_server p = record {
    to_server = λ k m e. let t = left_in p mail.to_server k m e in all.to_server t.0 m t.1;
    to_clients = all.to_clients;
  }

  pub left_client : (p : Pick) (c : ℕ) → AllSent (with_to_client mail c (left_by p (letters_to c mail))) sent
  left_client p c = record {
    to_server = all.to_server;
    to_clients = λ d k m e. ⊎_elim
        (λ (t : (d ≡ c) × (slice_get (left_by p (letters_to c mail)) k ≡ Some m)). let s = left_in p (letters_to c mail) k m t.1 in let a = all.to_clients c s.0 m s.1 in (a.0 ∙ sym t.0, a.1))
        (λ (t : slice_get (letters_to d mail) k ≡ Some m). all.to_clients d k m t)
        (in_set mail.to_clients c d (left_by p (letters_to c mail)) k m e);
  }
