-- The clients that a client waits for, one after another.
use Rattle.krl_server.proofs.Names.{◌≡◌, ℕ, zero, suc, ◌+◌, ◌≤◌, ◌<◌, Bool, true, false, List, [], ◌∷◌, ◌++◌, length, refl, sym, ap, ◌∙◌, append_assoc, length-append, arith, append-nil}
use Rattle.krl_server.proofs.Names.{if◌then◌else◌, max_clients, Server}
use Rattle.krl_server.specs.Waits.{waits_for, waited_from, waited_for}
use Rattle.krl_server.proofs.Outputs.Numbers.{sixty_four}

-- those below d were found, and so many clients are left
pub record AreFound (s : Server) (c d : ℕ) (found : List ℕ) : Type 0 where
  pub left : ℕ
  pub clients : d + left ≡ 64
  pub few : length found ≤ d
  pub all : found ++ waited_from s c d left ≡ waited_for s c

module _ (s : Server) (c : ℕ) where
  pub none_found : AreFound s c 0 []
  none_found = record { left = max_clients; clients = let e = sixty_four in omega (arith, e); few = omega arith; all = refl }

  -- a client more, by whether it is waited for
  abbrev more : (d k : ℕ) (b : Bool) → List ℕ
  more d k b = if b then d ∷ waited_from s c (suc d) k else waited_from s c (suc d) k

  module _ (d : ℕ) (found : List ℕ) (lt : d < 64) (h : AreFound s c d found) where
    pub one_found : waits_for s c d ≡ true → AreFound s c (suc d) (found ++ d ∷ [])
    one_found is = by_left h.left refl
      where
        by_left : (k : ℕ) → h.left ≡ k → AreFound s c (suc d) (found ++ d ∷ [])
        by_left zero e = absurd (let x = h.clients in omega (arith, x, e, lt))
        by_left (suc k) e = record {
          left = k;
          clients = let x = h.clients in omega (arith, x, e);
          few = let x = h.few in let l = length-append found (d ∷ []) in omega (arith, x, l);
          all = append_assoc found (d ∷ []) (waited_from s c (suc d) k) ∙ ap (λ b. found ++ more d k b) (sym is) ∙ ap (λ x. found ++ waited_from s c d x) (sym e) ∙ h.all;
        }

    pub none_more : waits_for s c d ≡ false → AreFound s c (suc d) found
    none_more is = by_left h.left refl
      where
        by_left : (k : ℕ) → h.left ≡ k → AreFound s c (suc d) found
        by_left zero e = absurd (let x = h.clients in omega (arith, x, e, lt))
        by_left (suc k) e = record {
          left = k;
          clients = let x = h.clients in omega (arith, x, e);
          few = let x = h.few in omega (arith, x);
          all = ap (λ b. found ++ more d k b) (sym is) ∙ ap (λ x. found ++ waited_from s c d x) (sym e) ∙ h.all;
        }

  pub all_found : (d : ℕ) (found : List ℕ) → 64 ≤ d → AreFound s c d found → found ≡ waited_for s c
  all_found d found le h = by_left h.left refl
    where
      by_left : (k : ℕ) → h.left ≡ k → found ≡ waited_for s c
      by_left zero e = sym (append-nil found) ∙ ap (λ x. found ++ waited_from s c d x) (sym e) ∙ h.all
      by_left (suc k) e = absurd (let x = h.clients in omega (arith, x, e, le))
