-- What holds of the spots, the spare places and the cells after a change.
use Rattle.std.proofs.Common.{◌≡◌, ◌≢◌, ℕ, suc, ◌+◌, ◌*◌, ◌≤◌, ◌<◌, List, [], ◌∷◌, ◌++◌, length, replicate, Some, sym, ap, subst, ◌∙◌, arith, slice_set}
use Rattle.std.proofs.Math.Logic.{⊎_elim}
use Rattle.std.proofs.lemmas.List.{append_assoc, length-append, length-set, length-replicate}
use Rattle.std.proofs.lemmas.List.Edits.{length-insert, length-remove}
use Rattle.std.specs.List.{AllByRecursion, slice_get, insert, remove}
use Rattle.std.specs.Global.{Vec}
use Rattle.std.specs.Prelude.{vec_capacity}
use Rattle.krl_blocks.specs.declared.spot.Spot.{Spot}
use Rattle.krl_blocks.specs.Shelves.{IsStored, shown, places, AreApart, IsFree}
use Rattle.krl_blocks.proofs.Around.{all_set, all_insert}
use Rattle.krl_blocks.proofs.Kept.{one_more}
use Rattle.krl_blocks.proofs.Apart.{all_last, all_but_last, all_inserted, all_removed, all_read, last_apart, more_apart, insert_apart, remove_apart}
use Rattle.krl_blocks.proofs.Shelving.{AreSmall, place_at, places_insert, places_remove, places_set, shown_longer}
use Rattle.krl_blocks.proofs.Places.{front_all}

-- the place is no block's and not spare, and it has its cells
pub record IsFreed {X : Type 0} (spots : List Spot) (left : List ℕ) (cells more : List X) (place m : ℕ) : Type 0 where
  pub apart : AreApart (places spots ++ left)
  pub other : AllByRecursion (λ q. q ≢ place) (places spots ++ left)
  pub within : AllByRecursion (λ p. 64 * p + 64 ≤ length more) (places spots ++ left)
  pub its : 64 * place + 64 ≤ length more
  pub longer : length cells ≤ length more
  pub all : 64 * (length spots + suc (length left)) ≡ length more
  pub few : length spots + suc (length left) ≤ m
  pub same : shown spots more ≡ shown spots cells

below_other : (ps : List ℕ) (place n : ℕ) → 64 * place ≡ n → AllByRecursion (λ p. 64 * p + 64 ≤ n) ps → AllByRecursion (λ q. q ≢ place) ps
below_other [] place n is h = tt
below_other (p ∷ ps) place n is h = ((λ e. let le = h.0 in omega (arith, e, le, is)), below_other ps place n is h.1)

wider : (ps : List ℕ) (n m : ℕ) → n ≤ m → AllByRecursion (λ p. 64 * p + 64 ≤ n) ps → AllByRecursion (λ p. 64 * p + 64 ≤ m) ps
wider [] n m le h = tt
wider (p ∷ ps) n m le h = (let lt = h.0 in omega (arith, lt, le), wider ps n m le h.1)

module _ {V : Type 0} (o : Vec Spot) (sp : Vec ℕ) (c : Vec (ℕ × V)) (m : ℕ) (k : IsStored o sp c m) where
  module _ (left : List ℕ) (more : List (ℕ × V)) (place : ℕ) (x : ℕ × V) (room : length o.items < m) where
    freed_spare : sp.items ≡ left ++ place ∷ [] → more ≡ c.items → IsFreed o.items left c.items more place m
    freed_spare e f =
        let joined : places o.items ++ sp.items ≡ (places o.items ++ left) ++ place ∷ [] = ap (λ (ps : List ℕ). places o.items ++ ps) e ∙ sym (append_assoc (places o.items) left (place ∷ [])) in
        let apart = last_apart (places o.items ++ left) place (subst AreApart joined k.apart) in
        let within = all_but_last (λ p. 64 * p + 64 ≤ length c.items) (places o.items ++ left) place (subst (λ (ps : List ℕ). AllByRecursion (λ p. 64 * p + 64 ≤ length c.items) ps) joined k.within) in
        let n : length more ≡ length c.items = ap length f in
        let count : length sp.items ≡ suc (length left) = ap length e ∙ one_more left place in
        let all = k.all in
        let few = k.few in
        let its = within.1 in
        record {
          apart = apart.0;
          other = apart.1;
          within = subst (λ (l : ℕ). AllByRecursion (λ p. 64 * p + 64 ≤ l) (places o.items ++ left)) (sym n) within.0;
          its = omega (arith, its, n);
          longer = omega (arith, n);
          all = omega (arith, all, count, n);
          few = omega (arith, few, count);
          same = ap (shown o.items) f;
        }

    freed_new : sp.items ≡ [] → left ≡ [] → 64 * place ≡ length c.items → more ≡ c.items ++ replicate 64 x → IsFreed o.items left c.items more place m
    freed_new e none is f =
        let same : sp.items ≡ left = e ∙ sym none in
        let within = subst (λ (ps : List ℕ). AllByRecursion (λ p. 64 * p + 64 ≤ length c.items) (places o.items ++ ps)) same k.within in
        let n : length more ≡ length c.items + length (replicate 64 x) = ap length f ∙ length-append c.items (replicate 64 x) in
        let fill = length-replicate 64 x in
        let count : length sp.items ≡ 0 = ap length e in
        let left_count : length left ≡ 0 = ap length none in
        let all = k.all in
        record {
          apart = subst (λ (ps : List ℕ). AreApart (places o.items ++ ps)) same k.apart;
          other = below_other (places o.items ++ left) place (length c.items) is within;
          within = wider (places o.items ++ left) (length c.items) (length more) (omega (arith, n)) within;
          its = omega (arith, is, n, fill);
          longer = omega (arith, n);
          all = omega (arith, all, count, left_count, n, fill);
          few = omega (arith, left_count, room);
          same = ap (shown o.items) f ∙ shown_longer o.items c.items (replicate 64 x) k.small (front_all (λ p. 64 * p + 64 ≤ length c.items) (places o.items) left within);
        }

    pub freed : IsFree sp.items left c.items more place x → IsFreed o.items left c.items more place m
    freed h = ⊎_elim
        (λ (a : (sp.items ≡ left ++ place ∷ []) × (more ≡ c.items)). freed_spare a.0 a.1)
        (λ (a : (sp.items ≡ []) × (left ≡ []) × (64 * place ≡ length c.items) × (more ≡ c.items ++ replicate 64 x)). freed_new a.0 a.1 a.2 a.3)
        h

  -- a block's spot is within the cells
  pub spot_within : (b : ℕ) (s : Spot) → Some s ≡ slice_get o.items b → 64 * s.place + 64 ≤ length c.items
  spot_within b s e = all_read (λ p. 64 * p + 64 ≤ length c.items) (places o.items) sp.items b s.place (place_at o.items b s e) k.within

  module _ (o2 : Vec Spot) (sp2 : Vec ℕ) (c2 : Vec (ℕ × V)) (orders : vec_capacity o ≤ vec_capacity o2) (spares : vec_capacity sp ≤ vec_capacity sp2) (room : vec_capacity c ≤ vec_capacity c2) where
    -- the block at b has another length, and the cells have other contents
    pub stored_set : (b : ℕ) (s t : Spot) → Some s ≡ slice_get o.items b → t.place ≡ s.place → t.len ≤ 64 → o2.items ≡ slice_set o.items b t → sp2.items ≡ sp.items → length c2.items ≡ length c.items → IsStored o2 sp2 c2 m
    stored_set b s t e same few f g n =
        let ps : places o2.items ++ sp2.items ≡ places o.items ++ sp.items = ap (λ (ss : List Spot). places ss ++ sp2.items) f ∙ ap (λ (qs : List ℕ). qs ++ sp2.items) (places_set o.items b s t e same) ∙ ap (λ (qs : List ℕ). places o.items ++ qs) g in
        let count : length o2.items ≡ length o.items = ap length f ∙ length-set o.items b t in
        let spare : length sp2.items ≡ length sp.items = ap length g in
        record {
          apart = subst AreApart (sym ps) k.apart;
          within = subst (λ (qs : List ℕ). AllByRecursion (λ p. 64 * p + 64 ≤ length c2.items) qs) (sym ps) (subst (λ (l : ℕ). AllByRecursion (λ p. 64 * p + 64 ≤ l) (places o.items ++ sp.items)) (sym n) k.within);
          small = subst AreSmall (sym f) (all_set (λ u. u.len ≤ 64) o.items b t k.small few);
          all = let h = k.all in omega (arith, h, count, spare, n);
          few = let h = k.few in omega (arith, h, count, spare);
          orders = let h = k.orders in omega (arith, h, orders);
          spares = let h = k.spares in omega (arith, h, spares);
          room = let h = k.room in omega (arith, h, room);
        }

    -- a block comes at b, in a place that was free
    pub stored_new : (mid : List Spot) (more : List (ℕ × V)) (b place : ℕ) (t : Spot) → IsFreed o.items sp2.items c.items more place m → places mid ≡ places o.items → AreSmall mid → length mid ≡ length o.items → b ≤ length mid → t.place ≡ place → t.len ≤ 64 → o2.items ≡ insert mid b t → length c2.items ≡ length more → IsStored o2 sp2 c2 m
    stored_new mid more b place t h same small n at is few f len =
        let ps : places o2.items ++ sp2.items ≡ insert (places o.items) b place ++ sp2.items =
        ap (λ (ss : List Spot). places ss ++ sp2.items) f ∙ ap (λ (qs : List ℕ). qs ++ sp2.items) (places_insert mid b t ∙ ap (λ (qs : List ℕ). insert qs b t.place) same ∙ ap (insert (places o.items) b) is) in
        let count : length o2.items ≡ length mid + 1 = ap length f ∙ length-insert mid b t at in
        record {
          apart = subst AreApart (sym ps) (insert_apart (places o.items) sp2.items b place h.apart h.other);
          within = subst (λ (qs : List ℕ). AllByRecursion (λ p. 64 * p + 64 ≤ length c2.items) qs) (sym ps) (subst (λ (l : ℕ). AllByRecursion (λ p. 64 * p + 64 ≤ l) (insert (places o.items) b place ++ sp2.items)) (sym len) (all_inserted (λ p. 64 * p + 64 ≤ length more) (places o.items) sp2.items b place h.within h.its));
          small = subst AreSmall (sym f) (all_insert (λ u. u.len ≤ 64) mid b t small few);
          all = let a = h.all in omega (arith, a, count, n, len);
          few = let a = h.few in omega (arith, a, count, n);
          orders = let a = k.orders in omega (arith, a, orders);
          spares = let a = k.spares in omega (arith, a, spares);
          room = let a = k.room in omega (arith, a, room);
        }

    -- the block at b goes, and its place is spare
    pub stored_gone : (b : ℕ) (s : Spot) → Some s ≡ slice_get o.items b → b < length o.items → places o2.items ≡ places (remove o.items b) → AreSmall o2.items → length o2.items ≡ length (remove o.items b) → sp2.items ≡ sp.items ++ s.place ∷ [] → length c2.items ≡ length c.items → IsStored o2 sp2 c2 m
    stored_gone b s e lt same small n g len =
        let rest = remove (places o.items) b in
        let ps : places o2.items ++ sp2.items ≡ (rest ++ sp.items) ++ s.place ∷ [] =
        ap (λ (qs : List ℕ). qs ++ sp2.items) (same ∙ places_remove o.items b) ∙ ap (λ (qs : List ℕ). rest ++ qs) g ∙ sym (append_assoc rest sp.items (s.place ∷ [])) in
        let gone = remove_apart (places o.items) sp.items b s.place (place_at o.items b s e) k.apart in
        let count : length o2.items + 1 ≡ length o.items = ap (λ l. l + 1) n ∙ length-remove o.items b lt in
        let spare : length sp2.items ≡ suc (length sp.items) = ap length g ∙ one_more sp.items s.place in
        record {
          apart = subst AreApart (sym ps) (more_apart (rest ++ sp.items) s.place gone.0 gone.1);
          within = subst (λ (qs : List ℕ). AllByRecursion (λ p. 64 * p + 64 ≤ length c2.items) qs) (sym ps) (subst (λ (l : ℕ). AllByRecursion (λ p. 64 * p + 64 ≤ l) ((rest ++ sp.items) ++ s.place ∷ [])) (sym len) (all_last (λ p. 64 * p + 64 ≤ length c.items) (rest ++ sp.items) s.place (all_removed (λ p. 64 * p + 64 ≤ length c.items) (places o.items) sp.items b k.within) (spot_within b s e)));
          small = small;
          all = let h = k.all in omega (arith, h, count, spare, len);
          few = let h = k.few in omega (arith, h, count, spare);
          orders = let h = k.orders in omega (arith, h, orders);
          spares = let h = k.spares in omega (arith, h, spares);
          room = let h = k.room in omega (arith, h, room);
        }
