-- What each change of a shelf makes of the blocks.
use Rattle.std.proofs.Common.{get_or, ◌≡◌, ◌≢◌, ℕ, suc, ◌+◌, ◌*◌, ◌^◌, ◌≤◌, ◌<◌, List, [], ◌∷◌, ◌++◌, length, take, drop, Some, None, zero, refl, sym, ap, subst, ◌∙◌, arith, slice_set}
use Rattle.std.proofs.lemmas.List.{length-drop, length-take-le, take-take, drop-set}
use Rattle.std.specs.List.{AllByRecursion, slice_get, insert, remove}
use Rattle.std.specs.Global.{Vec}
use Rattle.std.specs.Vec.{vec_len}
use Rattle.krl_blocks.specs.declared.spot.Spot.{Spot}
use Rattle.krl_blocks.specs.Shelves.{Shelved, IsStored, IsOneOther, IsSplit, IsJoined, entries_at, shown, places, AreApart}
use Rattle.krl_blocks.proofs.Around.{all_remove}
use Rattle.krl_blocks.proofs.Kept.{same_there}
use Rattle.krl_blocks.proofs.Edits.{read_at}
use Rattle.krl_blocks.proofs.Apart.{first_apart, remove_apart}
use Rattle.krl_blocks.proofs.Shelving.{AreSameBut, over, place_at, places_remove, shown_at, shown_length, shown_more, shown_insert, shown_remove, shown_spot, shown_but, shown_set, same_over, same_set, same_then, small_at, cells_put, cells_taken, cells_set, cells_copied, cells_joined}
use Rattle.krl_blocks.proofs.Storing.{IsFreed, spot_within}
use Rattle.krl_blocks.proofs.Places.{front_all}

-- a spot with another length, by the cells of its place
entries_from : {X : Type 0} (ws : List X) (s t : Spot) (n : ℕ) → t.place ≡ s.place → t.len ≡ n → entries_at ws t ≡ take n (drop (64 * s.place) ws)
entries_from ws s t n same long = ap (λ k. take k (drop (64 * t.place) ws)) long ∙ ap (λ p. take n (drop (64 * p) ws)) same

-- the spot of the block at b, and the block, as a shelf shows it
pub record IsSpotOf {V : Type 0} (o : Vec Spot) (c : Vec (ℕ × V)) (v : Shelved V) (b : ℕ) (s : Spot) : Type 0 where
  pub there : Some s ≡ slice_get o.items b
  pub fits : 64 * s.place + 64 ≤ length c.items
  pub small : s.len ≤ 64
  pub block : Some (entries_at c.items s) ≡ slice_get v.blocks b
  pub long : length (entries_at c.items s) ≡ s.len
  pub cells : vec_len c ≡ length c.items
  pub bytes : vec_len c < 2 ^ 63
  pub order : b < length o.items

module _ {V : Type 0} (o : Vec Spot) (sp : Vec ℕ) (c : Vec (ℕ × V)) (m : ℕ) (v : Shelved V) (e : record { blocks = shown o.items c.items; most = m } ≡ v) where
  pub count_is : length v.blocks ≡ vec_len o
  count_is = ap (λ (u : Shelved V). length u.blocks) (sym e) ∙ shown_length o.items c.items ∙ sym o.ok.0

  pub most_is : v.most ≡ m
  most_is = ap (λ (u : Shelved V). u.most) (sym e)

  pub one_shown : (ys : List (List (ℕ × V))) (b : ℕ) (How : List (ℕ × V) → List (ℕ × V) → Type 0) → IsOneOther (shown o.items c.items) ys b How → IsOneOther v.blocks ys b How
  one_shown ys b How h = subst (λ (u : Shelved V). IsOneOther u.blocks ys b How) e h

  pub split_one : (ys : List (List (ℕ × V))) (b i : ℕ) → IsSplit (shown o.items c.items) ys b i → IsSplit v.blocks ys b i
  split_one ys b i h = subst (λ (u : Shelved V). IsSplit u.blocks ys b i) e h

  pub joined_one : (ys : List (List (ℕ × V))) (b : ℕ) → IsJoined (shown o.items c.items) ys b → IsJoined v.blocks ys b
  joined_one ys b h = subst (λ (u : Shelved V). IsJoined u.blocks ys b) e h

  pub spot_there : IsStored o sp c m → (b : ℕ) (s : Spot) → b < length v.blocks → Some s ≡ slice_get o.items b → IsSpotOf o c v b s
  spot_there k b s lt there =
      let n = count_is in
      let fits = spot_within o sp c m k b s there in
      let small = small_at o.items b s k.small there in
      let left = length-drop (64 * s.place) c.items in
      record {
        there = there;
        fits = fits;
        small = small;
        block = shown_at o.items c.items b s there ∙ ap (λ (u : Shelved V). slice_get u.blocks b) e;
        long = length-take-le s.len (drop (64 * s.place) c.items) (omega (arith, left, fits, small));
        cells = c.ok.0;
        bytes = let a = c.ok.1 in let z = c.small in omega (arith, a, z);
        order = let a = o.ok.0 in omega (arith, n, lt, a);
      }

  pub spot_read : IsStored o sp c m → (b : ℕ) (s : Spot) → b < length v.blocks → s ≡ get_or o.items b s → IsSpotOf o c v b s
  spot_read k b s lt is = let n = count_is in let a = o.ok.0 in spot_there k b s lt (read_at o.items o.items b s (omega (arith, n, lt, a)) refl is)

module _ {V : Type 0} (o : Vec Spot) (sp : Vec ℕ) (c : Vec (ℕ × V)) (m : ℕ) (k : IsStored o sp c m) where
  abbrev ws : List (ℕ × V)
  ws = c.items

  apart : AreApart (places o.items)
  apart = first_apart (places o.items) sp.items k.apart

  module _ (b : ℕ) (s : Spot) (e : Some s ≡ slice_get o.items b) where
    -- the block at b is that of t, over cells that differ only at its place
    other_block : (vs : List (ℕ × V)) (os : List Spot) (t : Spot) (How : List (ℕ × V) → List (ℕ × V) → Type 0) → os ≡ slice_set o.items b t → AreSameBut (64 * s.place) vs ws → How (entries_at ws s) (entries_at vs t) → IsOneOther (shown o.items ws) (shown os vs) b How
    other_block vs os t How f same how = record {
      block = entries_at ws s;
      other = entries_at vs t;
      there = shown_at o.items ws b s e;
      new = ap (λ (ss : List Spot). shown ss vs) f ∙ shown_set o.items ws vs b s t apart k.small e same;
      how = how;
    }

    module _ (i at n dest : ℕ) (us : List (ℕ × V)) (os : List Spot) (t : Spot) (is : at ≡ 64 * s.place + i) (f : os ≡ slice_set o.items b t) (place : t.place ≡ s.place) where
      pub put_shown : (vs : List (ℕ × V)) (x : ℕ × V) → i + n ≡ s.len → dest ≡ at + 1 → s.len < 64 → t.len ≡ suc s.len → us ≡ over ws dest (drop at ws) n → vs ≡ slice_set us at x → IsOneOther (shown o.items ws) (shown os vs) b (λ y z. z ≡ insert y i x)
      put_shown vs x count next few long copied written =
          let fits = spot_within o sp c m k b s e in
          let left = length-drop at ws in
          other_block vs os t (λ y z. z ≡ insert y i x) f
          (same_then ws us vs (64 * s.place)
          (same_over ws us (drop at ws) (64 * s.place) dest n copied (omega (arith, is, next)) (omega (arith, is, next, count, few)) (omega (arith, is, next, count, few, fits)) (omega (arith, left, is, count, few, fits)))
          (same_set us vs (64 * s.place) at x written (omega (arith, is)) (omega (arith, is, count, few))))
          (entries_from vs s t (suc s.len) place long ∙ cells_put ws us (64 * s.place) i s.len at n dest is count vs x next (omega (arith, few, fits)) copied written)

      pub taken_shown : suc (i + n) ≡ s.len → dest ≡ at + 1 → suc t.len ≡ s.len → us ≡ over ws at (drop dest ws) n → IsOneOther (shown o.items ws) (shown os us) b (λ y z. z ≡ remove y i)
      taken_shown count next long copied =
          let fits = spot_within o sp c m k b s e in
          let small = small_at o.items b s k.small e in
          let left = length-drop dest ws in
          other_block us os t (λ y z. z ≡ remove y i) f
          (same_over ws us (drop dest ws) (64 * s.place) at n copied (omega (arith, is)) (omega (arith, is, count, small)) (omega (arith, is, count, small, fits)) (omega (arith, left, is, next, count, small, fits)))
          (entries_from us s t t.len place refl ∙ cells_taken ws us (64 * s.place) i t.len at n dest is (omega (arith, count, long)) next (omega (arith, long, small, fits)) copied
          ∙ ap (λ j. remove (take j (drop (64 * s.place) ws)) i) long)

    pub set_shown : (i at : ℕ) (vs : List (ℕ × V)) (x : ℕ × V) → at ≡ 64 * s.place + i → i < s.len → vs ≡ slice_set ws at x → IsOneOther (shown o.items ws) (shown o.items vs) b (λ y z. z ≡ slice_set y i x)
    set_shown i at vs x is lt written =
        let small = small_at o.items b s k.small e in
        let same = same_set ws vs (64 * s.place) at x written (omega (arith, is)) (omega (arith, is, lt, small)) in
        other_block vs o.items s (λ y z. z ≡ slice_set y i x) (put_back o.items b s e) same (cells_set ws vs (64 * s.place) i s.len at x is lt written)
      where
        put_back : (ss : List Spot) (j : ℕ) (u : Spot) → Some u ≡ slice_get ss j → ss ≡ slice_set ss j u
        put_back [] j u h = refl
        put_back (v ∷ ss) zero u h = let same : v ≡ u = cc in ap (λ (w : Spot). w ∷ ss) same
        put_back (v ∷ ss) (suc j) u h = ap (λ (zs : List Spot). v ∷ zs) (put_back ss j u h)

    pub split_shown : (left : List ℕ) (more us : List (ℕ × V)) (place i n at : ℕ) (os : List Spot) (t u : Spot) → IsFreed o.items left ws more place m → at ≡ 64 * s.place + i → i + n ≡ s.len → us ≡ over more (64 * place) (drop at more) n → os ≡ insert (slice_set o.items b t) (suc b) u → t.place ≡ s.place → t.len ≡ i → u.place ≡ place → u.len ≡ n → IsSplit (shown o.items ws) (shown os us) b i
    split_shown left more us place i n at os t u h is count copied f t_place t_len u_place u_len =
        let small = small_at o.items b s k.small e in
        let its = h.its in
        let wide = spot_in_more in
        let rest = length-drop at more in
        let same = same_over more us (drop at more) (64 * place) (64 * place) n copied (omega arith) (omega (arith, count, small)) (omega (arith, its)) (omega (arith, rest, is, count, small, wide)) in
        let all : shown o.items us ≡ shown o.items ws = shown_but o.items more us place (front_all (λ q. q ≢ place) (places o.items) left h.other) k.small same ∙ h.same in
        let was : entries_at us s ≡ entries_at ws s = same_there (entries_at us s) (entries_at ws s) (slice_get (shown o.items ws) b) (shown_at o.items us b s e ∙ ap (λ (zs : List (List (ℕ × V))). slice_get zs b) all) (shown_at o.items ws b s e) in
        let grown : entries_at more s ≡ entries_at ws s = same_there (entries_at more s) (entries_at ws s) (slice_get (shown o.items ws) b) (shown_at o.items more b s e ∙ ap (λ (zs : List (List (ℕ × V))). slice_get zs b) h.same) (shown_at o.items ws b s e) in
        let lower : entries_at us t ≡ take i (entries_at ws s) = entries_from us s t i t_place t_len ∙ sym (take-take i s.len (drop (64 * s.place) us) (omega (arith, count))) ∙ ap (take i) was in
        let upper : entries_at us u ≡ drop i (entries_at ws s) =
        ap (λ j. take j (drop (64 * u.place) us)) u_len ∙ ap (λ p. take n (drop (64 * p) us)) u_place
        ∙ cells_copied more us (64 * s.place) (64 * place) i n s.len at is count (omega (arith, its)) (omega (arith, small, wide)) copied ∙ ap (drop i) grown in
        record {
          block = entries_at ws s;
          there = shown_at o.items ws b s e;
          new = ap (λ (ss : List Spot). shown ss us) f ∙ shown_insert (slice_set o.items b t) us (suc b) u
              ∙ ap (λ (xs : List (List (ℕ × V))). insert xs (suc b) (entries_at us u)) (shown_spot o.items us b t ∙ ap (λ (xs : List (List (ℕ × V))). slice_set xs b (entries_at us t)) all ∙ ap (slice_set (shown o.items ws) b) lower)
              ∙ ap (insert (slice_set (shown o.items ws) b (take i (entries_at ws s))) (suc b)) upper;
        }
      where
        spot_in : (ps : List ℕ) (j p l : ℕ) → Some p ≡ slice_get ps j → AllByRecursion (λ q. 64 * q + 64 ≤ l) ps → 64 * p + 64 ≤ l
        spot_in [] j p l g w = absurd (let bad : Some p ≡ None = g in cc)
        spot_in (q ∷ ps) zero p l g w = let one : q ≡ p = cc in subst (λ (r : ℕ). 64 * r + 64 ≤ l) one w.0
        spot_in (q ∷ ps) (suc j) p l g w = spot_in ps j p l g w.1

        spot_in_more : 64 * s.place + 64 ≤ length more
        spot_in_more = spot_in (places o.items) b s.place (length more) (place_at o.items b s e) (front_all (λ q. 64 * q + 64 ≤ length more) (places o.items) left h.within)

    pub joined_shown : (u t : Spot) (dest : ℕ) (us : List (ℕ × V)) (os : List Spot) → Some u ≡ slice_get o.items (suc b) → Some s ≡ slice_get (remove o.items (suc b)) b → dest ≡ 64 * s.place + s.len → s.len + u.len ≤ 64 → us ≡ over ws dest (drop (64 * u.place) ws) u.len → os ≡ slice_set (remove o.items (suc b)) b t → t.place ≡ s.place → t.len ≡ s.len + u.len → IsJoined (shown o.items ws) (shown os us) b
    joined_shown u t dest us os g there is few copied f place long =
        let fits = spot_within o sp c m k b s e in
        let wide = spot_within o sp c m k (suc b) u g in
        let rest = length-drop (64 * u.place) ws in
        let left = remove o.items (suc b) in
        let gone = first_apart (remove (places o.items) (suc b)) sp.items (remove_apart (places o.items) sp.items (suc b) u.place (place_at o.items (suc b) u g) k.apart).0 in
        let same = same_over ws us (drop (64 * u.place) ws) (64 * s.place) dest u.len copied (omega (arith, is)) (omega (arith, is, few)) (omega (arith, is, few, fits)) (omega (arith, rest, few, wide)) in
        record {
          lower = entries_at ws s;
          upper = entries_at ws u;
          first = shown_at o.items ws b s e;
          second = shown_at o.items ws (suc b) u g;
          new = ap (λ (ss : List Spot). shown ss us) f
              ∙ shown_set left ws us b s t (subst AreApart (sym (places_remove o.items (suc b))) gone) (all_remove (λ v. v.len ≤ 64) o.items (suc b) k.small) there same
              ∙ ap (λ (xs : List (List (ℕ × V))). slice_set xs b (entries_at us t)) (shown_remove o.items ws (suc b))
              ∙ ap (slice_set (remove (shown o.items ws) (suc b)) b) (entries_from us s t (s.len + u.len) place long ∙ cells_joined ws us (64 * s.place) (64 * u.place) s.len u.len (s.len + u.len) dest is refl (omega (arith, few, fits)) (omega (arith, few, wide)) copied);
        }

  pub pushed_shown : (left : List ℕ) (more vs : List (ℕ × V)) (place at : ℕ) (os : List Spot) (t : Spot) (x : ℕ × V) → IsFreed o.items left ws more place m → at ≡ 64 * place → vs ≡ slice_set more at x → os ≡ o.items ++ t ∷ [] → t.place ≡ place → t.len ≡ 1 → shown os vs ≡ shown o.items ws ++ (x ∷ []) ∷ []
  pushed_shown left more vs place at os t x h is written f t_place t_len =
      let its = h.its in
      let same = same_set more vs (64 * place) at x written (omega (arith, is)) (omega (arith, is)) in
      let all : shown o.items vs ≡ shown o.items ws = shown_but o.items more vs place (front_all (λ q. q ≢ place) (places o.items) left h.other) k.small same ∙ h.same in
      let one : entries_at vs t ≡ x ∷ [] =
      ap (λ j. take j (drop (64 * t.place) vs)) t_len ∙ ap (λ p. take 1 (drop (64 * p) vs)) t_place
      ∙ ap (λ zs. take 1 (drop (64 * place) zs)) (written ∙ ap (λ j. slice_set more j x) is) ∙ ap (take 1) (drop-set more (64 * place) x (omega (arith, its))) in
      ap (λ (ss : List Spot). shown ss vs) f ∙ shown_more o.items vs t ∙ ap (λ (xs : List (List (ℕ × V))). xs ++ entries_at vs t ∷ []) all ∙ ap (λ (y : List (ℕ × V)). shown o.items ws ++ y ∷ []) one
