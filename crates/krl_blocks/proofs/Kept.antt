-- What is kept after a change.
use Rattle.std.proofs.Common.{◌≡◌, ℕ, zero, suc, ◌+◌, ◌-◌, ◌*◌, ◌≤◌, ◌<◌, true, false, List, [], ◌∷◌, ◌++◌, length, take, drop, Option, Some, None, IfSome, MatchOption, refl, sym, ap, subst, ◌∙◌, arith, slice_set}
use Rattle.std.proofs.lemmas.Option.{slice_get_past}
use Rattle.std.proofs.lemmas.List.{length-append, length-set}
use Rattle.std.proofs.Math.Logic.{⊎_elim}
use Rattle.std.proofs.lemmas.Bool.{leb-true}
use Rattle.std.proofs.Permutation.{every_append}
use Rattle.std.specs.List.{AllByRecursion, slice_get, insert, remove}
use Rattle.std.specs.Global.{Vec}
use Rattle.std.specs.Prelude.{vec_capacity, nat_lt, nat_le}
use Rattle.krl_blocks.specs.Laid.{flat, Shelved, IsLaid, AreThick, AreNearlyThick, IsSmall, IsKept, IsHeld, IsNearly, IsShort, IsMergeable, IsInserted, IsRemoved, IsChanged, IsOneOther, NoKey, last_length, last_key, is_thin, AreHalved}
use Rattle.krl_blocks.specs.Shelves.{IsJoined, AreFew}
use Rattle.krl_blocks.proofs.Around.{all_set, all_remove, all_insert, all_at, remove_set, set_reads}
use Rattle.krl_blocks.proofs.Thick.{IsFilled, LeftIsThick, thick_set, thick_more, thick_halved, nearly, nearly_gone, nearly_none, merged_here, merged_before}
use Rattle.krl_blocks.proofs.Laying.{laid_filled, laid_lengths, gone_laid, merged_laid, topped_laid, last_length_is, same_laid, same_flat, changed_laid, changed_flat, removed_flat, put_laid, put_flat, push_laid, push_flat, absent}

pub one_more : {X : Type 0} (xs : List X) (x : X) → length (xs ++ x ∷ []) ≡ suc (length xs)
one_more [] x = refl
one_more (y ∷ xs) x = ap suc (one_more xs x)

length_join : {X : Type 0} (xs ys : List X) → length (xs ++ ys) ≡ length xs + length ys
length_join xs ys = length-append xs ys

pub at_some : {X : Type 0} (P : X → Type 0) (x : X) (o : Option X) → Some x ≡ o → IfSome o P → P x
at_some P x None e h = absurd (let bad : Some x ≡ None = e in cc)
at_some P x (Some y) e h = let same : y ≡ x = cc in subst P same h

pub some_at : {X : Type 0} (P : X → Type 0) (x : X) (o : Option X) → Some x ≡ o → P x → IfSome o P
some_at P x None e h = tt
some_at P x (Some y) e h = let same : x ≡ y = cc in subst P same h

pub same_there : {X : Type 0} (x y : X) (o : Option X) → Some x ≡ o → Some y ≡ o → x ≡ y
same_there x y o e f = let both : Some x ≡ Some y = e ∙ sym f in cc

pub read_within : {X : Type 0} (xs : List X) (i : ℕ) (x : X) → Some x ≡ slice_get xs i → i < length xs
read_within [] i x e = absurd (let bad : Some x ≡ None = e in cc)
read_within (y ∷ xs) zero x e = omega arith
read_within (y ∷ xs) (suc i) x e = let r = read_within xs i x e in omega (arith, r)

-- what stands within a list
pub read_some : {X : Type 0} (xs : List X) (i : ℕ) → i < length xs → (x : X) × (Some x ≡ slice_get xs i)
read_some [] i lt = absurd (omega (arith, lt))
read_some (x ∷ xs) zero lt = (x, refl)
read_some (x ∷ xs) (suc i) lt = read_some xs i (omega (arith, lt))

pub some_none : {X : Type 0} (P : X → Type 0) (xs : List X) (i : ℕ) → length xs ≤ i → IfSome (slice_get xs i) P
some_none {X = X} P xs i le = subst (λ (o : Option X). IfSome o P) (sym (slice_get_past xs i le)) tt

-- a part that is put in its own place
pub set_same : {X : Type 0} (xs : List X) (b : ℕ) (x : X) → Some x ≡ slice_get xs b → xs ≡ slice_set xs b x
set_same [] b x e = absurd (let bad : Some x ≡ None = e in cc)
set_same {X = X} (y ∷ xs) zero x e = let same : y ≡ x = cc in ap (λ (z : X). z ∷ xs) same
set_same {X = X} (y ∷ xs) (suc b) x e = ap (λ (zs : List X). y ∷ zs) (set_same xs b x e)

module _ {V : Type 0} where
  pub inserted_length : (es fs : List (ℕ × V)) (k : ℕ) (v : V) → IsInserted es fs k v → length fs ≡ suc (length es)
  inserted_length es fs k v i =
      let a = ap length i.old ∙ length_join i.front i.back in
      let b = ap length i.new ∙ length_join i.front ((k, v) ∷ i.back) in
      omega (arith, a, b)

  pub removed_length : (es fs : List (ℕ × V)) (k : ℕ) (v : V) → IsRemoved es fs k v → length es ≡ suc (length fs)
  removed_length es fs k v i =
      let a = ap length i.new ∙ length_join i.front i.back in
      let b = ap length i.old ∙ length_join i.front ((k, v) ∷ i.back) in
      omega (arith, a, b)

  pub changed_length : (es fs : List (ℕ × V)) (k : ℕ) (v was : V) → IsChanged es fs k v was → length fs ≡ length es
  changed_length es fs k v was i =
      let a = ap length i.old ∙ length_join i.front ((k, was) ∷ i.back) in
      let b = ap length i.new ∙ length_join i.front ((k, v) ∷ i.back) in
      omega (arith, a, b)

  -- which are thin
  pub thin_is : (xs : List (List (ℕ × V))) (j : ℕ) (p q : List (ℕ × V)) → Some p ≡ slice_get xs j → Some q ≡ slice_get xs (suc j) → is_thin xs j ≡ nat_le (length p + length q) 32
  thin_is [] j p q f g = absurd (let bad : Some p ≡ None = f in cc)
  thin_is (x ∷ []) zero p q f g = absurd (let bad : Some q ≡ None = g in cc)
  thin_is (x ∷ []) (suc j) p q f g = absurd (let bad : Some p ≡ None = f in cc)
  thin_is (x ∷ y ∷ xs) zero p q f g =
      let one : x ≡ p = cc in let two : y ≡ q = cc in
      ap (λ (w : List (ℕ × V)). nat_le (length w + length y) 32) one ∙ ap (λ (w : List (ℕ × V)). nat_le (length p + length w) 32) two
  thin_is (x ∷ y ∷ xs) (suc j) p q f g = thin_is (y ∷ xs) j p q f g

  pub thin_none : (xs : List (List (ℕ × V))) (j : ℕ) → length xs ≤ suc j → is_thin xs j ≡ false
  thin_none [] j le = refl
  thin_none (x ∷ []) j le = refl
  thin_none (x ∷ y ∷ xs) zero le = absurd (omega (arith, le))
  thin_none (x ∷ y ∷ xs) (suc j) le = thin_none (y ∷ xs) j (omega (arith, le))

  pub thin_within : (xs : List (List (ℕ × V))) (j : ℕ) → is_thin xs j ≡ true → suc j < length xs
  thin_within [] j e = absurd (let bad : false ≡ true = e in cc)
  thin_within (x ∷ []) j e = absurd (let bad : false ≡ true = e in cc)
  thin_within (x ∷ y ∷ xs) zero e = omega arith
  thin_within (x ∷ y ∷ xs) (suc j) e = let r = thin_within (y ∷ xs) j e in omega (arith, r)

  -- the neighbours that are thin have few entries
  pub thin_few : (xs : List (List (ℕ × V))) (j : ℕ) → is_thin xs j ≡ true → AreFew xs j
  thin_few [] j e = tt
  thin_few (x ∷ []) j e = tt
  thin_few (x ∷ y ∷ xs) zero e = let le = leb-true (length x + length y) 32 e in omega (arith, le)
  thin_few (x ∷ y ∷ xs) (suc j) e = thin_few (y ∷ xs) j e

  module _ (ts us : Vec ℕ) (s r : Shelved V) (k : IsKept ts s) (tops : vec_capacity ts ≤ vec_capacity us) (most : r.most ≡ s.most) where
    make : IsLaid 0 us.items r.blocks → AreThick 64 r.blocks → AllByRecursion IsSmall r.blocks → IsKept us r
    make a b c = record {
      laid = a;
      thick = b;
      small = c;
      tops = let h = k.tops in omega (arith, h, tops, most);
    }

    -- a block has other entries, and no fewer
    pub set_kept : (b : ℕ) (x y : List (ℕ × V)) → Some x ≡ slice_get s.blocks b → r.blocks ≡ slice_set s.blocks b y → length x ≤ length y → length y ≤ 64 → IsLaid 0 us.items r.blocks → IsKept us r
    set_kept b x y at e le few laid =
        make laid
        (subst (λ (zs : List (List (ℕ × V))). AreThick 64 zs) (sym e) (thick_set 64 s.blocks b x y k.thick at le))
        (subst (λ (zs : List (List (ℕ × V))). AllByRecursion IsSmall zs) (sym e) (all_set IsSmall s.blocks b y k.small few))

    -- a block of one entry comes after the others
    pub append_kept : (y : List (ℕ × V)) → r.blocks ≡ s.blocks ++ y ∷ [] → length y ≡ 1 → 64 ≤ last_length 64 s.blocks → IsLaid 0 us.items r.blocks → IsKept us r
    append_kept y f one full laid =
        make laid
        (subst (λ (zs : List (List (ℕ × V))). AreThick 64 zs) (sym f) (thick_more 64 s.blocks y k.thick (omega (arith, full))))
        (subst (λ (zs : List (List (ℕ × V))). AllByRecursion IsSmall zs) (sym f) (every_append IsSmall s.blocks (y ∷ []) k.small (omega (arith, one), tt)))

    -- a block is parted
    pub part_kept : (b top : ℕ) (h : AreHalved s.blocks r.blocks b top) → IsLaid 0 us.items r.blocks → IsKept us r
    part_kept b top h laid =
        let low = h.halved.some in let high = h.halved.others in
        make laid
        (subst (λ (zs : List (List (ℕ × V))). AreThick 64 zs) (sym h.blocks) (thick_halved 64 s.blocks b h.block h.lower h.upper (omega arith) (laid_filled 0 ts.items s.blocks k.laid) k.thick h.there (omega (arith, low)) (omega (arith, high))))
        (subst (λ (zs : List (List (ℕ × V))). AllByRecursion IsSmall zs) (sym h.blocks) (all_insert IsSmall (slice_set s.blocks b h.lower) (suc b) h.upper (all_set IsSmall s.blocks b h.lower k.small (omega (arith, low))) (omega (arith, high))))

  module _ (ts us : Vec ℕ) (s r : Shelved V) (tops : vec_capacity ts ≤ vec_capacity us) (most : r.most ≡ s.most) where
    -- the block at b is empty, and goes
    pub discard_kept : (b : ℕ) (short : IsShort ts s b) (y : List (ℕ × V)) → Some y ≡ slice_get s.blocks b → y ≡ [] → us.items ≡ remove ts.items b → r.blocks ≡ remove s.blocks b → IsKept us r
    discard_kept b h y at none e f =
        let one = h.one in
        let same : y ≡ one.other = same_there y one.other (slice_get s.blocks b) at (set_reads h.was b one.block one.other one.there ∙ ap (λ (zs : List (List (ℕ × V))). slice_get zs b) (sym one.new)) in
        let len : length one.block ≡ suc (length one.other) = removed_length one.block one.other h.key h.value one.how in
        let empty : length one.other ≡ 0 = ap length (sym same) ∙ ap length none in
        let left : r.blocks ≡ remove h.was b = f ∙ ap (λ (zs : List (List (ℕ × V))). remove zs b) one.new ∙ remove_set h.was b one.other in
        record {
          laid = subst (λ (ns : List ℕ). IsLaid 0 ns r.blocks) (sym e) (subst (λ (zs : List (List (ℕ × V))). IsLaid 0 (remove ts.items b) zs) (sym left) (gone_laid 0 ts.items h.was b h.laid));
          thick = subst (λ (zs : List (List (ℕ × V))). AreThick 64 zs) (sym left) (nearly_gone 64 h.was b one.block one.other h.thick one.there (omega (arith, len, empty)));
          small = subst (λ (zs : List (List (ℕ × V))). AllByRecursion IsSmall zs) (sym left) (all_remove IsSmall h.was b h.small);
          tops = let c = h.tops in omega (arith, c, tops, most);
        }

    -- two thin blocks are one
    pub merge_kept : (j : ℕ) (h : IsMergeable ts s j) (o : IsJoined s.blocks r.blocks j) → us.items ≡ remove ts.items j → IsKept us r
    merge_kept j h o e =
        let k = h.nearly in
        let p = o.lower in let q = o.upper in
        let few : length p + length q ≤ 32 = leb-true (length p + length q) 32 (sym (thin_is s.blocks j p q o.first o.second) ∙ h.thin) in
        let len : length (p ++ q) ≡ length p + length q = length_join p q in
        let filled = laid_filled 0 ts.items s.blocks k.laid in
        let thick : AreThick 64 (slice_set (remove s.blocks (suc j)) j (p ++ q)) = ⊎_elim
        (λ (same : h.b ≡ j). merged_here 64 j s.blocks p q (p ++ q) filled (subst (λ b. AreNearlyThick 64 b s.blocks) same k.nearly) o.first o.second len)
        (λ (same : h.b ≡ suc j). merged_before 64 j s.blocks p q (p ++ q) filled (subst (λ b. AreNearlyThick 64 b s.blocks) same k.nearly) o.first o.second len) h.near in
        record {
          laid = subst (λ (ns : List ℕ). IsLaid 0 ns r.blocks) (sym e) (subst (λ (zs : List (List (ℕ × V))). IsLaid 0 (remove ts.items j) zs) (sym o.new) (merged_laid 0 ts.items s.blocks j p q (p ++ q) k.laid o.first o.second refl));
          thick = subst (λ (zs : List (List (ℕ × V))). AreThick 64 zs) (sym o.new) thick;
          small = subst (λ (zs : List (List (ℕ × V))). AllByRecursion IsSmall zs) (sym o.new) (all_set IsSmall (remove s.blocks (suc j)) j (p ++ q) (all_remove IsSmall s.blocks (suc j) k.small) (omega (arith, len, few)));
          tops = let c = k.tops in omega (arith, c, tops, most);
        }

  -- the top of the block at b is its last key again
  pub nearly_kept : (ts us : Vec ℕ) (s : Shelved V) (b top : ℕ) (h : IsShort ts s b) (y : List (ℕ × V)) → vec_capacity ts ≤ vec_capacity us → Some y ≡ slice_get s.blocks b → last_key None y ≡ Some top → us.items ≡ slice_set ts.items b top → IsNearly us s b
  nearly_kept ts us s b top h y cap at last e =
      let one = h.one in
      let same : y ≡ one.other = same_there y one.other (slice_get s.blocks b) at (set_reads h.was b one.block one.other one.there ∙ ap (λ (zs : List (List (ℕ × V))). slice_get zs b) (sym one.new)) in
      let len : length one.block ≡ suc (length one.other) = removed_length one.block one.other h.key h.value one.how in
      let its_last : last_key None one.other ≡ Some top = ap (last_key None) (sym same) ∙ last in
      let was_small = all_at IsSmall h.was b one.block one.there h.small in
      record {
        laid = subst (λ (ns : List ℕ). IsLaid 0 ns s.blocks) (sym e) (subst (λ (zs : List (List (ℕ × V))). IsLaid 0 (slice_set ts.items b top) zs) (sym one.new) (topped_laid 0 h.key h.value top ts.items h.was b one.block one.other h.laid one.there one.how its_last));
        nearly = subst (λ (zs : List (List (ℕ × V))). AreNearlyThick 64 b zs) (sym one.new) (nearly 64 h.was b one.block one.other h.thick one.there len);
        small = subst (λ (zs : List (List (ℕ × V))). AllByRecursion IsSmall zs) (sym one.new) (all_set IsSmall h.was b one.other h.small (omega (arith, was_small, len)));
        tops = let c = h.tops in omega (arith, c, cap);
      }

  left_is_thick : (b : ℕ) (xs : List (List (ℕ × V))) → (0 < b → is_thin xs (b - 1) ≡ false) → LeftIsThick 64 b xs
  left_is_thick zero [] h = tt
  left_is_thick zero (x ∷ xs) h = omega arith
  left_is_thick (suc b) xs h = subst (λ n. is_thin xs n ≡ false) (let e : suc b - 1 ≡ b = omega arith in e) (h (omega arith))

  -- none of its neighbours is thin
  pub none_kept : (ts : Vec ℕ) (s : Shelved V) (b : ℕ) → IsNearly ts s b → is_thin s.blocks b ≡ false → (0 < b → is_thin s.blocks (b - 1) ≡ false) → IsKept ts s
  none_kept ts s b h e f = record {
    laid = h.laid;
    thick = nearly_none 64 b s.blocks h.nearly e (left_is_thick b s.blocks f);
    small = h.small;
    tops = h.tops;
  }

  -- an entry less in the block at b
  pub short_of : (ts : Vec ℕ) (s r : Shelved V) (b k : ℕ) (v : V) → IsKept ts s → r.most ≡ s.most → AllByRecursion (λ t. nat_lt t k ≡ true) (take b ts.items) → AllByRecursion (λ t. nat_lt t k ≡ false) (drop b ts.items) → IsOneOther s.blocks r.blocks b (λ x y. IsRemoved x y k v) → IsShort ts r b
  short_of ts s r b k v h most below rest one = record {
    was = s.blocks;
    key = k;
    value = v;
    one = one;
    below = below;
    rest = rest;
    laid = h.laid;
    thick = h.thick;
    small = h.small;
    tops = let c = h.tops in omega (arith, c, most);
  }

  pub short_within : (ts : Vec ℕ) (s : Shelved V) (b : ℕ) → IsShort ts s b → b < length s.blocks
  short_within ts s b h = let lt = read_within h.was b h.one.block h.one.there in let n : length s.blocks ≡ length h.was = ap length h.one.new ∙ length-set h.was b h.one.other in omega (arith, lt, n)

  pub short_lengths : (ts : Vec ℕ) (s : Shelved V) (b : ℕ) → IsShort ts s b → length ts.items ≡ length s.blocks
  short_lengths ts s b h = laid_lengths 0 ts.items h.was h.laid ∙ sym (ap length h.one.new ∙ length-set h.was b h.one.other)

-- A number more

module _ (P : ℕ → Type 0) where
  pub take_past : (ts : List ℕ) (b top : ℕ) → AllByRecursion P (take b ts) → P top → AllByRecursion P (take (suc b) (insert ts b top))
  take_past [] zero top h p = (p, tt)
  take_past (t ∷ ts) zero top h p = (p, tt)
  take_past [] (suc b) top h p = (p, tt)
  take_past (t ∷ ts) (suc b) top h p = (h.0, take_past ts b top h.1 p)

  pub drop_past : (ts : List ℕ) (b top : ℕ) → AllByRecursion P (drop b ts) → AllByRecursion P (drop (suc b) (insert ts b top))
  drop_past [] zero top h = tt
  drop_past (t ∷ ts) zero top h = h
  drop_past [] (suc b) top h = tt
  drop_past (t ∷ ts) (suc b) top h = drop_past ts b top h

  pub take_to : (ts : List ℕ) (b top : ℕ) → b ≤ length ts → AllByRecursion P (take b ts) → AllByRecursion P (take b (insert ts b top))
  take_to [] zero top le h = tt
  take_to (t ∷ ts) zero top le h = tt
  take_to [] (suc b) top le h = absurd (omega (arith, le))
  take_to (t ∷ ts) (suc b) top le h = (h.0, take_to ts b top (omega (arith, le)) h.1)

  pub drop_to : (ts : List ℕ) (b top : ℕ) → b ≤ length ts → AllByRecursion P (drop b ts) → P top → AllByRecursion P (drop b (insert ts b top))
  drop_to [] zero top le h p = (p, tt)
  drop_to (t ∷ ts) zero top le h p = (p, h)
  drop_to [] (suc b) top le h p = absurd (omega (arith, le))
  drop_to (t ∷ ts) (suc b) top le h p = drop_to ts b top (omega (arith, le)) h p

-- the halves of a parted block
pub reads_lower : {X : Type 0} (xs : List X) (b : ℕ) (x l u : X) → Some x ≡ slice_get xs b → Some l ≡ slice_get (insert (slice_set xs b l) (suc b) u) b
reads_lower [] b x l u e = absurd (let bad : Some x ≡ None = e in cc)
reads_lower (y ∷ xs) zero x l u e = refl
reads_lower (y ∷ xs) (suc b) x l u e = reads_lower xs b x l u e

pub reads_upper : {X : Type 0} (xs : List X) (b : ℕ) (x l u : X) → Some x ≡ slice_get xs b → Some u ≡ slice_get (insert (slice_set xs b l) (suc b) u) (suc b)
reads_upper [] b x l u e = absurd (let bad : Some x ≡ None = e in cc)
reads_upper (y ∷ xs) zero x l u e = refl
reads_upper (y ∷ xs) (suc b) x l u e = reads_upper xs b x l u e

pub full_at : {V : Type 0} (xs : List (List (ℕ × V))) (b : ℕ) (x : List (ℕ × V)) → AllByRecursion IsSmall xs → Some x ≡ slice_get xs b → 64 ≤ length x → IfSome (slice_get xs b) (λ y. length y ≡ 64)
full_at xs b x h e le = some_at (λ y. length y ≡ 64) x (slice_get xs b) e (let few = all_at IsSmall xs b x e h in omega (arith, few, le))

-- what stands before one that is taken away
pub before_reads : {X : Type 0} (xs : List X) (j i : ℕ) (x : X) → j < i → Some x ≡ slice_get (remove xs i) j → Some x ≡ slice_get xs j
before_reads [] j zero x lt e = e
before_reads [] j (suc i) x lt e = e
before_reads (y ∷ xs) j zero x lt e = absurd (omega (arith, lt))
before_reads (y ∷ xs) zero (suc i) x lt e = e
before_reads (y ∷ xs) (suc j) (suc i) x lt e = before_reads xs j i x (omega (arith, lt)) e

-- the lengths of neighbours
pub few_at : {V : Type 0} (xs : List (List (ℕ × V))) (b : ℕ) (p q : List (ℕ × V)) → Some p ≡ slice_get xs b → Some q ≡ slice_get xs (suc b) → AreFew xs b → length p + length q ≤ 64
few_at [] b p q f g h = absurd (let bad : Some p ≡ None = f in cc)
few_at (x ∷ []) zero p q f g h = absurd (let bad : Some q ≡ None = g in cc)
few_at (x ∷ []) (suc b) p q f g h = absurd (let bad : Some p ≡ None = f in cc)
few_at (x ∷ y ∷ xs) zero p q f g h =
    let one : x ≡ p = cc in let two : y ≡ q = cc in
    subst (λ (w : List (ℕ × _)). length p + length w ≤ 64) two (subst (λ (w : List (ℕ × _)). length w + length y ≤ 64) one h)
few_at (x ∷ y ∷ xs) (suc b) p q f g h = few_at (y ∷ xs) b p q f g h

-- The last block, and what a call answered

pub all_of_take : {X : Type 0} (P : X → Type 0) (xs : List X) (b : ℕ) → length xs ≤ b → AllByRecursion P (take b xs) → AllByRecursion P xs
all_of_take P [] b le h = tt
all_of_take P (x ∷ xs) zero le h = absurd (omega (arith, le))
all_of_take P (x ∷ xs) (suc b) le h = (h.0, all_of_take P xs b (omega (arith, le)) h.1)

module _ {V : Type 0} where
  pub last_some : (xs : List (List (ℕ × V))) → last_length 64 xs < 64 → 0 < length xs
  last_some [] lt = absurd (omega (arith, lt))
  last_some (x ∷ xs) lt = omega arith

  pub last_at : (b : ℕ) (xs : List (List (ℕ × V))) (o : Option (List (ℕ × V))) → suc b ≡ length xs → o ≡ slice_get xs b → last_length 64 xs < 64 → IfSome o (λ x. length x < 64)
  last_at b xs None last e lt = tt
  last_at b xs (Some x) last e lt = let n = last_length_is 64 b xs x last e in omega (arith, n, lt)

  module _ (k : ℕ) (ts : Vec ℕ) (s r : Shelved V) (b : ℕ) (kept : IsKept ts s) (most : r.most ≡ s.most) (below : AllByRecursion (λ t. nat_lt t k ≡ true) (take b ts.items)) (from : AllByRecursion (λ t. nat_lt t k ≡ false) (drop b ts.items)) where
    same_kept : (x y : List (ℕ × V)) → Some x ≡ slice_get s.blocks b → r.blocks ≡ slice_set s.blocks b y → y ≡ x → IsKept ts r
    same_kept x y there e same =
        let len : length y ≡ length x = ap length same in
        let few = all_at IsSmall s.blocks b x there kept.small in
        set_kept ts ts s r kept (omega arith) most b x y there e (omega (arith, len)) (omega (arith, len, few))
        (subst (λ (zs : List (List (ℕ × V))). IsLaid 0 ts.items zs) (sym e) (same_laid ts.items s.blocks b x y kept.laid there same))

    abbrev Taken : Option V → Type 0
    Taken o = IsOneOther s.blocks r.blocks b (λ x y. MatchOption o (NoKey k x × (y ≡ x)) (λ w. IsRemoved x y k w))

    pub taken_none_kept : Taken None → IsKept ts r
    taken_none_kept one = same_kept one.block one.other one.there one.new one.how.1

    pub taken_none : Taken None → NoKey k (flat s.blocks) × (flat r.blocks ≡ flat s.blocks)
    taken_none one = (absent k ts.items s.blocks b kept.laid below from one.block one.there one.how.0, ap flat one.new ∙ same_flat s.blocks b one.block one.other one.there one.how.1)

    pub taken_some : (w : V) → Taken (Some w) → IsRemoved (flat s.blocks) (flat r.blocks) k w
    taken_some w one = subst (λ (zs : List (List (ℕ × V))). IsRemoved (flat s.blocks) (flat zs) k w) (sym one.new) (removed_flat k w ts.items s.blocks kept.laid b below from one.block one.other one.there one.how)

  module _ (k : ℕ) (v : V) (ts : Vec ℕ) (s r : Shelved V) (b : ℕ) (kept : IsKept ts s) (most : r.most ≡ s.most) (below : AllByRecursion (λ t. nat_lt t k ≡ true) (take b ts.items)) (from : AllByRecursion (λ t. nat_lt t k ≡ false) (drop b ts.items)) where
    abbrev Changed : Option V → Type 0
    Changed o = IsOneOther s.blocks r.blocks b (λ x y. MatchOption o (NoKey k x × (y ≡ x)) (λ was. IsChanged x y k v was))

    pub changed_kept : (o : Option V) → Changed o → IsKept ts r
    changed_kept None one = same_kept k ts s r b kept most below from one.block one.other one.there one.new one.how.1
    changed_kept (Some was) one =
        let len = changed_length one.block one.other k v was one.how in
        let few = all_at IsSmall s.blocks b one.block one.there kept.small in
        set_kept ts ts s r kept (omega arith) most b one.block one.other one.there one.new (omega (arith, len)) (omega (arith, len, few))
        (subst (λ (zs : List (List (ℕ × V))). IsLaid 0 ts.items zs) (sym one.new) (changed_laid k v was ts.items s.blocks b one.block one.other kept.laid one.there one.how))

    pub changed_answer : (o : Option V) → Changed o → MatchOption o (NoKey k (flat s.blocks) × (flat r.blocks ≡ flat s.blocks)) (λ was. IsChanged (flat s.blocks) (flat r.blocks) k v was)
    changed_answer None one = (absent k ts.items s.blocks b kept.laid below from one.block one.there one.how.0, ap flat one.new ∙ same_flat s.blocks b one.block one.other one.there one.how.1)
    changed_answer (Some was) one = subst (λ (zs : List (List (ℕ × V))). IsChanged (flat s.blocks) (flat zs) k v was) (sym one.new) (changed_flat k v ts.items s.blocks kept.laid b below from one.block one.other one.there was one.how)

    pub inserted_kept : NoKey k (flat s.blocks) → IfSome (slice_get s.blocks b) (λ x. length x < 64) → IsOneOther s.blocks r.blocks b (λ x y. IsInserted x y k v) → IsKept ts r
    inserted_kept new room one =
        let len = inserted_length one.block one.other k v one.how in
        let few = at_some (λ x. length x < 64) one.block (slice_get s.blocks b) one.there room in
        set_kept ts ts s r kept (omega arith) most b one.block one.other one.there one.new (omega (arith, len)) (omega (arith, len, few))
        (subst (λ (zs : List (List (ℕ × V))). IsLaid 0 ts.items zs) (sym one.new) (put_laid k v ts.items s.blocks kept.laid b below from one.block one.other one.there new one.how))

    pub inserted_all : NoKey k (flat s.blocks) → IsOneOther s.blocks r.blocks b (λ x y. IsInserted x y k v) → IsInserted (flat s.blocks) (flat r.blocks) k v
    inserted_all new one = subst (λ (zs : List (List (ℕ × V))). IsInserted (flat s.blocks) (flat zs) k v) (sym one.new) (put_flat k v ts.items s.blocks kept.laid b below from one.block one.other one.there new one.how)

  module _ (k : ℕ) (v : V) (ts us : Vec ℕ) (s r : Shelved V) (b : ℕ) (kept : IsKept ts s) (caps : vec_capacity ts ≤ vec_capacity us) (most : r.most ≡ s.most) (below : AllByRecursion (λ t. nat_lt t k ≡ true) ts.items) (last : suc b ≡ length s.blocks) (one : IsOneOther s.blocks r.blocks b (λ x y. y ≡ x ++ (k, v) ∷ [])) where
    pub pushed_kept : us.items ≡ slice_set ts.items b k → last_length 64 s.blocks < 64 → IsKept us r
    pushed_kept e lt =
        let len = ap length one.how ∙ one_more one.block (k, v) in
        let few = last_length_is 64 b s.blocks one.block last one.there in
        set_kept ts us s r kept caps most b one.block one.other one.there one.new (omega (arith, len)) (omega (arith, len, few, lt))
        (subst (λ (ns : List ℕ). IsLaid 0 ns r.blocks) (sym e) (subst (λ (zs : List (List (ℕ × V))). IsLaid 0 (slice_set ts.items b k) zs) (sym one.new) (push_laid k v ts.items s.blocks kept.laid below b one.block one.other last one.there one.how)))

    pub pushed_all : IsInserted (flat s.blocks) (flat r.blocks) k v
    pushed_all = subst (λ (zs : List (List (ℕ × V))). IsInserted (flat s.blocks) (flat zs) k v) (sym one.new) (push_flat k v ts.items s.blocks kept.laid below b one.block one.other last one.there one.how)

pub last_index : (n m : ℕ) → n ≡ m → 0 < m → suc (n - 1) ≡ m
last_index n m e some = omega (arith, e, some)

-- few blocks, if neighbours are not thin
pub few_blocks : {V : Type 0} (n : ℕ) (xs : List (List (ℕ × V))) → AllByRecursion IsFilled xs → AreThick n xs → 16 * length xs ≤ length (flat xs) + 15
few_blocks n [] each h = omega arith
few_blocks n (x ∷ []) each h = let some = each.0 in let a = length_join x [] in omega (arith, some, a)
few_blocks n (x ∷ y ∷ xs) each h =
    let ih = few_blocks (length y) xs each.1.1 h.1.1 in
    let a = length_join x (y ++ flat xs) in
    let b = length_join y (flat xs) in
    let both = h.1.0 in
    omega (arith, ih, a, b, both)

-- so if there is room for an entry there is room for a block
pub some_room : {V : Type 0} (ts : Vec ℕ) (s : Shelved V) (len room : ℕ) → IsHeld ts s len room → length (flat s.blocks) < room → length s.blocks < s.most
some_room ts s len room h lt =
    let k = h.kept in
    let few = few_blocks 64 s.blocks (laid_filled 0 ts.items s.blocks k.laid) k.thick in
    let r = h.fits in
    omega (arith, few, r, lt)
