-- The server of the bound's epoch raises a row, or obeys a release.
use Rattle.krl_failover.proofs.Machine.Names.{◌≡◌, ◌≢◌, ℕ, false, Option, refl, sym, subst, arith, In, RangePart, KeyPart, RangesAgree, KeysAgree, Value}
use Rattle.krl_failover.proofs.Machine.Names.{Recovering, Release, Link, IsRow, IsSlot, SlotLowered}
use Rattle.krl_failover.proofs.Machine.Names.{Changed}
use Rattle.krl_machine.proofs.Basics.{Inv}
use Rattle.krl_machine.proofs.Runs.{all_agree, raise_inv}
use Rattle.krl_machine.proofs.Writes.{history_link}
use Rattle.krl_failover.specs.Fenced.{Fenced, IsHere}
use Rattle.krl_machine.proofs.RowChanges.{Below, cut_falls}
use Rattle.krl_failover.proofs.Machine.Basics.{Extra, Old, Top, Gather}
use Rattle.krl_failover.proofs.Machine.BoundRows.{raised_top, cut_inv, cut_top}
use Rattle.krl_failover.proofs.Machine.Invariant.{Past, FencedInv, link_at, changed_world, phase_serves}

-- The last server that served raises a row

pub raises_kept : (index : ℕ → Option Value) (f : Fenced) (c : ℕ) (range : ℕ → RangePart) (key : ℕ → KeyPart) (links : ℕ → Link) →
    IsRow f.world.shared range key →
    ((q : ℕ) → Below ((f.world.links c).top_range q) ((f.world.links c).top_key q) (range q) (key q)) →
    ((d : ℕ) → d ≢ c → (q : ℕ) → RangesAgree (range q) ((f.world.links d).top_range q) × KeysAgree (key q) ((f.world.links d).top_key q)) →
    Changed f.world.links links c (record (f.world.links c) { top_range = range; top_key = key }) →
    FencedInv index f → FencedInv index (record f { world = record f.world { links = links } })
raises_kept index f c range key links row up agrees ch v =
    let s = f.world.shared in
    let l : Link = record (f.world.links c) { top_range = range; top_key = key } in
    record {
      world = record {
        links = λ d. link_at ch d (Inv s) (λ a. raise_inv s (f.world.links c) range key (v.world.links c) row up) (λ ne. v.world.links d);
        agree = all_agree s s f.world.links links c l ch agrees v.world.agree;
      };
      history = history_link index f.world c l links ch refl v.history (v.history.each c);
      extra = λ d. link_at ch d (Extra s) (λ a. v.extra c) (λ ne. v.extra d);
      old = λ x d o x_lt. link_at ch d (λ m. Old s m x (f.old x d)) (λ a. subst (λ y. Old s l x (f.old x y)) (sym a) (v.old x c o x_lt)) (λ ne. v.old x d o x_lt);
      some = v.some;
      phase = v.phase;
      copies = v.copies;
      mono = v.mono;
      top = λ rec x d le x_lt. link_at ch d (λ m. Top s m x (f.old x d)) (λ a. subst (λ y. Top s l x (f.old x y)) (sym a) (raised_top s (f.world.links c) range key x (f.old x c) up (v.top rec x c le x_lt))) (λ ne. v.top rec x d le x_lt);
      gather = λ rec x d low x_lt. link_at ch d (λ m. Gather s m x (f.old x d)) (λ a. subst (λ y. Gather s l x (f.old x y)) (sym a) (v.gather rec x c low x_lt)) (λ ne. v.gather rec x d low x_lt);
      pair = λ rec x y d o lt2 low y_lt m. link_at ch d (λ k. Past k y (f.old x d)) (λ a. subst (λ w. Past l y (f.old x w)) (sym a) (v.pair rec x y c o lt2 low y_lt (subst (λ w. (f.old y w).missing ≡ false) a m))) (λ ne. v.pair rec x y d o lt2 low y_lt m);
      past = λ rec x d o x_lt. link_at ch d (λ m. Past m f.bound (f.old x d)) (λ a. subst (λ y. Past l f.bound (f.old x y)) (sym a) (v.past rec x c o x_lt)) (λ ne. v.past rec x d o x_lt);
    }

-- It obeys a release

pub releases_kept : (index : ℕ → Option Value) (f : Fenced) (c : ℕ) (r : Release) (range : ℕ → RangePart) (key : ℕ → KeyPart) (links : ℕ → Link) →
    f.world.shared.phase ≡ Recovering → IsHere (f.world.links c) (f.old f.bound c) →
    In r (f.world.links c).releases → r.head.inc ≡ (f.old f.bound c).reg → r.head.epoch ≡ f.bound → r.head.seen ≡ (f.old f.bound c).last →
    ((n : ℕ) → IsSlot f.world.shared n → SlotLowered f.world.shared r (f.world.links c) range key n) → IsRow f.world.shared range key →
    Changed f.world.links links c (record (f.world.links c) { top_range = range; top_key = key }) →
    FencedInv index f → FencedInv index (record f { world = record f.world { links = links } })
releases_kept index f c r range key links rec here at inc epoch seen slots row ch v =
    let s = f.world.shared in
    let b_lt = phase_serves s f.bound v.phase rec in
    let l : Link = record (f.world.links c) { top_range = range; top_key = key } in
    let i = v.world.links c in
    let o = v.old f.bound c v.some b_lt in
    let t = v.top rec f.bound c (omega arith) b_lt in
    record {
      world = changed_world index f c l links v ch (cut_inv s (f.world.links c) f.bound (f.old f.bound c) r range key i o t rec b_lt here at inc epoch seen slots row)
          (cut_falls s (f.world.links c) r range key row i.rows.top slots);
      history = history_link index f.world c l links ch refl v.history (v.history.each c);
      extra = λ d. link_at ch d (Extra s) (λ a. v.extra c) (λ ne. v.extra d);
      old = λ x d one x_lt. link_at ch d (λ m. Old s m x (f.old x d)) (λ a. subst (λ y. Old s l x (f.old x y)) (sym a) (v.old x c one x_lt)) (λ ne. v.old x d one x_lt);
      some = v.some;
      phase = v.phase;
      copies = v.copies;
      mono = v.mono;
      top = λ g x d le x_lt. link_at ch d (λ m. Top s m x (f.old x d)) (λ a. subst (λ y. Top s l x (f.old x y)) (sym a) (cut_top s (f.world.links c) f.bound (f.old f.bound c) r range key i o t rec b_lt here at inc epoch seen slots row x (f.old x c) le (v.top g x c le x_lt))) (λ ne. v.top g x d le x_lt);
      gather = λ g x d low x_lt. link_at ch d (λ m. Gather s m x (f.old x d)) (λ a. subst (λ y. Gather s l x (f.old x y)) (sym a) (v.gather g x c low x_lt)) (λ ne. v.gather g x d low x_lt);
      pair = λ g x y d one lt2 low y_lt m. link_at ch d (λ k. Past k y (f.old x d)) (λ a. subst (λ w. Past l y (f.old x w)) (sym a) (v.pair g x y c one lt2 low y_lt (subst (λ w. (f.old y w).missing ≡ false) a m))) (λ ne. v.pair g x y d one lt2 low y_lt m);
      past = λ g x d one x_lt. link_at ch d (λ m. Past m f.bound (f.old x d)) (λ a. subst (λ y. Past l f.bound (f.old x y)) (sym a) (v.past g x c one x_lt)) (λ ne. v.past g x d one x_lt);
    }
