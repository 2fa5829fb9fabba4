use Rattle.krl_table.proofs.Names.{◌<◌, ◌≡◌, ◌≤◌, ℕ, true, [], sym, ap, subst, ◌∙◌, arith, END, Mode, lets_insert, range_of, Index, slot_of, IsSlotOf, mode_at, split, range_at, key_at, MayInsert}
use Rattle.krl_table.proofs.Names.{Kept, rows_of, IsOver, extent_in, Lies}
use Rattle.krl_modes.specs.declared.mode.Mode.TheVariants as mode
use Rattle.krl_table.proofs.Invariant.Sounds.{held_row}
use Rattle.krl_table.proofs.Invariant.Rooms.{room_new}
use Rattle.krl_table.proofs.Calls.Splits.{apart, split_rows, split_listed, split_sound, split_over, split_ranges, split_keys, split_own}
use Rattle.krl_table.proofs.Invariant.Within.{split_within}
use Rattle.krl_table.proofs.table.Table.split.Goals as goal

-- a client that may insert holds something
holds : (g : Mode) → lets_insert (range_of g) ≡ true → g ≡ mode.N → ⊥
holds g e f = let bad : lets_insert (range_of mode.N) ≡ true = subst (λ x. lets_insert (range_of x) ≡ true) f e in absurd (cc)

-- the slot of the key, as it was found
found : (m : Index) (p k s : ℕ) → p ≡ k → p ≤ END → (p ≤ END → IsSlotOf m p s) → IsSlotOf m k s
found m p k s e le h = subst (λ x. IsSlotOf m x s) e (h le)

may_there : (m : Index) (t x : Kept) (k s c : ℕ) → x ≡ t → s ≡ slot_of m k → MayInsert (rows_of t) (slot_of m k) c → lets_insert (range_of (mode_at (rows_of x) s c)) ≡ true
may_there m t x k s c e f h = subst (λ y. lets_insert (range_of (mode_at (rows_of y) s c)) ≡ true) (sym e) (subst (λ n. lets_insert (range_of (mode_at (rows_of t) n c)) ≡ true) (sym f) h)

pub part-requires : goal.part-requires
part-requires c =
    let m = c.args.durable.now.index in let t = c.self.inside.rows.map in let s = c.slot_of-slot.result in let k = c.args.key in
    let at = found m c.get.result k s c.get.ensures.number c.get.ensures.in_range c.slot_of-slot.ensures.least in
    let may = may_there m c.args.self.now.map t k s c.args.client (ap (λ s. s.map) c.self.view_is) (c.slot_of-slot.ensures.slot ∙ ap (slot_of m) c.get.ensures.number) c.requires.may in
    record {
      there = held_row t s c.args.client (holds (mode_at (rows_of t) s c.args.client) may);
      apart = apart m k s [] c.requires.over.near c.requires.key c.requires.free at;
      room = λ none. room_new m t (subst (IsOver m) (sym (ap (λ s. s.map) c.self.view_is)) c.requires.over) c.args.durable.now.room c.self.inside.rows.room (subst (λ s. c.args.durable.now.room < s.room) (sym c.self.view_is) c.requires.rows) c.requires.room;
      client = c.requires.client;
    }

pub invariant_of-self : goal.invariant_of-self
invariant_of-self c =
    let m = c.args.durable.now.index in let t = c.self.inside.rows.map in let u = c.part.new.rows.map in let s = c.slot_of-slot.result in let k = c.args.key in
    let at = found m c.get.result k s c.get.ensures.number c.get.ensures.in_range c.slot_of-slot.ensures.least in
    let may = may_there m c.args.self.now.map t k s c.args.client (ap (λ s. s.map) c.self.view_is) (c.slot_of-slot.ensures.slot ∙ ap (slot_of m) c.get.ensures.number) c.requires.may in
    let over = subst (IsOver m) (sym (ap (λ s. s.map) c.self.view_is)) c.requires.over in (
      split_sound m k s [] c.requires.over.near c.requires.key c.requires.free at t u c.args.client over c.self.invariant.0 c.requires.client may c.part.ensures.set,
      split_listed m k s [] c.requires.over.near c.requires.key c.requires.free at t u c.args.client over c.self.invariant.0 c.requires.client may c.part.ensures.set c.self.inside.waiting.by_client c.self.invariant.1,
      split_within c.self.inside.extents.by_client c.follow.new.self.by_client t u k s c.args.client c.follow.ensures.wider c.self.invariant.2
          (λ d lt h. subst (Lies (extent_in c.follow.new.self.by_client d)) c.get-2.ensures.number (c.follow.ensures.there d lt h)) may c.part.ensures.set,
    )

pub returns-clause-split : goal.returns-clause-split
returns-clause-split c n =
    let m = c.args.durable.now.index in let t = c.self.inside.rows.map in let u = c.part.new.rows.map in let s = c.slot_of-slot.result in let k = c.args.key in
    let at = found m c.get.result k s c.get.ensures.number c.get.ensures.in_range c.slot_of-slot.ensures.least in
    let may = may_there m c.args.self.now.map t k s c.args.client (ap (λ s. s.map) c.self.view_is) (c.slot_of-slot.ensures.slot ∙ ap (slot_of m) c.get.ensures.number) c.requires.may in
    let over = subst (IsOver m) (sym (ap (λ s. s.map) c.self.view_is)) c.requires.over in
    split_rows m k s [] c.requires.over.near c.requires.key c.requires.free at t u c.args.client over c.self.invariant.0 c.requires.client may c.part.ensures.set n
    ∙ ap (λ x. split m (rows_of x) k c.args.client n) (ap (λ s. s.map) c.self.view_is)

pub returns-clause-slots : goal.returns-clause-slots
returns-clause-slots c v =
    let m = c.args.durable.now.index in let t = c.self.inside.rows.map in let u = c.part.new.rows.map in let s = c.slot_of-slot.result in let k = c.args.key in
    let at = found m c.get.result k s c.get.ensures.number c.get.ensures.in_range c.slot_of-slot.ensures.least in
    let may = may_there m c.args.self.now.map t k s c.args.client (ap (λ s. s.map) c.self.view_is) (c.slot_of-slot.ensures.slot ∙ ap (slot_of m) c.get.ensures.number) c.requires.may in
    let over = subst (IsOver m) (sym (ap (λ s. s.map) c.self.view_is)) c.requires.over in
    split_over m k s v c.requires.over.near c.requires.key c.requires.free at t u c.args.client over c.self.invariant.0 c.requires.client may c.part.ensures.set

pub returns-clause-ranges : goal.returns-clause-ranges
returns-clause-ranges c v d p =
    let m = c.args.durable.now.index in let t = c.self.inside.rows.map in let u = c.part.new.rows.map in let s = c.slot_of-slot.result in let k = c.args.key in
    let at = found m c.get.result k s c.get.ensures.number c.get.ensures.in_range c.slot_of-slot.ensures.least in
    let may = may_there m c.args.self.now.map t k s c.args.client (ap (λ s. s.map) c.self.view_is) (c.slot_of-slot.ensures.slot ∙ ap (slot_of m) c.get.ensures.number) c.requires.may in
    let over = subst (IsOver m) (sym (ap (λ s. s.map) c.self.view_is)) c.requires.over in
    split_ranges m k s v c.requires.over.near c.requires.key c.requires.free at t u c.args.client over c.self.invariant.0 c.requires.client may c.part.ensures.set d p
    ∙ ap (λ x. range_at m (rows_of x) d p) (ap (λ s. s.map) c.self.view_is)

pub returns-clause-keys : goal.returns-clause-keys
returns-clause-keys c v d p which =
    let m = c.args.durable.now.index in let t = c.self.inside.rows.map in let u = c.part.new.rows.map in let s = c.slot_of-slot.result in let k = c.args.key in
    let at = found m c.get.result k s c.get.ensures.number c.get.ensures.in_range c.slot_of-slot.ensures.least in
    let may = may_there m c.args.self.now.map t k s c.args.client (ap (λ s. s.map) c.self.view_is) (c.slot_of-slot.ensures.slot ∙ ap (slot_of m) c.get.ensures.number) c.requires.may in
    let over = subst (IsOver m) (sym (ap (λ s. s.map) c.self.view_is)) c.requires.over in
    split_keys m k s v c.requires.over.near c.requires.key c.requires.free at t u c.args.client over c.self.invariant.0 c.requires.client may c.part.ensures.set d p which
    ∙ ap (λ x. key_at m (rows_of x) d p) (ap (λ s. s.map) c.self.view_is)

pub returns-clause-own : goal.returns-clause-own
returns-clause-own c v =
    let m = c.args.durable.now.index in let t = c.self.inside.rows.map in let u = c.part.new.rows.map in let s = c.slot_of-slot.result in let k = c.args.key in
    let at = found m c.get.result k s c.get.ensures.number c.get.ensures.in_range c.slot_of-slot.ensures.least in
    let may = may_there m c.args.self.now.map t k s c.args.client (ap (λ s. s.map) c.self.view_is) (c.slot_of-slot.ensures.slot ∙ ap (slot_of m) c.get.ensures.number) c.requires.may in
    let over = subst (IsOver m) (sym (ap (λ s. s.map) c.self.view_is)) c.requires.over in
    split_own m k s v c.requires.over.near c.requires.key c.requires.free at t u c.args.client over c.self.invariant.0 c.requires.client may c.part.ensures.set
