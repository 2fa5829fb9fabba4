use Rattle.krl_table.proofs.Names.{◌≡◌, ◌≤◌, ◌<◌, ℕ, Bool, true, false, ◌==◌, length, refl, sym, subst, ◌∙◌, arith, nat_tests, is_slot, raised, is_wanted_compatible, rows_of}
use Rattle.krl_table.proofs.Calls.Raises.{IsGoing, begins, ends_rows, ends_reached, test_ends, goes}
use Rattle.krl_table.proofs.table.Table.go_on.Goals as goal

pub loop-finger-init : goal.loop-finger-init
loop-finger-init c = (begins c.args.durable.now.reach c.args.durable.now.index c.args.self.now.map c.args.slot c.args.waiter.now c.args.reached.now.items c.requires.over, refl)

pub next_reached-requires : goal.next_reached-requires
next_reached-requires c = record { over = c.loop-finger.invariant.0.over; client = c.requires.client }

pub raise-requires : goal.raise-requires
raise-requires c =
    let m = c.args.durable.now.index in record {
      over = c.loop-finger.invariant.0.over;
      slot = subst (λ i. is_slot m i ≡ true) (sym c.get.ensures.number) c.in-Some.ensures.slot;
      client = c.requires.client;
      rows = subst (λ n. c.args.durable.now.room < n) (sym c.loop-finger.invariant.1) c.requires.rows;
      is_compatible_there = subst (λ i. is_wanted_compatible (rows_of c.loop-finger.self.map) i c.args.waiter.now ≡ true) (sym c.get.ensures.number) c.in-Some.ensures.some.is_compatible_there;
    }

pub returns-in_default-clause-rows : goal.returns-in_default-clause-rows
returns-in_default-clause-rows c =
    let m = c.args.durable.now.index in let w = c.args.waiter.now in let t = c.loop-finger.self.map in
    ends_rows c.args.durable.now.reach m c.args.self.now.map c.args.slot w c.args.reached.now.items t c.loop-finger.at c.loop-finger.reached.items c.loop-finger.invariant.0
    (test_ends c.args.durable.now.reach m c.args.self.now.map c.args.slot w c.args.reached.now.items t c.loop-finger.at c.loop-finger.reached.items c.loop-finger.invariant.0 c.in_default.ensures.none)

pub returns-in_default-clause-reached : goal.returns-in_default-clause-reached
returns-in_default-clause-reached c =
    let m = c.args.durable.now.index in let w = c.args.waiter.now in let t = c.loop-finger.self.map in
    ends_reached c.args.durable.now.reach m c.args.self.now.map c.args.slot w c.args.reached.now.items t c.loop-finger.at c.loop-finger.reached.items c.loop-finger.invariant.0
    (test_ends c.args.durable.now.reach m c.args.self.now.map c.args.slot w c.args.reached.now.items t c.loop-finger.at c.loop-finger.reached.items c.loop-finger.invariant.0 c.in_default.ensures.none)

pub returns-in_default-clause-slots : goal.returns-in_default-clause-slots
returns-in_default-clause-slots c = c.loop-finger.invariant.0.over

pub loop-finger-preserved : goal.loop-finger-preserved
loop-finger-preserved c =
    let m = c.args.durable.now.index in let w = c.args.waiter.now in let t = c.loop-finger.self.map in let u = c.raise.new.self.map in let k = c.in-Some.next in let x = c.in-Some.ensures.some in
    let g = goes c.args.durable.now.reach m c.args.self.now.map c.args.slot w c.args.reached.now.items t c.loop-finger.at c.loop-finger.reached.items c.loop-finger.invariant.0 u k
    (let lt = c.loop-finger-test.true in let most = c.reach-most.ensures.reach in let long = c.len.ensures.value in omega (arith, lt, most, long))
    x.slot x.on
    (subst (λ i. (n : ℕ) → rows_of u n ≡ raised (rows_of t) i w n) c.get.ensures.number c.raise.ensures.raised)
    c.raise.ensures.slots in (
      subst (λ i. IsGoing c.args.durable.now.reach m c.args.self.now.map c.args.slot w c.args.reached.now.items u i c.push.new.self.items) (sym c.get-at.ensures.number)
          (subst (λ l. IsGoing c.args.durable.now.reach m c.args.self.now.map c.args.slot w c.args.reached.now.items u k l) (sym c.push.ensures.items) g),
      c.raise.ensures.room ∙ c.loop-finger.invariant.1,
    )
