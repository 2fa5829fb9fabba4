use Rattle.std.proofs.Common.{◌≡◌, ◌+◌, ◌-◌, ◌*◌, ◌%◌, ◌^◌, ◌<◌, ℕ, Bool, nat_lt, true, false, length, cond, arith, sym, ap, ◌∙◌}
use Rattle.std.proofs.lemmas.Nat.{pow_pos}
use Rattle.krl_blocks.proofs.Places.{tops_partitioned, front_passes, back_passes}
use Rattle.krl_blocks.proofs.Probes.{near_at, Start, up_pow, down_pow, last_pow, step_pow, probe_within}
use Rattle.krl_blocks.proofs.Keys.{keys, keys_length, keys_rise, keys_near, key_at, all_taken, all_dropped}
use Rattle.krl_blocks.proofs.halves.count_keys_below.Goals as goal
use Rattle.krl_blocks.proofs.halves.count_keys_below.Goals.{then-entries-whole, else-entries-whole}

abbrev choose : Bool → ℕ
choose b = cond b 1 0

pub loop-s-init : goal.loop-s-init
loop-s-init g c =
    let len = keys_length c.args.entries.now in
    let le = c.ilog2-s.ensures.power_le in
    let same = key_at c.args.entries.now (1 * 2 ^ c.ilog2-s.result % 18446744073709551616 - 1) 0 c.index-entries-whole.result (omega arith) in
    let z : Start c.args.point (keys c.args.entries.now) (tops_partitioned (keys c.args.entries.now) c.args.point (keys_rise c.args.entries.now c.requires.rising)) c.if-entries-whole.base c.ilog2-s.result = elim c.if-entries-whole.branch [
      | then-entries-whole w ↦ up_pow c.args.point (keys c.args.entries.now) (tops_partitioned (keys c.args.entries.now) c.args.point (keys_rise c.args.entries.now c.requires.rising)) c.ilog2-s.result c.if-entries-whole.base (omega (arith, le, len)) (omega (arith, len)) (omega (arith, c.ilog2-s.ensures.next_power_gt, len)) (omega (arith, w.if-entries-whole.true, same)) (w.base-is ∙ ap (λ n. n - 1 * 2 ^ c.ilog2-s.result % 18446744073709551616) (sym len))
      | else-entries-whole w ↦ down_pow c.args.point (keys c.args.entries.now) (tops_partitioned (keys c.args.entries.now) c.args.point (keys_rise c.args.entries.now c.requires.rising)) c.ilog2-s.result c.if-entries-whole.base (omega (arith, le, len)) (omega (arith, len)) (omega (arith, w.if-entries-whole.false, same)) w.base-is
    ] in
    (z.0, c.ilog2-s.ensures.bound, z.1, z.2)

-- where the next probe lies
pub bounds-entries-base : goal.bounds-entries-base
bounds-entries-base g c = let len = keys_length c.args.entries.now in let lt = probe_within c.args.point (keys c.args.entries.now) (tops_partitioned (keys c.args.entries.now) c.args.point (keys_rise c.args.entries.now c.requires.rising)) c.loop-s.base c.loop-s.s (omega (arith, c.loop-s-test.true)) c.loop-s.invariant.0 (omega (arith, len)) in omega (arith, lt, len)

pub bounds-entries-base-in-loop-s : goal.bounds-entries-base-in-loop-s
bounds-entries-base-in-loop-s g c = let len = keys_length c.args.entries.now in let lt = probe_within c.args.point (keys c.args.entries.now) (tops_partitioned (keys c.args.entries.now) c.args.point (keys_rise c.args.entries.now c.requires.rising)) c.loop-s.base c.loop-s.s (omega (arith, c.loop-s-test.true)) c.loop-s.invariant.0 (omega (arith, len)) in omega (arith, lt, len)

pub offset_bounds-entries-base : goal.offset_bounds-entries-base
offset_bounds-entries-base g c = let len = keys_length c.args.entries.now in let lt = probe_within c.args.point (keys c.args.entries.now) (tops_partitioned (keys c.args.entries.now) c.args.point (keys_rise c.args.entries.now c.requires.rising)) c.loop-s.base c.loop-s.s (omega (arith, c.loop-s-test.true)) c.loop-s.invariant.0 (omega (arith, len)) in omega (arith, lt, len)

pub overflow_add-base : goal.overflow_add-base
overflow_add-base g c = let len = keys_length c.args.entries.now in let lt = probe_within c.args.point (keys c.args.entries.now) (tops_partitioned (keys c.args.entries.now) c.args.point (keys_rise c.args.entries.now c.requires.rising)) c.loop-s.base c.loop-s.s (omega (arith, c.loop-s-test.true)) c.loop-s.invariant.0 (omega (arith, len)) in omega (arith, lt, len)

pub lesser-requires : goal.lesser-requires
lesser-requires g c =
    let len = keys_length c.args.entries.now in
    let lt = probe_within c.args.point (keys c.args.entries.now) (tops_partitioned (keys c.args.entries.now) c.args.point (keys_rise c.args.entries.now c.requires.rising)) c.loop-s.base c.loop-s.s (omega (arith, c.loop-s-test.true)) c.loop-s.invariant.0 (omega (arith, len)) in
    let near = near_at (keys c.args.entries.now) (c.loop-s.base + 1 * 2 ^ (c.loop-s.s - 1) % 18446744073709551616 - 1) 0 (keys_near c.args.entries.now c.requires.near) lt in
    let same = key_at c.args.entries.now (c.loop-s.base + 1 * 2 ^ (c.loop-s.s - 1) % 18446744073709551616 - 1) 0 c.index-entries-base.result (omega (arith, lt, len)) in
    (omega (arith, near, same), c.requires.point)

pub overflow_add-base-in-loop-s : goal.overflow_add-base-in-loop-s
overflow_add-base-in-loop-s g c =
    let len = keys_length c.args.entries.now in
    let lt = probe_within c.args.point (keys c.args.entries.now) (tops_partitioned (keys c.args.entries.now) c.args.point (keys_rise c.args.entries.now c.requires.rising)) c.loop-s.base c.loop-s.s (omega (arith, c.loop-s-test.true)) c.loop-s.invariant.0 (omega (arith, len)) in
    let same = key_at c.args.entries.now (c.loop-s.base + 1 * 2 ^ (c.loop-s.s - 1) % 18446744073709551616 - 1) 0 c.index-entries-base.result (omega (arith, lt, len)) in
    let z = step_pow c.args.point (keys c.args.entries.now) (tops_partitioned (keys c.args.entries.now) c.args.point (keys_rise c.args.entries.now c.requires.rising)) c.loop-s.base c.loop-s.s (omega (arith, c.loop-s-test.true)) c.loop-s.invariant.0 (omega (arith, len)) c.lesser.result c.loop-s.invariant.2 c.loop-s.invariant.3 (c.lesser.ensures ∙ ap (λ (k : ℕ). choose (nat_lt k c.args.point)) (sym same)) in
    let le = z.0 in
    omega (arith, le, len)

pub loop-s-preserved : goal.loop-s-preserved
loop-s-preserved g c =
    let len = keys_length c.args.entries.now in
    let lt = probe_within c.args.point (keys c.args.entries.now) (tops_partitioned (keys c.args.entries.now) c.args.point (keys_rise c.args.entries.now c.requires.rising)) c.loop-s.base c.loop-s.s (omega (arith, c.loop-s-test.true)) c.loop-s.invariant.0 (omega (arith, len)) in
    let same = key_at c.args.entries.now (c.loop-s.base + 1 * 2 ^ (c.loop-s.s - 1) % 18446744073709551616 - 1) 0 c.index-entries-base.result (omega (arith, lt, len)) in
    let z = step_pow c.args.point (keys c.args.entries.now) (tops_partitioned (keys c.args.entries.now) c.args.point (keys_rise c.args.entries.now c.requires.rising)) c.loop-s.base c.loop-s.s (omega (arith, c.loop-s-test.true)) c.loop-s.invariant.0 (omega (arith, len)) c.lesser.result c.loop-s.invariant.2 c.loop-s.invariant.3 (c.lesser.ensures ∙ ap (λ (k : ℕ). choose (nat_lt k c.args.point)) (sym same)) in
    (z.0, omega (arith, c.loop-s.invariant.1), z.1, z.2)

pub offset_bounds-entries-base-2 : goal.offset_bounds-entries-base-2
offset_bounds-entries-base-2 g c =
    let len = keys_length c.args.entries.now in let some = pow_pos c.loop-s.s in let fits = c.loop-s.invariant.0 in omega (arith, fits, some, len)

pub bounds-entries-base-after-loop-s : goal.bounds-entries-base-after-loop-s
bounds-entries-base-after-loop-s g c =
    let len = keys_length c.args.entries.now in let some = pow_pos c.loop-s.s in let fits = c.loop-s.invariant.0 in omega (arith, fits, some, len)

pub bounds-entries-base-after-loop-s-2 : goal.bounds-entries-base-after-loop-s-2
bounds-entries-base-after-loop-s-2 g c =
    let len = keys_length c.args.entries.now in let some = pow_pos c.loop-s.s in let fits = c.loop-s.invariant.0 in omega (arith, fits, some, len)

pub lesser-requires-2 : goal.lesser-requires-2
lesser-requires-2 g c =
    let len = keys_length c.args.entries.now in
    let some = pow_pos c.loop-s.s in
    let fits = c.loop-s.invariant.0 in
    let lt : c.loop-s.base < length (keys c.args.entries.now) = omega (arith, fits, some) in
    let near = near_at (keys c.args.entries.now) c.loop-s.base 0 (keys_near c.args.entries.now c.requires.near) lt in
    let same = key_at c.args.entries.now c.loop-s.base 0 c.index-entries-base-2.result (omega (arith, lt, len)) in
    (omega (arith, near, same), c.requires.point)

pub overflow_add-result : goal.overflow_add-result
overflow_add-result g c =
    let len = keys_length c.args.entries.now in
    let some = pow_pos c.loop-s.s in
    let fits = c.loop-s.invariant.0 in
    let same = key_at c.args.entries.now c.loop-s.base 0 c.index-entries-base-2.result (omega (arith, fits, some, len)) in
    let z = last_pow c.args.point (keys c.args.entries.now) (tops_partitioned (keys c.args.entries.now) c.args.point (keys_rise c.args.entries.now c.requires.rising)) c.loop-s.base c.loop-s.s c.lesser-2.result (omega (arith, c.loop-s-test.false)) c.loop-s.invariant.0 c.loop-s.invariant.2 c.loop-s.invariant.3 (c.lesser-2.ensures ∙ ap (λ (k : ℕ). choose (nat_lt k c.args.point)) (sym same)) in
    let le = z.0 in
    omega (arith, le, len)

pub returns-clause-within : goal.returns-clause-within
returns-clause-within g c =
    let len = keys_length c.args.entries.now in
    let some = pow_pos c.loop-s.s in
    let fits = c.loop-s.invariant.0 in
    let same = key_at c.args.entries.now c.loop-s.base 0 c.index-entries-base-2.result (omega (arith, fits, some, len)) in
    let z = last_pow c.args.point (keys c.args.entries.now) (tops_partitioned (keys c.args.entries.now) c.args.point (keys_rise c.args.entries.now c.requires.rising)) c.loop-s.base c.loop-s.s c.lesser-2.result (omega (arith, c.loop-s-test.false)) c.loop-s.invariant.0 c.loop-s.invariant.2 c.loop-s.invariant.3 (c.lesser-2.ensures ∙ ap (λ (k : ℕ). choose (nat_lt k c.args.point)) (sym same)) in
    let le = z.0 in
    omega (arith, le, len)

pub returns-clause-below : goal.returns-clause-below
returns-clause-below g c =
    let len = keys_length c.args.entries.now in
    let some = pow_pos c.loop-s.s in
    let fits = c.loop-s.invariant.0 in
    let same = key_at c.args.entries.now c.loop-s.base 0 c.index-entries-base-2.result (omega (arith, fits, some, len)) in
    let z = last_pow c.args.point (keys c.args.entries.now) (tops_partitioned (keys c.args.entries.now) c.args.point (keys_rise c.args.entries.now c.requires.rising)) c.loop-s.base c.loop-s.s c.lesser-2.result (omega (arith, c.loop-s-test.false)) c.loop-s.invariant.0 c.loop-s.invariant.2 c.loop-s.invariant.3 (c.lesser-2.ensures ∙ ap (λ (k : ℕ). choose (nat_lt k c.args.point)) (sym same)) in
    all_taken (λ t. nat_lt t c.args.point ≡ true) c.args.entries.now (c.loop-s.base + c.lesser-2.result) (front_passes (λ t. nat_lt t c.args.point ≡ true) (keys c.args.entries.now) (c.loop-s.base + c.lesser-2.result) z.0 z.1)

pub returns-clause-rest : goal.returns-clause-rest
returns-clause-rest g c =
    let len = keys_length c.args.entries.now in
    let some = pow_pos c.loop-s.s in
    let fits = c.loop-s.invariant.0 in
    let same = key_at c.args.entries.now c.loop-s.base 0 c.index-entries-base-2.result (omega (arith, fits, some, len)) in
    let z = last_pow c.args.point (keys c.args.entries.now) (tops_partitioned (keys c.args.entries.now) c.args.point (keys_rise c.args.entries.now c.requires.rising)) c.loop-s.base c.loop-s.s c.lesser-2.result (omega (arith, c.loop-s-test.false)) c.loop-s.invariant.0 c.loop-s.invariant.2 c.loop-s.invariant.3 (c.lesser-2.ensures ∙ ap (λ (k : ℕ). choose (nat_lt k c.args.point)) (sym same)) in
    all_dropped (λ t. nat_lt t c.args.point ≡ false) c.args.entries.now (c.loop-s.base + c.lesser-2.result) (back_passes (λ t. nat_lt t c.args.point ≡ false) (keys c.args.entries.now) (c.loop-s.base + c.lesser-2.result) z.2)
