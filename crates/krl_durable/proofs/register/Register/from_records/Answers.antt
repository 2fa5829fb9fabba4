use Rattle.krl_durable.proofs.Names.{◌<◌, ℕ, false, None, length, take, get_or, sym, ap, ◌∙◌, arith, add-one, Record, with_record}
use Rattle.krl_durable.proofs.Registered.{next_set}
use Rattle.krl_durable.proofs.register.Register.from_records.Goals as goal

pub loop-c-preserved : goal.loop-c-preserved
loop-c-preserved c =
    let es = c.args.records.now in
    let i = c.loop-c.c-index in
    let d : ℕ × Record = (0, record { incarnation = 0; left = false; last = 0; outcome = None }) in
    let inside : i < length es = omega arith in
    c.in_ok-set.ensures.ok ∙ ap (λ rows. with_record rows (get_or es i d).0 (get_or es i d).1) c.loop-c.invariant
    ∙ next_set es i d c.requires.once inside ∙ ap (λ n. take n es) (sym (add-one i))
