use Rattle.krl_world.proofs.Names.{◌≡◌, ◌≤◌, Some, length, refl, sym, subst, arith, err_from_is_err_and, slice_get, KeptWorld, the_view}
use Rattle.krl_world.specs.declared.message.Message.TheVariants as message
use Rattle.krl_world.proofs.Functions.Places.{is_at, read_at, read_memory_at, read_none_at, read_past}
use Rattle.krl_world.proofs.world_fields.WorldFields.deliver_to_client.Goals as goal

pub returns-then-number-len : goal.returns-then-number-len
returns-then-number-len c = λ m f same. rw (← c.self.view_is) (let w = the_view c.self.inside in
    let there = subst (λ (y : KeptWorld). slice_get y.sent c.args.at ≡ Some (message.ToClient m)) (sym c.self.view_is) f in
    let past : length w.places ≤ m.client = omega (arith, same, c.self.inside.places.ok.0) in
    read_past w c.args.at m past there)

pub returns-in_default : goal.returns-in_default
returns-in_default c = λ m f same. rw (← c.self.view_is) (let w = the_view c.self.inside in
    let there = subst (λ (y : KeptWorld). slice_get y.sent c.args.at ≡ Some (message.ToClient m)) (sym c.self.view_is) f in
    let low : c.args.number ≤ 63 = omega (arith, c.self.inside.places.ok.0, c.self.invariant.full) in
    let x = c.index_mut.result.now in
    read_none_at w c.args.at m c.args.number x same (is_at w c.args.number x _ c.self.invariant.full low c.index_mut.ensures.value) there c.in_default.is)

pub returns-in_err-read_sent : goal.returns-in_err-read_sent
returns-in_err-read_sent c = λ m f same. rw (← c.self.view_is) (let w = the_view c.self.inside in
    let there = subst (λ (y : KeptWorld). slice_get y.sent c.args.at ≡ Some (message.ToClient m)) (sym c.self.view_is) f in
    let low : c.args.number ≤ 63 = omega (arith, c.self.inside.places.ok.0, c.self.invariant.full) in
    let x = c.index_mut.result.now in
    let p = err_from_is_err_and c.from_residual.result c.from_residual.ensures.1 in
    rw (p.1, p.2) (read_memory_at w c.args.at m c.args.number x c.in-Some.client c.read_sent.new.client c.read_sent.new.sent.items same (is_at w c.args.number x _ c.self.invariant.full low c.index_mut.ensures.value) there c.in-Some.is c.in_err-read_sent.ensures.err.0 c.in_err-read_sent.ensures.err.1))

pub returns : goal.returns
returns c = λ m f same. rw (← c.self.view_is) (let w = the_view c.self.inside in
    let there = subst (λ (y : KeptWorld). slice_get y.sent c.args.at ≡ Some (message.ToClient m)) (sym c.self.view_is) f in
    let low : c.args.number ≤ 63 = omega (arith, c.self.inside.places.ok.0, c.self.invariant.full) in
    let x = c.index_mut.result.now in
    read_at w c.args.at m c.args.number x (record x { client = Some c.read_sent.new.client }) c.in-Some.client c.read_sent.new.client c.read_sent.new.sent.items same (is_at w c.args.number x _ c.self.invariant.full low c.index_mut.ensures.value) there refl c.in-Some.is refl (c.in_ok-read_sent.ensures.ok m there))
