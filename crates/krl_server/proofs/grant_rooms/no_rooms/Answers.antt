use Rattle.krl_server.proofs.Names.{◌≡◌, ◌+◌, [], ◌∷◌, None, length, length-append, ap, ◌∙◌, arith}
use Rattle.krl_server.proofs.grant_rooms.no_rooms.Goals as goal

pub loop-client-init : goal.loop-client-init
loop-client-init c = let e = c.in_ok-each.ensures.items in (ap length e, c.in_ok-each.ensures.len, c.in_ok-each.ensures.exact)

pub loop-client-preserved : goal.loop-client-preserved
loop-client-preserved c =
    let i = c.loop-client.invariant in
    let long = ap length c.push_reserved.ensures.items ∙ length-append c.loop-client.each.items (None ∷ []) in
    let before = i.0 in
    (omega (arith, long, before), c.push_reserved.ensures.len ∙ ap (λ n. n + 1) i.1, c.push_reserved.ensures.capacity ∙ i.2)
