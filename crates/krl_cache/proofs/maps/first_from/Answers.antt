use Rattle.krl_cache.specs.Maps.{at}
use Rattle.krl_cache.proofs.Firsts.{first_after}
use Rattle.krl_cache.proofs.maps.first_from.Goals as goal

pub returns-in-Some : goal.returns-in-Some
returns-in-Some g c =
    let r = c.range.ensures.in_range tt in
    first_after (at c.args.map.now.entries) c.range.result c.next.new.self (c.in-Some.key.now, c.in-Some.value.now) c.args.lo _ (λ q. tt) c.in-Some.ensures.steps r.1 (λ q h some. r.2 q h some)
