use Rattle.krl_nodes.proofs.Names.{◌≡◌, ◌<◌, ◌∙◌, ◌∷◌, ◌++◌, [], length, sym, ap, subst, arith, slice_index_or, slice_set, IsPut}
use Rattle.krl_world.specs.declared.message.Message.TheVariants as message
use Rattle.krl_nodes.proofs.Hearing.{index_is}
use Rattle.krl_nodes.proofs.Piles.{put_client, put_nowhere}
use Rattle.krl_nodes.proofs.sorting.put.Goals as goal

pub returns-then-client-len-clause-put : goal.returns-then-client-len-clause-put
returns-then-client-len-clause-put c = rw c.in-ToClient.is (put_nowhere c.args.to_server.now c.args.to_clients.now.items c.in-ToClient.letter (λ lt. absurd (omega (arith, lt, c.args.to_clients.now.ok.0))))

pub returns-in-Ok-push-clause-put : goal.returns-in-Ok-push-clause-put
returns-in-Ok-push-clause-put c = rw c.in-ToClient.is (
    let a = c.args.to_server.now in
    let b = c.args.to_clients.now.items in
    let m = c.in-ToClient.letter in
    let old = c.index_mut.result.now in
    let small : m.client < length b = omega (arith, c.args.to_clients.now.ok.0) in
    let e : slice_index_or b m.client [] ++ m ∷ [] ≡ c.push-in-ToClient.new.self = ap (λ l. l ++ m ∷ []) (index_is b m.client old small c.index_mut.ensures.value) ∙ sym c.in-Ok-push.ensures in
    subst (λ l. IsPut a b (message.ToClient m) a (slice_set b m.client l)) e (put_client a b m small))
