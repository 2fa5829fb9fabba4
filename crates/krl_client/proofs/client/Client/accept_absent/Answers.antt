use Rattle.std.proofs.Common.{add-one, sym, subst}
use Rattle.krl_messages.specs.declared.to_client.PushBody.TheVariants as push
use Rattle.krl_client.specs.Fields.{meaning}
use Rattle.krl_client.specs.contracts.client.Client.{the_view}
use Rattle.krl_client.specs.Clients.{Client}
use Rattle.krl_client.specs.Keeps.{IsClient}
use Rattle.krl_client.proofs.Keeping.{accept_keeps}
use Rattle.krl_client.proofs.Cases.{accepts}
use Rattle.krl_client.proofs.client.Client.accept_absent.Goals as goal

pub returns-clause-follows : goal.returns-clause-follows
returns-clause-follows c = rw (← c.self.view_is) (let k = meaning (the_view c.self.inside) in
    accepts k (push.Absent c.args.req c.args._point) _ c.in_ok-list.list.items c.self.invariant.belief (λ t. record k { seen = add-one c.self.inside.seen t; asked = c.answered-self-inside.ensures t })
    (λ ps. rw (← c.self.view_is) at c.in_ok-list.ensures))

pub invariant_of-self : goal.invariant_of-self
invariant_of-self c =
    let k = meaning (the_view c.self.inside) in
    let what = push.Absent c.args.req c.args._point in
    subst (λ (x : Client). IsClient x)
    (λ t. record k { seen = sym (add-one c.self.inside.seen) t; asked = sym c.answered-self-inside.ensures t })
    (accept_keeps k what (rw (← c.self.view_is) at c.requires.last) c.self.invariant.belief c.self.invariant)
