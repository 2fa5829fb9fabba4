use Rattle.std.proofs.Common.{add-one, ◌∙◌, sym, subst}
use Rattle.krl_messages.specs.declared.to_client.PushBody.TheVariants as push
use Rattle.krl_client.specs.Fields.{meaning, written_of}
use Rattle.krl_client.specs.contracts.client.Client.{the_view}
use Rattle.krl_cache.specs.Beliefs.{Belief}
use Rattle.krl_cache.specs.Laws.{IsBelief}
use Rattle.krl_client.specs.Clients.{Client}
use Rattle.krl_client.specs.Keeps.{IsClient}
use Rattle.krl_client.proofs.Keeping.{accept_keeps}
use Rattle.krl_client.proofs.Cases.{accepts, judged_is}
use Rattle.krl_client.proofs.client.Client.accept_answer.Goals as goal

pub returns-clause-follows : goal.returns-clause-follows
returns-clause-follows c = rw (← c.self.view_is) (let k = meaning (the_view c.self.inside) in
    accepts k (push.Answer c.args.number c.args.outcome c.args.holding) _ c.in_ok-list.list.items c.self.invariant.belief (λ t. record k { seen = add-one c.self.inside.seen t; written = (c.judged-self-inside.ensures ∙ judged_is k c.args.number c.args.outcome (written_of c.self.inside.written)) t; belief = c.in_ok-adopt.ensures.ok t })
    (λ ps. rw (← c.self.view_is) at c.in_ok-list.ensures))

pub invariant_of-self-2 : goal.invariant_of-self-2
invariant_of-self-2 c =
    let k = meaning (the_view c.self.inside) in
    let what = push.Answer c.args.number c.args.outcome c.args.holding in
    subst (λ (x : Client). IsClient x)
    (λ t. record k { seen = sym (add-one c.self.inside.seen) t; written = sym (c.judged-self-inside.ensures ∙ judged_is k c.args.number c.args.outcome (written_of c.self.inside.written)) t; belief = sym c.in_ok-adopt.ensures.ok t })
    (accept_keeps k what (rw (← c.self.view_is) at c.requires.last) (subst (λ (b : Belief). IsBelief b) c.in_ok-adopt.ensures.ok (c.in_ok-adopt.ensures.belief c.self.invariant.belief)) c.self.invariant)
