use Rattle.krl_server.proofs.Names.{◌+◌, ◌<◌, Some, length, set, ap, subst, PushBody, ◌∙◌, arith, END, Session, sessions_of, meaning}
use Rattle.krl_server.proofs.Functions.StateChanges.{pushed_means}
use Rattle.krl_server.proofs.state.State.push.Goals as goal

pub returns-clause-server : goal.returns-clause-server
returns-clause-server c =
    let st = c.args.self.now in let own = c.args.client in
    let lt : own < length st.sessions = omega (arith, c.requires.client, c.requires.formed.full) in
    ap (λ l. meaning (record st { sessions = l })) c.note_push.ensures
    ∙ ap (λ n. meaning (record st { sessions = set st.sessions own (record (sessions_of st.sessions own) { last_push = n + 1; unacked = Some c.args.kept }) })) (ap (λ (x : Session). x.last_push) c.session.ensures)
    ∙ ap (λ (b : PushBody). meaning (record st { sessions = set st.sessions own (record (sessions_of st.sessions own) { last_push = (sessions_of st.sessions own).last_push + 1; unacked = Some b }) })) c.requires.same
    ∙ pushed_means st own c.args.body lt (subst (λ (x : Session). x.last_push < END) c.session.ensures c.if-last_push-ge-END.false)
