use Rattle.krl_server.proofs.Names.{◌≡◌, ℕ, ◌+◌, [], ◌∷◌, ◌++◌, length, length-append, sym, ap, subst, ◌∙◌, arith, blank_session, sessions_of}
use Rattle.krl_server.proofs.Functions.Started.{blank_push}
use Rattle.krl_server.proofs.sessions.blank_sessions.Goals as goal

pub loop-client-init : goal.loop-client-init
loop-client-init c =
    let e = c.in_ok-each.ensures.items in
    (ap length e, λ d. ap (λ xs. sessions_of xs d) e, c.in_ok-each.ensures.len, c.in_ok-each.ensures.exact)

pub loop-client-preserved : goal.loop-client-preserved
loop-client-preserved c =
    let old = c.loop-client.each.items in let i = c.loop-client.invariant in
    let e = c.push_reserved.ensures.items in
    let long = ap length e ∙ length-append old (c.blank.result ∷ []) in
    let before = i.0 in (
      omega (arith, long, before),
      λ d. ap (λ xs. sessions_of xs d) e ∙ blank_push old c.blank.result c.blank.ensures i.1 d,
      c.push_reserved.ensures.len ∙ ap (λ n. n + 1) i.2,
      c.push_reserved.ensures.capacity ∙ i.3,
    )
