use Rattle.std.proofs.Common.{ℕ, ap, ◌∙◌, ◌++◌, ◌∷◌}
use Rattle.krl_wire.specs.Spelling.{number, to_client_kind, to_client_body}
use Rattle.krl_wire.proofs.Putting.{behind}
use Rattle.krl_wire.proofs.put_client.put_to_client.Goals as goal

pub returns : goal.returns
returns c =
    let m = c.args.message.now in let out = c.args.out.now.items in
    let head = λ (k : ℕ). 1 ∷ k ∷ number m.client ++ number m.incarnation in
    behind c.put_to_client_body.result out c.put_head.new.out.items c.put_to_client_body.new.out.items
    (head (to_client_kind m.body)) (to_client_body m.body)
    (c.in_ok-put_head.ensures ∙ ap (λ (k : ℕ). out ++ head k) c.to_client_kind.ensures)
    c.put_to_client_body.ensures
