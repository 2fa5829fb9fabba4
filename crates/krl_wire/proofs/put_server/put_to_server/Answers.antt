use Rattle.std.proofs.Common.{ℕ, ap, ◌∙◌, ◌++◌, ◌∷◌}
use Rattle.krl_wire.specs.Spelling.{number, to_server_kind, to_server_body}
use Rattle.krl_wire.proofs.Putting.{behind}
use Rattle.krl_wire.proofs.put_server.put_to_server.Goals as goal

pub returns : goal.returns
returns c =
    let m = c.args.message.now in let out = c.args.out.now.items in
    let head = λ (k : ℕ). 1 ∷ k ∷ number m.client ++ number m.incarnation in
    behind c.put_to_server_body.result out c.put_head.new.out.items c.put_to_server_body.new.out.items
    (head (to_server_kind m.body)) (to_server_body m.body)
    (c.in_ok-put_head.ensures ∙ ap (λ (k : ℕ). out ++ head k) c.to_server_kind.ensures)
    c.put_to_server_body.ensures
