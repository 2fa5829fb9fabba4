use Rattle.krl_server.proofs.Names.{nat_eq, ap, ◌∙◌, rules, unlist}
use Rattle.std.specs.Prelude.{not}
use Rattle.std.proofs.lemmas.Fn.{filter_same}
use Rattle.krl_server.proofs.missing.Missing.remove.Goals as goal

pub returns : goal.returns
returns c = filter_same _ (λ d. not (nat_eq c.args.client d)) _ (λ x b f h. search rules) c.self.inside.clients.items c.retain.new.self.items c.retain.ensures.filtered ∙ ap (λ clients. unlist clients c.args.client) c.self.view_is
