use Rattle.std.proofs.Common.{◌∙◌, refl, append_assoc}
use Rattle.std.proofs.lemmas.Result.{IfOk-weaker}
use Rattle.krl_text.proofs.print.faulted.Goals as goal

pub returns : goal.returns
returns c = IfOk-weaker c.format.result _ _ (λ line e. e ∙ rw (c.text-text.ensures, append_assoc, append_assoc) refl) c.format.ensures.ok
