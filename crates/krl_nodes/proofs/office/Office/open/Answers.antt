use Rattle.krl_modes.specs.declared.limits.TheConstants.{STANDARD_ROOM}
use Rattle.krl_nodes.proofs.Names.{◌≡◌, ◌≤◌, ℕ, List, [], ◌∷◌, ◌++◌, length, refl, sym, ap, ◌∙◌, subst, opening, Value, Mail, Holds, first_view}
use Rattle.krl_durable.specs.InitialEntries.{AreGood}
use Rattle.krl_durable.specs.Remade.{fresh}
use Rattle.krl_world.specs.declared.node.ServerPlace.TheVariants as kept
use Rattle.krl_nodes.specs.declared.rule.Opening.{Opening}
use Rattle.krl_nodes.proofs.Opens.{new_mail, begun, begins, opens_new, opened_at, nobody_seated}
use Rattle.krl_nodes.proofs.office.Office.open.Goals as goal

pub new-requires-3 : goal.new-requires-3
new-requires-3 c =
    let es = c.args.entries.items in
    let d = c.in_ok-durable.durable in
    let h = subst (λ (xs : List (ℕ × Value)). (length xs ≤ STANDARD_ROOM) × AreGood xs (length xs) × (d ≡ fresh xs)) c.as_slice.ensures.value c.in_ok-durable.ensures in
    let can = begun es d h.2 c.epoch.ensures.kept in
    let items : c.push.new.self.items ≡ new_mail es ∷ [] = c.in_ok-push.ensures.items ∙ ap (λ (l : List Mail). l ++ c.in_ok-post.post ∷ []) c.in_ok-slots.ensures.items ∙ ap (λ (m : Mail). m ∷ []) (c.in_ok-post.ensures ∙ ap new_mail c.from.ensures) in
    let about : c.of-about.result.value ≡ record { entries = es; desk = kept.Up c.in-Ok.server } = c.of-about.ensures ∙ (λ i. record { entries = c.from.ensures i; desk = kept.Up c.in-Ok.server }) in
    subst (λ (x : List Mail × Opening). Holds (opening (0 ∷ []) x.0 (first_view x.1.entries x.1.desk))) (λ i. (sym items i, sym about i))
    (opens_new es (kept.Up c.in-Ok.server) can (begins es c.in-Ok.server d h.2 c.in-Ok.ensures.server))

pub invariant_of-node : goal.invariant_of-node
invariant_of-node c =
    let es = c.args.entries.items in
    let d = c.in_ok-durable.durable in
    let h = subst (λ (xs : List (ℕ × Value)). (length xs ≤ STANDARD_ROOM) × AreGood xs (length xs) × (d ≡ fresh xs)) c.as_slice.ensures.value c.in_ok-durable.ensures in
    let can = begun es d h.2 c.epoch.ensures.kept in
    let about : c.of-about.result.value ≡ record { entries = es; desk = kept.Up c.in-Ok.server } = c.of-about.ensures ∙ (λ i. record { entries = c.from.ensures i; desk = kept.Up c.in-Ok.server }) in
    let is = c.in-Ok-new.ensures.ok.4 ∙ (λ i. (first_view (about i).entries (about i).desk, [])) in
    (opened_at c.in-Ok-new.ticket.me es es (kept.Up c.in-Ok.server) can (begins es c.in-Ok.server d h.2 c.in-Ok.ensures.server) is refl c.in-Ok-new.ticket refl, refl)

pub returns : goal.returns
returns c =
    let es = c.args.entries.items in
    let d = c.in_ok-durable.durable in
    let h = subst (λ (xs : List (ℕ × Value)). (length xs ≤ STANDARD_ROOM) × AreGood xs (length xs) × (d ≡ fresh xs)) c.as_slice.ensures.value c.in_ok-durable.ensures in
    let can = begun es d h.2 c.epoch.ensures.kept in
    let about : c.of-about.result.value ≡ record { entries = es; desk = kept.Up c.in-Ok.server } = c.of-about.ensures ∙ (λ i. record { entries = c.from.ensures i; desk = kept.Up c.in-Ok.server }) in
    let is = c.in-Ok-new.ensures.ok.4 ∙ (λ i. (first_view (about i).entries (about i).desk, [])) in (
      (h.0, h.1),
      record {
        same = c.in-Ok-new.ensures.ok.2;
        opening = ap (λ m. m.0.opening) is;
        server = begins es c.in-Ok.server d h.2 c.in-Ok.ensures.server;
        nobody = nobody_seated;
      },
    )
