use Rattle.krl_table.proofs.Names.{◌≡◌, ◌-◌, ◌++◌, [], ◌∷◌, IfSome, ◌<◌, length, sym, ap, subst, ◌∙◌, fun_ext, Rows, raised_on, granted_first, reached_after, rows_of}
use Rattle.krl_table.proofs.Calls.Raises.{granted_from, reached_from, one_noted, unwrapped}
use Rattle.krl_table.proofs.Calls.Fronts.{front_there}
use Rattle.krl_table.proofs.table.Table.grant.Goals as goal

pub unwrap-requires : goal.unwrap-requires
unwrap-requires c = c.new.ensures.in_range.1 c.grant_first.ensures.end

pub returns-in-Some-clause-granted : goal.returns-in-Some-clause-granted
returns-in-Some-clause-granted c n =
    let m = c.args.durable.now.index in
    let rows = rows_of c.args.self.now.map in let w = c.in-Some.waiter in let k = c.args.slot in
    let first : rows_of c.grant_first.new.self.map ≡ granted_first rows k = fun_ext c.grant_first.ensures.granted in
    let j = c.args.durable.now.reach in
    let many : j - length c.push.new.self.items ≡ j - 1 = one_noted j c.new-reached.result.items c.push.new.self.items _ c.new-reached.ensures c.push.ensures.items in
    ap (λ (r : Rows). r n) (c.go_on.ensures.rows
    ∙ ap (λ i. raised_on (rows_of c.grant_first.new.self.map) (reached_after m (rows_of c.grant_first.new.self.map) k w i) w) many
    ∙ ap (λ (r : Rows). raised_on r (reached_after m r k w (j - 1)) w) first
    ∙ sym (granted_from j m rows k w (sym c.front.ensures.front ∙ c.in-Some.is)))

pub returns-in-Some-clause-reached : goal.returns-in-Some-clause-reached
returns-in-Some-clause-reached c =
    let m = c.args.durable.now.index in
    let rows = rows_of c.args.self.now.map in let w = c.in-Some.waiter in let k = c.args.slot in
    let first : rows_of c.grant_first.new.self.map ≡ granted_first rows k = fun_ext c.grant_first.ensures.granted in
    let j = c.args.durable.now.reach in
    let many = one_noted j c.new-reached.result.items c.push.new.self.items _ c.new-reached.ensures c.push.ensures.items in
    let at : c.unwrap.result ≡ k = unwrapped c.new.result c.unwrap.result k c.unwrap.ensures c.new.ensures.point in
    c.go_on.ensures.reached
    ∙ ap (λ l. l ++ reached_after m (rows_of c.grant_first.new.self.map) k w (j - length c.push.new.self.items)) (c.push.ensures.items ∙ ap (λ l. l ++ c.unwrap.result ∷ []) c.new-reached.ensures)
    ∙ ap (λ i. i ∷ reached_after m (rows_of c.grant_first.new.self.map) k w (j - length c.push.new.self.items)) at
    ∙ ap (λ i. k ∷ reached_after m (rows_of c.grant_first.new.self.map) k w i) many
    ∙ ap (λ (r : Rows). k ∷ reached_after m r k w (j - 1)) first
    ∙ sym (reached_from j m rows k w (sym c.front.ensures.front ∙ c.in-Some.is))

pub grant_first-requires : goal.grant_first-requires
grant_first-requires c = record { there = front_there c.args.self.now.map c.args.slot c.in-Some.waiter (sym c.front.ensures.front ∙ c.in-Some.is); is_compatible_there = c.requires.is_compatible_there }

pub go_on-requires : goal.go_on-requires
go_on-requires c = record {
  over = c.grant_first.ensures.slots c.args.durable.now.index c.requires.over;
  client = subst (λ o. IfSome o (λ u. u.client < 64)) c.in-Some.is c.front.ensures.client;
  rows = subst (λ n. c.args.durable.now.room < n) (sym c.grant_first.ensures.room) c.requires.rows;
}
