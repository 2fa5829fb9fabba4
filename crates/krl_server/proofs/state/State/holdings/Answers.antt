use Rattle.krl_server.proofs.Names.{◌≡◌, ◌≤◌, ◌<◌, ◌+◌, ℕ, zero, suc, List, [], ◌∷◌, ◌++◌, length, take, get_or, sym, ap, subst, ◌∙◌, arith, take_more, length-take-le, Holding, Server, meaning, holding, holdings}
use Rattle.krl_messages.specs.Ascending.{Ascend}
use Rattle.krl_server.proofs.Grants.{ascend_take, holdings_on, holdings_long}
use Rattle.krl_server.proofs.state.State.holdings.Goals as goal

-- one slot more
more : (s : Server) (c i d : ℕ) (ns : List ℕ) (all : List Holding) (x : Holding) (n : ℕ) → i < length ns → all ≡ holdings s c (take i ns) → n ≡ get_or ns i d → x ≡ holding s n c → all ++ x ∷ [] ≡ holdings s c (take (i + 1) ns)
more s c i d ns all x n lt e f g =
    ap (λ l. l ++ x ∷ []) e ∙ ap (λ y. holdings s c (take i ns) ++ y ∷ []) (g ∙ ap (λ k. holding s k c) f)
    ∙ sym (holdings_on s c (take i ns) (get_or ns i d)) ∙ ap (holdings s c) (sym (take_more ns i d lt))

take_short : (i : ℕ) (ns : List ℕ) → length (take i ns) ≤ length ns
take_short zero ns = omega arith
take_short (suc i) [] = omega arith
take_short (suc i) (n ∷ ns) = let x = take_short i ns in omega (arith, x)

pub push-requires : goal.push-requires
push-requires c =
    let s = meaning c.args.self.now in let ns = c.args.slots.now in
    let a = ap length c.loop-i.invariant.0 in
    let b = holdings_long s c.args.client (take c.loop-i.i ns) in
    let d = length-take-le c.loop-i.i ns (let lt = c.loop-i-test.true in omega (arith, lt)) in
    let room = c.requires.room in let more = c.loop-i.invariant.1 in let lt = c.loop-i-test.true in
    omega (arith, a, b, d, room, more, lt)

pub into_holdings-requires-clause-few : goal.into_holdings-requires-clause-few
into_holdings-requires-clause-few c =
    let s = meaning c.args.self.now in let ns = c.args.slots.now in
    let a = ap length c.loop-i.invariant.0 in
    let b = holdings_long s c.args.client (take c.loop-i.i ns) in
    let d = take_short c.loop-i.i ns in
    let few = c.requires.few in
    omega (arith, a, b, d, few)

pub loop-i-preserved : goal.loop-i-preserved
loop-i-preserved c =
    let s = meaning c.args.self.now in let ns = c.args.slots.now in (
      c.push.ensures.holdings ∙ more s c.args.client c.loop-i.i c.index-slots-i.result ns c.loop-i.all.holdings c.holding_by-span.result c.get-slot.result c.loop-i-test.true c.loop-i.invariant.0 (c.get-slot.ensures.number ∙ c.index-slots-i.is) c.holding_by-span.ensures,
      (let r = c.push.ensures.room in let more = c.loop-i.invariant.1 in omega (arith, r, more)),
    )
