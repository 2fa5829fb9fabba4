use Rattle.std.proofs.Common.{◌≡◌, true, false, sym, ap, ◌++◌, ◌∷◌, [], refl, ◌∙◌}
use Rattle.krl_cache_laws.proofs.Joined.{adds_none, adds_both, adds_apart, last_before}
use Rattle.krl_cache_laws.proofs.pieces.add_behind.Goals as goal

pub returns-then-says_none : goal.returns-then-says_none
returns-then-says_none c = adds_none c.args.list.now.items c.args.piece (c.says_none.ensures.0 c.if-says_none.true)

pub both-requires : goal.both-requires
both-requires c = last_before c.args.list.now.items c.pop.new.self.items c.in-Some.last c.args.piece c.in-Some.ensures.items c.requires

pub returns-in_ok-push-2 : goal.returns-in_ok-push-2
returns-in_ok-push-2 c = adds_both c.args.list.now.items c.pop.new.self.items c.in-Some.last c.args.piece c.in-Some-both.whole c.pop.new.self.items c.push-in-Some-both.new.self.items c.in-Some.ensures.items refl c.in_ok-push-2.ensures.items c.in-Some-both.ensures

pub returns-in_ok-push-4 : goal.returns-in_ok-push-4
returns-in_ok-push-4 c =
    adds_apart c.args.list.now.items c.pop.new.self.items c.in-Some.last c.args.piece c.push-in_default-both-2.new.self.items c.in-Some.ensures.items
    (c.in_ok-push-4.ensures.items ∙ ap (λ l. l ++ c.args.piece ∷ []) c.in_ok-push-3.ensures.items)
    (λ e. absurd (let bad : true ≡ false = sym (c.says_none.ensures.1 e) ∙ c.if-says_none.false in cc)) c.in_default-both.ensures
