use Rattle.krl_table.proofs.Names.{◌<◌, ◌≡◌, ◌≤◌, true, false, refl, sym, ap, subst, ◌∙◌, arith, TOP, conflicts, adopted, rows_of, IsOver}
use Rattle.krl_modes.specs.declared.mode.Mode.TheVariants as mode
use Rattle.krl_table.proofs.Invariant.Sounds.{listed_same}
use Rattle.krl_table.proofs.Calls.Clears.{lowered_sound, lowered_queue, lowered_over}
use Rattle.krl_table.proofs.ReportRows.PieceByPiece.{no_conflict, compatible_all, adopted_queue, adopted_sound, adopted_same, emptied_at, emptied_off, emptied_is_compatible}
use Rattle.krl_table.proofs.Invariant.Within.{all_lowered, lower_within}
use Rattle.krl_table.proofs.table.Table.adopt_report.Goals as goal

pub all_compatible-requires : goal.all_compatible-requires
all_compatible-requires c = c.requires.over.near

pub settle-requires : goal.settle-requires
settle-requires c =
    let all = all_lowered c.args.client c.requires.client c.self.inside.extents.by_client c.self.inside.rows.map c.lower.new.rows.map c.self.invariant.2 c.of-extent.result c.of-extent.ensures c.lower.ensures.all in
    let m = c.args.durable.now.index in let t = c.self.inside.rows.map in let v = c.lower.new.rows.map in
    record {
      over = lowered_over 0 TOP c.args.client mode.N c.requires.client t v all m (subst (IsOver m) (sym (ap (λ s. s.map) c.self.view_is)) c.requires.over);
      used = all.used;
      few = c.epoch-kept.ensures.kept.few;
      room = subst (λ n. c.args.durable.now.room < n) (sym (c.lower.ensures.room ∙ ap (λ s. s.room) c.self.view_is)) c.requires.rows;
      client = c.requires.client;
      free = λ n. emptied_at c.args.client t v c.self.invariant.0 all n;
      within = lower_within c.self.inside.extents.by_client 0 TOP c.args.client mode.N t v all c.self.invariant.2;
    }

pub invariant_of-self : goal.invariant_of-self
invariant_of-self c =
    let all = all_lowered c.args.client c.requires.client c.self.inside.extents.by_client c.self.inside.rows.map c.lower.new.rows.map c.self.invariant.2 c.of-extent.result c.of-extent.ensures c.lower.ensures.all in
    let m = c.args.durable.now.index in let t = c.self.inside.rows.map in let v = c.lower.new.rows.map in let u = c.settle.new.rows.map in let pieces = c.args.pieces.now in
    let fit = c.all_compatible.ensures.0 (grind (arith, c.if-not-all_compatible.false)) in
    let sound = lowered_sound 0 TOP c.args.client mode.N c.requires.client t v all c.self.invariant.0 in
    let over = lowered_over 0 TOP c.args.client mode.N c.requires.client t v all m (subst (IsOver m) (sym (ap (λ s. s.map) c.self.view_is)) c.requires.over) in (
      adopted_sound m c.args.client pieces v u c.requires.client sound c.settle.ensures.adopted (emptied_is_compatible c.args.client t v all m over.near pieces fit) c.settle.ensures.over c.settle.ensures.used,
      listed_same c.self.inside.waiting.by_client t u (λ n. adopted_queue m c.args.client pieces v u c.requires.client sound c.settle.ensures.adopted n ∙ lowered_queue 0 TOP c.args.client mode.N c.requires.client t v all n) c.self.invariant.1,
      c.settle.ensures.within,
    )

pub returns-clause-adopted : goal.returns-clause-adopted
returns-clause-adopted c n =
    let all = all_lowered c.args.client c.requires.client c.self.inside.extents.by_client c.self.inside.rows.map c.lower.new.rows.map c.self.invariant.2 c.of-extent.result c.of-extent.ensures c.lower.ensures.all in
    let m = c.args.durable.now.index in let t = c.self.inside.rows.map in let v = c.lower.new.rows.map in
    let over = subst (IsOver m) (sym (ap (λ s. s.map) c.self.view_is)) c.requires.over in
    c.settle.ensures.adopted n
    ∙ adopted_same m c.args.client c.args.pieces.now t v over (λ k e. emptied_off c.args.client t v all m over k e) (λ k e. Rattle.krl_table.proofs.ReportRows.PieceByPiece.blank_off c.args.client t v all m over k e) n
    ∙ ap (λ x. adopted m (rows_of x) c.args.client c.args.pieces.now n) (ap (λ s. s.map) c.self.view_is)

pub returns-clause-conflict : goal.returns-clause-conflict
returns-clause-conflict c =
    let m = c.args.durable.now.index in
    (λ ok. subst (λ x. conflicts m (rows_of x) c.args.client c.args.pieces.now ≡ false) (ap (λ s. s.map) c.self.view_is) (no_conflict m (rows_of c.self.inside.rows.map) c.args.client c.args.pieces.now (c.all_compatible.ensures.0 (grind (arith, c.if-not-all_compatible.false)))), λ e. refl)

pub returns-then-not-all_compatible-clause-conflict : goal.returns-then-not-all_compatible-clause-conflict
returns-then-not-all_compatible-clause-conflict c =
    let m = c.args.durable.now.index in (
      λ ok. absurd (cc),
      λ e. absurd (let yes = c.all_compatible.ensures.1 (compatible_all m (rows_of c.self.inside.rows.map) c.args.client c.args.pieces.now (subst (λ x. conflicts m (rows_of x) c.args.client c.args.pieces.now ≡ false) (sym (ap (λ s. s.map) c.self.view_is)) e)) in
          let no : c.all_compatible.result ≡ false = grind (arith, c.if-not-all_compatible.true) in let bad : true ≡ false = sym yes ∙ no in cc),
    )
