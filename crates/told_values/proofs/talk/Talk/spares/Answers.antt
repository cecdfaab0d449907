use Rattle.std.proofs.Common.{ℕ, sym, ◌∙◌, ◌||◌, arith}
use Rattle.std.specs.Prelude.{◌==◌}
use Rattle.node_grid.specs.NodeSetLaws.{not_all_ids}
use Rattle.node_grid.specs.NumberFacts.{other_fails}
use Rattle.node_grid.specs.SetFacts.{all_ids}
use Rattle.fault_classes.specs.Change.{change_of, is_untouched}
use Rattle.fault_classes.specs.Line.{effect_at}
use Rattle.fault_classes.specs.Facts.{change_touches}
use Rattle.told_values.proofs.talk.Talk.spares.Goals as goal

pub returns-then-is_some : goal.returns-then-is_some
returns-then-is_some g c =
    let lines = c.args.self.now.plan.now.lines in
    let to : ℕ = c.loop-to.to in
    sym (not_all_ids (λ k. k == c.args.from || is_untouched (effect_at lines c.args.self.now.period c.args.self.now.slot c.args.from k)) c.args.self.now.plan.now.nodes to
    (let t = c.loop-to-test.true in let n = c.args.self.now.of_plan in omega arith)
    (other_fails to c.args.from (is_untouched (effect_at lines c.args.self.now.period c.args.self.now.slot c.args.from to)) c.if-to-from.true
    (change_touches (λ e. change_of e.now) c.effect.result (effect_at lines c.args.self.now.period c.args.self.now.slot c.args.from to) c.effect.ensures (sym c.is_some.ensures ∙ c.if-is_some.true))))

pub returns : goal.returns
returns g c =
    sym (all_ids (λ k. k == c.args.from || is_untouched (effect_at c.args.self.now.plan.now.lines c.args.self.now.period c.args.self.now.slot c.args.from k)) c.args.self.now.plan.now.nodes
    (λ k h. c.loop-to.invariant k (let t = c.loop-to-test.false in let n = c.args.self.now.of_plan in omega arith)))
