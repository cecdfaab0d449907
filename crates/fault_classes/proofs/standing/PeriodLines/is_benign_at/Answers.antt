use Rattle.std.proofs.Common.{◌≡◌, false, sym, ap, ◌∙◌, arith, ◌||◌}
use Rattle.std.specs.Prelude.{◌==◌}
use Rattle.node_grid.specs.NumberFacts.{other_fails}
use Rattle.node_grid.specs.SetFacts.{all_ids}
use Rattle.fault_classes.specs.Change.{is_manifest}
use Rattle.fault_classes.specs.Line.{effect_at}
use Rattle.node_grid.specs.NodeSetLaws.{not_all_ids}
use Rattle.fault_classes.proofs.standing.PeriodLines.is_benign_at.Goals as goal

pub returns-then-not-is_manifest : goal.returns-then-not-is_manifest
returns-then-not-is_manifest g c =
    let lines = c.args.self.now.index.now.lines in
    let to = c.loop-to.to in
    let miss : is_manifest (effect_at lines c.args.self.now.period c.args.slot c.args.node to) ≡ false = sym (c.is_manifest.ensures ∙ ap is_manifest c.effect.ensures) ∙ c.if-not-is_manifest.true in
    sym (not_all_ids (λ k. k == c.args.node || is_manifest (effect_at lines c.args.self.now.period c.args.slot c.args.node k)) c.args.self.now.index.now.nodes to (omega arith)
    (other_fails to c.args.node _ c.if-to-node.true miss))

pub returns : goal.returns
returns g c = sym (all_ids (λ k. k == c.args.node || is_manifest (effect_at c.args.self.now.index.now.lines c.args.self.now.period c.args.slot c.args.node k)) c.args.self.now.index.now.nodes (λ k h. c.loop-to.invariant k (omega arith)))
