use Rattle.std.proofs.Common.{sym, ◌∙◌, arith}
use Rattle.fault_classes.specs.Plan.{steady, sound_before}
use Rattle.fault_classes.proofs.Sets.{where_yes, where_no, where_end}
use Rattle.fault_classes.proofs.standing.PeriodLines.steady_nodes.Goals as goal
use Rattle.fault_classes.proofs.standing.PeriodLines.steady_nodes.Goals.{then-is_steady, else-is_steady}

pub loop-node-preserved : goal.loop-node-preserved
loop-node-preserved g c = elim c.if-is_steady.branch [
  | then-is_steady w ↦ w.found-is ∙ where_yes (steady c.args.self.now.index.now c.args.self.now.period (sound_before c.args.self.now.index.now c.args.self.now.period)) g.row.N c.loop-node.node c.loop-node.found w.put.new.self c.loop-node.invariant (sym c.is_steady.ensures ∙ w.if-is_steady.true) w.put.ensures
  | else-is_steady w ↦ w.found-is ∙ where_no (steady c.args.self.now.index.now c.args.self.now.period (sound_before c.args.self.now.index.now c.args.self.now.period)) g.row.N c.loop-node.node c.loop-node.found c.loop-node.invariant (sym c.is_steady.ensures ∙ w.if-is_steady.false)
]

pub returns : goal.returns
returns g c = where_end (steady c.args.self.now.index.now c.args.self.now.period (sound_before c.args.self.now.index.now c.args.self.now.period)) g.row.N c.args.self.now.index.now.nodes c.loop-node.node c.loop-node.found c.loop-node.invariant c.nodes-nodes.ensures.shape.few_nodes (omega (arith, c.loop-node-test.false, c.loop-node.auto.node-end, c.nodes-nodes.ensures.nodes))
