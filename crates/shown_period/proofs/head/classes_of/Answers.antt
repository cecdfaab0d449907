use Rattle.std.proofs.Common.{◌<◌, length, length-set, ◌∙◌, arith}
use Rattle.std.proofs.lemmas.List.Edits.{fill_by_more}
use Rattle.std.proofs.lemmas.List.FromFn.{fill_by_all}
use Rattle.node_grid.specs.declared.class.Class.TheVariants.{N}
use Rattle.cluster_record.specs.Filling.{class_or_first}
use Rattle.shown_period.proofs.head.classes_of.Goals as goal

pub loop-node-preserved : goal.loop-node-preserved
loop-node-preserved g c =
    let within : c.loop-node.node < length c.loop-node.classes = omega (arith, c.loop-node.invariant.0, c.loop-node-test.true) in
    rw c.class_of.ensures
    (length-set _ _ _ ∙ c.loop-node.invariant.0, fill_by_more (class_or_first c.args.plan.now c.args.nodes c.args.period) c.loop-node.classes c.loop-node.node N within c.loop-node.invariant.1)

pub returns : goal.returns
returns g c =
    fill_by_all (class_or_first c.args.plan.now c.args.nodes c.args.period) c.loop-node.classes g.row.N N c.loop-node.invariant.0
    (λ k h. c.loop-node.invariant.1 k (omega (arith, c.loop-node-test.false)))
