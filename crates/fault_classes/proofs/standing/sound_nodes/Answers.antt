use Rattle.std.proofs.Common.{◌≡◌, ◌<◌, suc, sym, ap, ◌∙◌, arith}
use Rattle.node_grid.specs.declared.class.Class.TheVariants.{N}
use Rattle.node_grid.specs.Class.{is_sound}
use Rattle.fault_classes.specs.Plan.{sound_before}
use Rattle.fault_classes.specs.ClassLaws.{sound_is}
use Rattle.fault_classes.proofs.Sets.{where_yes, where_no, where_end}
use Rattle.fault_classes.proofs.standing.sound_nodes.Goals as goal
use Rattle.fault_classes.proofs.standing.sound_nodes.Goals.{then-is_sound, else-is_sound}

pub loop-node-preserved : goal.loop-node-preserved
loop-node-preserved g c =
    let k = c.loop-node.node in
    let f = sound_before c.args.index.now (suc c.args.period) in
    let low : k < c.args.index.now.nodes = omega (arith, c.loop-node-test.true, c.nodes-nodes.ensures.nodes) in
    let told : c.is_sound.result ≡ f k = c.is_sound.ensures ∙ ap is_sound (c.requires.classed k N low) ∙ sound_is c.args.index.now c.args.period k low in
    elim c.if-is_sound.branch [
      | then-is_sound w ↦ w.found-is ∙ where_yes f g.row.N k c.loop-node.found w.put.new.self c.loop-node.invariant (sym told ∙ w.if-is_sound.true) w.put.ensures
      | else-is_sound w ↦ w.found-is ∙ where_no f g.row.N k c.loop-node.found c.loop-node.invariant (sym told ∙ w.if-is_sound.false)
    ]

pub returns : goal.returns
returns g c = where_end (sound_before c.args.index.now (suc c.args.period)) g.row.N c.args.index.now.nodes c.loop-node.node c.loop-node.found c.loop-node.invariant c.nodes-nodes.ensures.shape.few_nodes (omega (arith, c.loop-node-test.false, c.loop-node.auto.node-end, c.nodes-nodes.ensures.nodes))
