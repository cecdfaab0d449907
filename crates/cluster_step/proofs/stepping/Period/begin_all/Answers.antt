use Rattle.std.proofs.Common.{length, inl, inr, lit<, refl, subst, arith}
use Rattle.node_grid.specs.ListFacts.{holds_here}
use Rattle.node_grid.specs.NumberFacts.{offset_fits}
use Rattle.cluster_periods.specs.Periods.{begun_by, IsResting}
use Rattle.cluster_periods.proofs.Handing.{put_over, all_put}
use Rattle.cluster_step.proofs.stepping.Period.begin_all.Goals as goal

pub begin_node-requires : goal.begin_node-requires
begin_node-requires g c = (
  lit< tt,
  (
    elim g.bound-1.eight_or_sixteen [ inl e ↦ rw e (lit< tt) | inr e ↦ rw e (lit< tt) ],
    subst (IsResting c.args.self.now.scenario.now.plan) c.node-item.is
        (holds_here (IsResting c.args.self.now.scenario.now.plan) (begun_by c.args.self.now.scenario.now c.args.self.now.number) c.args.nodes.now c.loop-node.nodes c.loop-node.node-index c.node-item.result c.loop-node-test.true c.loop-node.invariant c.node-item.is c.requires.resting),
  ),
)

pub loop-node-preserved : goal.loop-node-preserved
loop-node-preserved g c =
    put_over (begun_by c.args.self.now.scenario.now c.args.self.now.number) c.args.nodes.now c.loop-node.nodes c.loop-node.node-index c.node-item.result c.begin_node.new.node c.loop-node-test.true c.loop-node.invariant c.node-item.is c.begin_node.ensures

pub returns : goal.returns
returns g c =
    all_put (begun_by c.args.self.now.scenario.now c.args.self.now.number) c.args.nodes.now c.loop-node.nodes c.loop-node.node-index (omega (arith, c.loop-node-test.false)) c.loop-node.invariant

pub bounds-nodes-node-index : goal.bounds-nodes-node-index
bounds-nodes-node-index g c = omega (arith, c.loop-node-test.true, c.loop-node.auto.nodes)

pub loop-node-init : goal.loop-node-init
loop-node-init g c = refl

pub loop-node-smaller : goal.loop-node-smaller
loop-node-smaller g c = omega (arith, c.loop-node-test.true)

pub offset_bounds-nodes-node-index : goal.offset_bounds-nodes-node-index
offset_bounds-nodes-node-index g c = record { fits = offset_fits c.loop-node.node-index (length c.args.nodes.now) _ c.loop-node-test.true c.well_formed.1.0.1 }
