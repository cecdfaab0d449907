use Rattle.std.proofs.Common.{ℕ, List, [], get_or, inl, inr, lit<, ap, subst, sym, ◌∙◌, arith, ◌<◌, refl, length}
use Rattle.std.specs.Prelude.{slice_index_or}
use Rattle.slot_plan.specs.Slots.{slot_count}
use Rattle.node_grid.specs.ListFacts.{holds_here}
use Rattle.node_grid.specs.NumberFacts.{offset_fits}
use Rattle.node_steps.specs.Parts.{NodeView}
use Rattle.scenario.specs.Scenario.{ScenarioView}
use Rattle.cluster_periods.specs.Slots.{through_slot, IsReady}
use Rattle.cluster_periods.proofs.Handing.{put_over, all_put}
use Rattle.cluster_step.proofs.stepping.Period.step_each.Goals as goal

pub frames-requires : goal.frames-requires
frames-requires g c = (elim g.bound-1.eight_or_sixteen [ inl e ↦ rw e (lit< tt) | inr e ↦ rw e (lit< tt) ], subst (λ (m : ℕ). c.args.slot < slot_count m) (sym c.requires.shape.m) c.requires.slot)

pub loop-node-init : goal.loop-node-init
loop-node-init g c = refl

pub step_node-requires : goal.step_node-requires
step_node-requires g c =
    let sc : ScenarioView g.row.N = c.args.self.now.scenario.now in
    let frames : List (List ℕ) = slice_index_or c.args.shown.now.sent c.args.slot [] in
    let node : NodeView g.row.N = get_or c.loop-node.nodes c.loop-node.node-index c.node-item.result in
    let ready : IsReady sc.plan node = subst (IsReady sc.plan) c.node-item.is (holds_here (IsReady sc.plan) (through_slot sc.plan sc.order sc.config.nodes c.args.self.now.number c.args.slot frames) c.args.nodes.now c.loop-node.nodes c.loop-node.node-index c.node-item.result c.loop-node-test.true c.loop-node.invariant c.node-item.is c.requires.ready) in (
      lit< tt,
      (
        elim g.bound-1.eight_or_sixteen [ inl e ↦ rw e (lit< tt) | inr e ↦ rw e (lit< tt) ],
        ready,
      ),
    )

pub loop-node-preserved : goal.loop-node-preserved
loop-node-preserved g c =
    let sc : ScenarioView g.row.N = c.args.self.now.scenario.now in
    let frames : List (List ℕ) = slice_index_or c.args.shown.now.sent c.args.slot [] in
    let node : NodeView g.row.N = get_or c.loop-node.nodes c.loop-node.node-index c.node-item.result in
    put_over (through_slot sc.plan sc.order sc.config.nodes c.args.self.now.number c.args.slot frames) c.args.nodes.now c.loop-node.nodes c.loop-node.node-index c.node-item.result c.step_node.new.node c.loop-node-test.true c.loop-node.invariant c.node-item.is
    (c.step_node.ensures ∙ ap (λ (fs : List (List ℕ)). through_slot sc.plan sc.order sc.config.nodes c.args.self.now.number c.args.slot fs node) c.frames.ensures.bytes)

pub returns : goal.returns
returns g c =
    let sc : ScenarioView g.row.N = c.args.self.now.scenario.now in
    all_put (through_slot sc.plan sc.order sc.config.nodes c.args.self.now.number c.args.slot (slice_index_or c.args.shown.now.sent c.args.slot [])) c.args.nodes.now c.loop-node.nodes c.loop-node.node-index (omega (arith, c.loop-node-test.false)) c.loop-node.invariant

pub bounds-nodes-node-index : goal.bounds-nodes-node-index
bounds-nodes-node-index g c = omega (arith, c.loop-node-test.true, c.loop-node.auto.nodes)

pub loop-node-smaller : goal.loop-node-smaller
loop-node-smaller g c = omega (arith, c.loop-node-test.true)

pub offset_bounds-nodes-node-index : goal.offset_bounds-nodes-node-index
offset_bounds-nodes-node-index g c = record { fits = offset_fits c.loop-node.node-index (length c.args.nodes.now) _ c.loop-node-test.true c.well_formed.1.1.1.0.1 }

pub invariant_of-sent : goal.invariant_of-sent
invariant_of-sent g c = record { in_period = c.requires.slot; each = c.frames.ensures.each ∙ c.requires.shape.nodes; short = c.frames.ensures.short }
