use Rattle.std.proofs.Common.{◌<◌, inl, inr, lit<, sym, subst, ◌∙◌, arith}
use Rattle.fault_classes.specs.Plan.{Plan, restarts_at}
use Rattle.cluster_periods.specs.Periods.{IsResting}
use Rattle.cluster_record.proofs.Planned.{planned_periods}
use Rattle.cluster_step.proofs.Waking.{woken_shut, begun_is}
use Rattle.cluster_step.proofs.stepping.Period.begin_node.Goals as goal

pub me-me-requires : goal.me-me-requires
me-me-requires g c = elim g.bound-1.eight_or_sixteen [ inl e ↦ rw e (lit< tt) | inr e ↦ rw e (lit< tt) ]

pub wake-requires : goal.wake-requires
wake-requires g c = (
  elim g.bound-1.eight_or_sixteen [ inl e ↦ rw e (lit< tt) | inr e ↦ rw e (lit< tt) ],
  (
    lit< tt,
    (
      subst (λ (p : Plan). IsResting p c.args.node.now) (sym c.plan.ensures.plan) c.requires.resting,
      omega (arith, planned_periods c.plan.ensures.plan c.plan.ensures.scenario, c.args.self.now.in_run),
    ),
  ),
)

pub plan-requires : goal.plan-requires
plan-requires g c = elim g.bound-1.eight_or_sixteen [ inl e ↦ rw e (lit< tt, lit< tt) | inr e ↦ rw e (lit< tt, lit< tt) ]

pub inputs-requires : goal.inputs-requires
inputs-requires g c =
    let me : c.me-me.result < c.args.self.now.scenario.now.config.nodes = omega (arith, c.me-me.ensures, c.requires.resting.me, c.plan.ensures.scenario.system.plan_nodes) in
    (elim g.bound-1.eight_or_sixteen [ inl e ↦ rw e (lit< tt) | inr e ↦ rw e (lit< tt) ], me)

pub begin-requires : goal.begin-requires
begin-requires g c =
    let me : c.me-me.result < c.args.self.now.scenario.now.config.nodes = omega (arith, c.me-me.ensures, c.requires.resting.me, c.plan.ensures.scenario.system.plan_nodes) in (
      elim g.bound-1.eight_or_sixteen [ inl e ↦ rw e (lit< tt) | inr e ↦ rw e (lit< tt) ],
      (
        woken_shut (restarts_at c.plan.result.now c.args.node.now.phase.me c.args.self.now.number) c.args.node.now c.wake.new.node c.wake.ensures c.requires.resting.shut,
        rw c.inputs.ensures (c.plan.ensures.scenario.system.inputs c.me-me.result c.args.self.now.number me).readings,
      ),
    )

pub returns : goal.returns
returns g c = c.begin.ensures ∙ begun_is c.args.self.now.scenario.now c.plan.result.now c.args.self.now.number c.args.node.now c.wake.new.node c.me-me.result c.inputs.result c.me-me.ensures c.plan.ensures.plan c.wake.ensures c.inputs.ensures
