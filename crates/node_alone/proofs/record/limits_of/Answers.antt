use Rattle.std.proofs.Common.{◌≡◌, ◌≤◌, inl, inr, lit<, sym, ap, ap₂, ◌∙◌, arith}
use Rattle.slot_plan.specs.Slots.{slot_count}
use Rattle.agreed_state.specs.declared.config.Config.{Config}
use Rattle.agreed_state.specs.ConfigLaws.{few_rounds}
use Rattle.node_alone.proofs.Accepted.{same_limits}
use Rattle.node_alone.proofs.record.limits_of.Goals as goal

pub config-config-requires : goal.config-config-requires
config-config-requires g c = (elim g.bound-1.eight_or_sixteen [ inl e ↦ rw e (lit< tt) | inr e ↦ rw e (lit< tt) ], elim g.bound-1.eight_or_sixteen [ inl e ↦ rw e (lit< tt) | inr e ↦ rw e (lit< tt) ])

pub slot_count-requires : goal.slot_count-requires
slot_count-requires g c =
    let m : c.config-config.result.now.m ≡ c.args.scenario.now.config.m = ap (λ (y : Config g.row.N). y.m) c.config-config.ensures.config in
    omega (arith, m, few_rounds g.row.N c.args.scenario.now.config c.config-config.ensures.scenario.system.config)

pub periods-requires : goal.periods-requires
periods-requires g c = elim g.bound-1.eight_or_sixteen [ inl e ↦ rw e (lit< tt) | inr e ↦ rw e (lit< tt) ]

pub returns : goal.returns
returns g c = same_limits c.args.scenario.now c.args.id c.config-config.result.now c.slot_count.result c.periods.result c.config-config.ensures.config c.slot_count.ensures c.periods.ensures.periods
