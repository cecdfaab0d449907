use Rattle.std.proofs.Common.{refl, inl, inr, lit<}
use Rattle.at_once.proofs.period.Period.phase.Goals as goal

pub config-requires : goal.config-requires
config-requires g c = elim g.bound-1.eight_or_sixteen [ inl e ↦ rw e (lit< tt, lit< tt) | inr e ↦ rw e (lit< tt, lit< tt) ]

pub plan-requires : goal.plan-requires
plan-requires g c = elim g.bound-1.eight_or_sixteen [ inl e ↦ rw e (lit< tt, lit< tt) | inr e ↦ rw e (lit< tt, lit< tt) ]

pub awake-requires : goal.awake-requires
awake-requires g c = elim g.bound-1.eight_or_sixteen [ inl e ↦ rw e (lit< tt, lit< tt) | inr e ↦ rw e (lit< tt, lit< tt) ]

pub returns : goal.returns
returns g c = record {
  config = c.config.ensures.config;
  plan = c.plan.ensures.plan;
  period = refl;
  first_is = refl;
  full_is = refl;
  awake = c.awake.ensures.nodes;
  members = refl;
}
