use Rattle.std.proofs.Common.{ap, subst, ◌∙◌}
use Rattle.clock_skew.specs.Clock.{ClockView, IsClock}
use Rattle.clock_skew.proofs.Fitting.{bound_read}
use Rattle.clock_skew.proofs.plan.ClockPlan.drift.Goals as goal

pub returns-clause-drift : goal.returns-clause-drift
returns-clause-drift g c = bound_read c.self.inside.drift c.self.invariant.drift ∙ ap (λ (v : ClockView). v.drift) c.self.view_is

pub returns-clause-clock : goal.returns-clause-clock
returns-clause-clock g c = subst (IsClock g.row.N) c.self.view_is c.self.invariant
