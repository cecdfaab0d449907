use Rattle.std.proofs.Common.{ap, subst, ◌∙◌}
use Rattle.clock_skew.specs.Clock.{ClockView, IsClock}
use Rattle.clock_skew.proofs.Fitting.{bound_read}
use Rattle.clock_skew.proofs.plan.ClockPlan.epsilon.Goals as goal

pub returns-clause-epsilon : goal.returns-clause-epsilon
returns-clause-epsilon g c = bound_read c.self.inside.epsilon c.self.invariant.epsilon ∙ ap (λ (v : ClockView). v.epsilon) c.self.view_is

pub returns-clause-clock : goal.returns-clause-clock
returns-clause-clock g c = subst (IsClock g.row.N) c.self.view_is c.self.invariant
