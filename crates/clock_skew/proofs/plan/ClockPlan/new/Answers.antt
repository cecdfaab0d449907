use Rattle.std.proofs.Common.{rules, w64, refl}
use Rattle.std.specs.Prelude.{FitsSigned}
use Rattle.std.proofs.lemmas.Int.{to_z-of_z}
use Rattle.clock_skew.proofs.plan.ClockPlan.new.Goals as goal

pub invariant_of-result : goal.invariant_of-result
invariant_of-result g c =
    let epsilon : FitsSigned w64 c.args.course.epsilon = search rules in
    let drift : FitsSigned w64 c.args.course.drift = search rules in
    rw (to_z-of_z w64 c.args.course.epsilon epsilon, to_z-of_z w64 c.args.course.drift drift) c.requires.clock

pub returns : goal.returns
returns g c =
    let epsilon : FitsSigned w64 c.args.course.epsilon = search rules in
    let drift : FitsSigned w64 c.args.course.drift = search rules in
    rw (to_z-of_z w64 c.args.course.epsilon epsilon, to_z-of_z w64 c.args.course.drift drift) refl
