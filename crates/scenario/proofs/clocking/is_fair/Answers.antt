use Rattle.std.proofs.Common.{◌≡◌, ℕ, Bool, true, sym, ap, ◌∙◌, ◌+◌}
use Rattle.clock_skew.specs.Clock.{lie_of}
use Rattle.scenario.specs.Rules.{is_to_all, may_tell, may_tell_in}
use Rattle.scenario.proofs.Lying.{all_here}
use Rattle.scenario.proofs.clocking.is_fair.Goals as goal

pub loop-period-preserved : goal.loop-period-preserved
loop-period-preserved g c =
    let plan = c.args.plan.now in
    let l = lie_of c.args.lie.now in
    let to_all = c.is_to_all-to_all.ensures ∙ ap (λ (n : ℕ). is_to_all n l) c.requires.nodes in
    let told : may_tell_in plan l c.loop-period.period ≡ true =
    sym (c.may_tell.ensures ∙ ap (λ (b : Bool). may_tell b c.class.result) to_all ∙ ap (may_tell (is_to_all plan.nodes l)) c.class.ensures) ∙ c.if-not-may_tell.false in
    all_here (may_tell_in plan l) c.loop-period.period (c.args.lie.now.last + 1) c.loop-period-test.true told ∙ c.loop-period.invariant
