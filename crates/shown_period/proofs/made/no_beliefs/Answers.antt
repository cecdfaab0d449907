use Rattle.std.proofs.Common.{ℕ, ◌+◌, length, ap, ◌∙◌, arith}
use Rattle.std.proofs.lemmas.List.{length_push}
use Rattle.shown_period.proofs.made.no_beliefs.Goals as goal

pub loop-init : goal.loop-init
loop-init g c = ap length c.in_ok-beliefs.ensures.items

pub loop-preserved : goal.loop-preserved
loop-preserved g c = ap length c.in_ok-push.ensures.items ∙ length_push c.loop.beliefs.items c.none.result ∙ ap (λ (n : ℕ). n + 1) c.loop.invariant

pub returns : goal.returns
returns g c = omega (arith, c.loop.invariant, c.loop.auto.counter-end, c.loop-test.false)
