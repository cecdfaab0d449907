use Rattle.at_once.specs.Phases.{node_claims}
use Rattle.at_once.proofs.FilledBeliefs.{AreFilled}
use Rattle.at_once.proofs.claims.fill_claims.Given as goal

abbrev pub invariant-loop-first : goal.invariant-loop-first
invariant-loop-first g l = AreFilled l.phase.awake l.groups (λ f b. record b { done = node_claims l.phase l.claims f }) l.fn.beliefs l.first l.beliefs
