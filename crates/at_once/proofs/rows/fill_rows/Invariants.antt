use Rattle.at_once.specs.Kept.{of_node}
use Rattle.at_once.specs.Phases.{node_rows}
use Rattle.at_once.proofs.FilledBeliefs.{AreFilled}
use Rattle.at_once.proofs.rows.fill_rows.Given as goal

abbrev pub invariant-loop-first : goal.invariant-loop-first
invariant-loop-first g l = AreFilled l.phase.awake l.groups (λ f b. record b { votes = of_node l.votes f; rows = node_rows l.phase l.rows f }) l.fn.beliefs l.first l.beliefs
