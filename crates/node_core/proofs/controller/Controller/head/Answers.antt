use Rattle.std.proofs.Common.{ap, ◌∙◌, ℕ}
use Rattle.node_steps.specs.Parts.{NodeView}
use Rattle.node_steps.specs.Ready.{head_now}
use Rattle.node_core.specs.Inside.{seen}
use Rattle.node_core.proofs.controller.Controller.head.Goals as goal

pub number-requires-clause-rounds : goal.number-requires-clause-rounds
number-requires-clause-rounds g c = c.self.invariant.place.few_rounds

pub number-requires-clause-slot : goal.number-requires-clause-slot
number-requires-clause-slot g c = c.self.invariant.slot

pub returns : goal.returns
returns g c = ap (λ (s : ℕ). record (head_now (seen c.self.inside)) { slot = s }) c.number.ensures.number ∙ ap (λ (v : NodeView g.row.N). head_now v) c.self.view_is
