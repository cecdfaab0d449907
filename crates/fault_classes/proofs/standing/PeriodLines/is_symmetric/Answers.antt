use Rattle.std.proofs.Common.{sym, ◌∙◌, arith}
use Rattle.slot_plan.specs.Slots.{slot_count}
use Rattle.node_grid.specs.SetFacts.{all_ids}
use Rattle.fault_classes.specs.Plan.{is_symmetric_at}
use Rattle.node_grid.specs.NodeSetLaws.{not_all_ids}
use Rattle.fault_classes.proofs.standing.PeriodLines.is_symmetric.Goals as goal

pub returns-then-not-is_symmetric_at : goal.returns-then-not-is_symmetric_at
returns-then-not-is_symmetric_at g c =
    sym (not_all_ids (is_symmetric_at c.args.self.now.index.now c.args.self.now.period c.args.node) (slot_count c.args.self.now.index.now.rounds) c.loop-slot.slot (omega arith) (sym c.is_symmetric_at.ensures ∙ c.if-not-is_symmetric_at.true))

pub returns : goal.returns
returns g c = sym (all_ids (is_symmetric_at c.args.self.now.index.now c.args.self.now.period c.args.node) (slot_count c.args.self.now.index.now.rounds) (λ k h. c.loop-slot.invariant k (omega arith)))
