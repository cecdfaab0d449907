use Rattle.std.proofs.Common.{sym, ◌∙◌, arith}
use Rattle.node_grid.specs.SetFacts.{all_ids}
use Rattle.fault_classes.specs.Change.{is_manifest}
use Rattle.slot_plan.specs.Slots.{slot_count}
use Rattle.fault_classes.specs.Plan.{each_in_slot}
use Rattle.node_grid.specs.NodeSetLaws.{not_all_ids}
use Rattle.fault_classes.proofs.standing.PeriodLines.is_benign.Goals as goal

pub returns-then-not-is_benign_at : goal.returns-then-not-is_benign_at
returns-then-not-is_benign_at g c =
    sym (not_all_ids (each_in_slot c.args.self.now.index.now is_manifest c.args.self.now.period c.args.node) (slot_count c.args.self.now.index.now.rounds) c.loop-slot.slot (omega arith) (sym c.is_benign_at.ensures ∙ c.if-not-is_benign_at.true))

pub returns : goal.returns
returns g c = sym (all_ids (each_in_slot c.args.self.now.index.now is_manifest c.args.self.now.period c.args.node) (slot_count c.args.self.now.index.now.rounds) (λ k h. c.loop-slot.invariant k (omega arith)))
