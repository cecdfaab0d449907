use Rattle.std.proofs.Common.{ap, ◌∙◌}
use Rattle.node_grid.specs.NodeSet.{has_id}
use Rattle.told_values.specs.Slot.{SlotParts}
use Rattle.told_values.proofs.Opened.{opened}
use Rattle.told_values.proofs.slot.DataSlot.is_touched.Goals as goal

pub returns-clause-touched : goal.returns-clause-touched
returns-clause-touched g c = c.has.ensures ∙ ap (λ (v : SlotParts _ g.row.N). has_id v.touched c.args.i) c.self.view_is

pub returns-clause-slot : goal.returns-clause-slot
returns-clause-slot g c = opened g.D.Dues.dues c.self.view_is c.self.invariant
