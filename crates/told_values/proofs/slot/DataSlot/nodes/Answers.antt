use Rattle.std.proofs.Common.{ap}
use Rattle.told_values.specs.Slot.{SlotParts}
use Rattle.told_values.proofs.Opened.{opened}
use Rattle.told_values.proofs.slot.DataSlot.nodes.Goals as goal

pub returns-clause-nodes : goal.returns-clause-nodes
returns-clause-nodes g c = ap (λ (v : SlotParts _ g.row.N). v.config.nodes) c.self.view_is

pub returns-clause-slot : goal.returns-clause-slot
returns-clause-slot g c = opened g.D.Dues.dues c.self.view_is c.self.invariant
