use Rattle.std.proofs.Common.{ap}
use Rattle.told_values.specs.Slot.{SlotParts}
use Rattle.told_values.proofs.Opened.{opened}
use Rattle.told_values.proofs.slot.DataSlot.config.Goals as goal

pub returns-clause-config : goal.returns-clause-config
returns-clause-config g c = ap (λ (v : SlotParts _ g.row.N). v.config) c.self.view_is

pub returns-clause-slot : goal.returns-clause-slot
returns-clause-slot g c = opened g.D.Dues.dues c.self.view_is c.self.invariant
