use Rattle.std.proofs.Common.{ap}
use Rattle.told_values.specs.Slot.{SlotParts}
use Rattle.told_values.proofs.slot.DataSlot.touched.Goals as goal

pub returns : goal.returns
returns g c = ap (λ (v : SlotParts _ g.row.N). v.touched) c.self.view_is
