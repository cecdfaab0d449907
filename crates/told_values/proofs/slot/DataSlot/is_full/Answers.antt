use Rattle.std.proofs.Common.{ap, ◌∙◌}
use Rattle.node_grid.specs.NodeSet.{has_id}
use Rattle.told_values.specs.Slot.{SlotParts}
use Rattle.told_values.proofs.slot.DataSlot.is_full.Goals as goal

pub returns : goal.returns
returns g c = c.has.ensures ∙ ap (λ (v : SlotParts _ g.row.N). has_id v.full c.args.i) c.self.view_is
