use Rattle.std.proofs.Common.{[], ap, ◌∙◌}
use Rattle.std.specs.Prelude.{slice_index_or}
use Rattle.told_values.specs.Slot.{SlotParts}
use Rattle.told_values.proofs.Opened.{opened}
use Rattle.told_values.proofs.slot.DataSlot.own.Goals as goal

pub returns-clause-own : goal.returns-clause-own
returns-clause-own g c = c.own_among.ensures ∙ ap (λ (v : SlotParts _ g.row.N). slice_index_or v.owns c.args.i []) c.self.view_is

pub returns-clause-slot : goal.returns-clause-slot
returns-clause-slot g c = opened g.D.Dues.dues c.self.view_is c.self.invariant
