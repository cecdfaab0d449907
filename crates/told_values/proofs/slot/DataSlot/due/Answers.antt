use Rattle.std.proofs.Common.{sym, ap, subst, ◌∙◌}
use Rattle.node_grid.specs.NodeSet.{IsIdSet}
use Rattle.told_values.specs.Slot.{SlotParts, slot_of}
use Rattle.told_values.proofs.Opened.{opened}
use Rattle.told_values.proofs.Sending.{due_set}
use Rattle.told_values.proofs.slot.DataSlot.due.Goals as goal

pub returns-clause-due : goal.returns-clause-due
returns-clause-due g c = c.due.ensures ∙ ap (λ (v : SlotParts _ g.row.N). g.D.Dues.dues v.dues c.args.i) c.self.view_is

pub returns-clause-slot : goal.returns-clause-slot
returns-clause-slot g c = opened g.D.Dues.dues c.self.view_is c.self.invariant

pub returns-clause-set : goal.returns-clause-set
returns-clause-set g c =
    subst (IsIdSet 8) (sym (c.due.ensures ∙ ap (λ (v : SlotParts _ g.row.N). g.D.Dues.dues v.dues c.args.i) c.self.view_is))
    (due_set (slot_of g.D.Dues.dues c.args.self.now) (opened g.D.Dues.dues c.self.view_is c.self.invariant) c.args.i c.requires)
