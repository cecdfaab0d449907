use Rattle.std.proofs.Common.{◌+◌, ap}
use Rattle.told_values.specs.Slot.{SlotParts}
use Rattle.told_values.proofs.slot.DataSlot.talk.Goals as goal

pub returns-clause-plan : goal.returns-clause-plan
returns-clause-plan g c = ap (λ (v : SlotParts _ g.row.N). v.plan) c.self.view_is

pub returns-clause-period : goal.returns-clause-period
returns-clause-period g c = ap (λ (v : SlotParts _ g.row.N). v.period) c.self.view_is

pub returns-clause-slot : goal.returns-clause-slot
returns-clause-slot g c = ap (λ (v : SlotParts _ g.row.N). v.config.m + 2) c.self.view_is

pub returns-clause-nodes : goal.returns-clause-nodes
returns-clause-nodes g c = ap (λ (v : SlotParts _ g.row.N). v.config.nodes) c.self.view_is
