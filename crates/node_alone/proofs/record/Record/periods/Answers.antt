use Rattle.std.proofs.Common.{inl, inr, lit<, ap, subst, ◌∙◌}
use Rattle.node_alone.specs.Log.{RecordView}
use Rattle.node_alone.specs.Seen.{IsRecord}
use Rattle.node_alone.proofs.record.Record.periods.Goals as goal

pub returns-clause-periods : goal.returns-clause-periods
returns-clause-periods g c = c.periods.ensures.periods ∙ ap (λ (r : RecordView g.row.N). r.scenario.periods) c.self.view_is

pub returns-clause-log : goal.returns-clause-log
returns-clause-log g c = subst (λ (r : RecordView g.row.N). IsRecord r) c.self.view_is c.self.invariant

pub periods-requires : goal.periods-requires
periods-requires g c = elim c.self.invariant.scenario.system.capacity [ inl e ↦ rw e (lit< tt) | inr e ↦ rw e (lit< tt) ]
