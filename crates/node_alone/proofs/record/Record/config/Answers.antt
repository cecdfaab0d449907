use Rattle.std.proofs.Common.{inl, inr, lit<, ap, subst, ◌∙◌}
use Rattle.node_alone.specs.Log.{RecordView}
use Rattle.node_alone.specs.Seen.{IsRecord}
use Rattle.node_alone.proofs.record.Record.config.Goals as goal

pub returns-clause-config : goal.returns-clause-config
returns-clause-config g c = c.config.ensures.config ∙ ap (λ (r : RecordView g.row.N). r.scenario.config) c.self.view_is

pub returns-clause-log : goal.returns-clause-log
returns-clause-log g c = subst (λ (r : RecordView g.row.N). IsRecord r) c.self.view_is c.self.invariant

pub config-requires : goal.config-requires
config-requires g c = elim c.self.invariant.scenario.system.capacity [ inl e ↦ rw e (lit< tt, lit< tt) | inr e ↦ rw e (lit< tt, lit< tt) ]
