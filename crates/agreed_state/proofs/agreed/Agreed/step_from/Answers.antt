use Rattle.std.proofs.Common.{sym, subst, ◌∙◌}
use Rattle.agreed_state.specs.Agreed.{AgreedView, IsAgreed}
use Rattle.agreed_state.specs.AgreedLaws.{agreed-from}
use Rattle.agreed_state.proofs.Stepping.{from_stepped}
use Rattle.agreed_state.proofs.agreed.Agreed.step_from.Goals as goal

pub returns-clause-step : goal.returns-clause-step
returns-clause-step g c =
    from_stepped g.row.N c.args.config.now c.args.period c.args.self.now _ c.args.completed.now c.stepped-self-inside.result c.args.rows.now (c.self.view_is ∙ c.step_standing.ensures) c.stepped-self-inside.ensures

pub returns-clause-agreed : goal.returns-clause-agreed
returns-clause-agreed g c =
    subst (λ (a : AgreedView). IsAgreed g.row.N c.args.config.now a) (sym (returns-clause-step g c))
    (agreed-from g.row.N c.args.config.now c.args.period c.args.self.now c.args.completed.now c.args.rows.now c.requires.config c.requires.agreed c.requires.completed)
