use Rattle.std.proofs.Common.{◌≤◌, ◌<◌, get_or, ap, ◌∙◌, arith, inl, inr, lit<}
use Rattle.std.proofs.lemmas.Bool.{cases_lt}
use Rattle.node_grid.specs.Count.{count}
use Rattle.error_reports.specs.Charge.{is_sender}
use Rattle.error_reports.proofs.Voters.{voters_few, charged_above, charged_none}
use Rattle.error_reports.proofs.charge_all.charged_all.Goals as goal

pub more_than-requires : goal.more_than-requires
more_than-requires g c =
    let rows = c.args.rows.now in
    let members = c.args.members.now in
    let few : count (is_sender rows) members ≤ 16 = omega (arith, c.tally-accusers.ensures.few, c.tally-accusers.ensures.senders) in (
      elim g.bound-1.eight_or_sixteen [ inl e ↦ rw e (lit< tt) | inr e ↦ rw e (lit< tt) ],
      (
        elim g.bound-1.eight_or_sixteen [ inl e ↦ rw e (lit< tt) | inr e ↦ rw e (lit< tt) ],
        (
          elim g.bound-1.eight_or_sixteen [ inl e ↦ rw e (lit< tt) | inr e ↦ rw e (lit< tt) ],
          λ j in_use. elim (cases_lt j c.args.nodes) [
            | inl used ↦ omega (arith, c.limits.ensures.voters j used, voters_few rows members j, few)
            | inr rest ↦ omega (arith, c.limits.ensures.rest j rest in_use)
          ],
        ),
      ),
    )

pub returns-clause-charged : goal.returns-clause-charged
returns-clause-charged g c = λ j used.
    let in_use : j < g.row.N = omega (arith, c.requires.nodes) in
    ap (λ masks. get_or masks j 0) c.result.view_is ∙ c.more_than.ensures j in_use
    ∙ charged_above c.tally-accusers.result.0 c.args.rows.now c.args.members.now j _ (c.limits.ensures.voters j used) (λ k few. c.tally-accusers.ensures.accusers j k in_use few)

pub returns-clause-rest : goal.returns-clause-rest
returns-clause-rest g c = λ j rest in_use.
    let few : count (is_sender c.args.rows.now) c.args.members.now ≤ 16 = omega (arith, c.tally-accusers.ensures.few, c.tally-accusers.ensures.senders) in
    ap (λ masks. get_or masks j 0) c.result.view_is ∙ c.more_than.ensures j in_use
    ∙ charged_none c.tally-accusers.result.0 c.args.rows.now c.args.members.now j _ (c.limits.ensures.rest j rest in_use) few (λ k low. c.tally-accusers.ensures.accusers j k in_use low)
