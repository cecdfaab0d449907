use Rattle.std.proofs.Common.{ap, ◌∙◌, sym, subst, inl, inr, lit<}
use Rattle.penalty.specs.Step.{IsCounted}
use Rattle.agreed_state.specs.Agreed.{AgreedView}
use Rattle.agreed_state.proofs.Stepping.{standing_same, standing_stepped}
use Rattle.agreed_state.proofs.agreed.Agreed.step_standing.Goals as goal

pub returns : goal.returns
returns g c =
    standing_same g.row.N c.args.config.now _ c.args.rows.now c.charged_all-charges.result _ _ _ _
    c.charged_all-charges.ensures.charged c.step.ensures.counts c.step.ensures.streaks c.next-self-inside.ensures.members c.next-self-inside.ensures.left
    ∙ ap (standing_stepped g.row.N c.args.config.now c.args.rows.now) c.self.view_is

pub charged_all-charges-requires : goal.charged_all-charges-requires
charged_all-charges-requires g c = (
  elim g.bound-1.eight_or_sixteen [ inl e ↦ rw e (lit< tt) | inr e ↦ rw e (lit< tt) ],
  (
    lit< tt,
    (elim g.bound-1.eight_or_sixteen [ inl e ↦ rw e (lit< tt) | inr e ↦ rw e (lit< tt) ], c.requires.config.few_nodes),
  ),
)

pub step-requires : goal.step-requires
step-requires g c =
    let counted = subst (λ (v : AgreedView). IsCounted c.args.config.now.policy c.args.config.now.nodes v.standing.counts v.standing.streaks) (sym c.self.view_is) c.requires.agreed.standing.counted in (
      elim g.bound-1.eight_or_sixteen [ inl e ↦ rw e (lit< tt) | inr e ↦ rw e (lit< tt) ],
      (
        elim g.bound-1.eight_or_sixteen [ inl e ↦ rw e (lit< tt) | inr e ↦ rw e (lit< tt) ],
        (c.requires.config.few_nodes, (c.requires.config.policy, counted)),
      ),
    )

pub next-self-inside-requires : goal.next-self-inside-requires
next-self-inside-requires g c = (
  lit< tt,
  (
    elim g.bound-1.eight_or_sixteen [ inl e ↦ rw e (lit< tt) | inr e ↦ rw e (lit< tt) ],
    (elim g.bound-1.eight_or_sixteen [ inl e ↦ rw e (lit< tt) | inr e ↦ rw e (lit< tt) ], c.requires.config.few_nodes),
  ),
)
