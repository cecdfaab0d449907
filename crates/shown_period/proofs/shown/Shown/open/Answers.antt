use Rattle.std.proofs.Common.{sym, ap, subst, ◌∙◌, inl, inr, lit<}
use Rattle.agreed_state.specs.Config.{IsConfig}
use Rattle.shared_states.specs.Sharing.{first_states}
use Rattle.shown_period.proofs.shown.Shown.open.Goals as goal

pub open-requires : goal.open-requires
open-requires g c = (elim g.bound-1.eight_or_sixteen [ inl e ↦ rw e (lit< tt) | inr e ↦ rw e (lit< tt) ], (elim g.bound-1.eight_or_sixteen [ inl e ↦ rw e (lit< tt) | inr e ↦ rw e (lit< tt) ], subst (IsConfig g.row.N) (sym c.config.ensures.config) c.config.ensures.scenario.system.config))

pub first-head-requires : goal.first-head-requires
first-head-requires g c = (elim g.bound-1.eight_or_sixteen [ inl e ↦ rw e (lit< tt) | inr e ↦ rw e (lit< tt) ], elim g.bound-1.eight_or_sixteen [ inl e ↦ rw e (lit< tt) | inr e ↦ rw e (lit< tt) ])

pub returns : goal.returns
returns g c = record { before = c.first-head.ensures; states = c.in_ok-made.ensures.0 ∙ ap (first_states g.row.N) c.config.ensures.config; beliefs = c.in_ok-made.ensures.1 }
