use Rattle.std.proofs.Common.{inl, inr, lit<, ap, ◌∙◌}
use Rattle.live_node.specs.Live.{LiveView}
use Rattle.live_node.proofs.live.Live.periods_run.Goals as goal

pub periods_run-requires : goal.periods_run-requires
periods_run-requires g c = elim g.bound-1.eight_or_sixteen [ inl e ↦ rw e (lit< tt) | inr e ↦ rw e (lit< tt) ]

pub returns : goal.returns
returns g c = c.periods_run.ensures ∙ ap (λ (x : LiveView g.row.N). x.run) c.self.view_is
