use Rattle.std.proofs.Common.{inl, inr, lit<, ap, ◌∙◌}
use Rattle.live_node.specs.Live.{LiveView, is_open}
use Rattle.live_node.proofs.live.Live.is_open.Goals as goal

pub is_open-requires : goal.is_open-requires
is_open-requires g c = elim g.bound-1.eight_or_sixteen [ inl e ↦ rw e (lit< tt) | inr e ↦ rw e (lit< tt) ]

pub returns : goal.returns
returns g c = c.is_open.ensures ∙ ap (λ (x : LiveView g.row.N). is_open x) c.self.view_is
