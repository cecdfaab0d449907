use Rattle.std.proofs.Common.{not, sym, ap, subst, ◌∙◌, inl, inr, lit<}
use Rattle.std.specs.Prelude.{is_some}
use Rattle.live_node.specs.Live.{LiveView, is_open, allowed}
use Rattle.live_node.specs.Seen.{event_in}
use Rattle.live_node.specs.Standing.{IsLive}
use Rattle.live_node.proofs.Deciding.{begin_shut, begin_open}
use Rattle.live_node.proofs.Keeping.{open_some}
use Rattle.live_node.proofs.event_node.EventNode.allows.Goals as goal

pub may_begin-requires : goal.may_begin-requires
may_begin-requires g c =
    elim g.bound-1.eight_or_sixteen [ inl e ↦ rw e (lit< tt) | inr e ↦ rw e (lit< tt) ]

pub returns-then-not-is_open-clause-event : goal.returns-then-not-is_open-clause-event
returns-then-not-is_open-clause-event g c =
    λ room. begin_shut c.args.self.now c.is_some-is_open.result (c.is_some-is_open.ensures ∙ ap is_some c.self.invariant.slot_is ∙ open_some c.self.inside.node ∙ ap (λ (x : LiveView g.row.N). is_open x) c.self.view_is) c.in-Begin.named c.may_begin.result c.if-not-is_open.true c.may_begin.ensures ∙ ap (λ e. allowed c.args.self.now (event_in room e)) (sym c.in-Begin.is)

pub returns-else-not-is_open-clause-event : goal.returns-else-not-is_open-clause-event
returns-else-not-is_open-clause-event g c =
    λ room. begin_open c.args.self.now c.is_some-is_open.result (c.is_some-is_open.ensures ∙ ap is_some c.self.invariant.slot_is ∙ open_some c.self.inside.node ∙ ap (λ (x : LiveView g.row.N). is_open x) c.self.view_is) c.in-Begin.named c.if-not-is_open.false ∙ ap (λ e. allowed c.args.self.now (event_in room e)) (sym c.in-Begin.is)

pub returns-in-Deliver-clause-event : goal.returns-in-Deliver-clause-event
returns-in-Deliver-clause-event g c =
    λ room. elim c.in-Deliver.is [
      | inl p ↦ (c.is_some-is_open.ensures ∙ ap is_some c.self.invariant.slot_is ∙ open_some c.self.inside.node ∙ ap (λ (x : LiveView g.row.N). is_open x) c.self.view_is) ∙ ap (λ e. allowed c.args.self.now (event_in room e)) (sym p.3)
      | inr q ↦ elim q [
        | inl p ↦ (c.is_some-is_open.ensures ∙ ap is_some c.self.invariant.slot_is ∙ open_some c.self.inside.node ∙ ap (λ (x : LiveView g.row.N). is_open x) c.self.view_is) ∙ ap (λ e. allowed c.args.self.now (event_in room e)) (sym p)
        | inr p ↦ (c.is_some-is_open.ensures ∙ ap is_some c.self.invariant.slot_is ∙ open_some c.self.inside.node ∙ ap (λ (x : LiveView g.row.N). is_open x) c.self.view_is) ∙ ap (λ e. allowed c.args.self.now (event_in room e)) (sym p.2)
      ]
    ]

pub returns-in-Restart-clause-event : goal.returns-in-Restart-clause-event
returns-in-Restart-clause-event g c =
    λ room. elim c.in-Restart.is [
      | inl p ↦ ap not (c.is_some-is_open.ensures ∙ ap is_some c.self.invariant.slot_is ∙ open_some c.self.inside.node ∙ ap (λ (x : LiveView g.row.N). is_open x) c.self.view_is) ∙ ap (λ e. allowed c.args.self.now (event_in room e)) (sym p)
      | inr p ↦ ap not (c.is_some-is_open.ensures ∙ ap is_some c.self.invariant.slot_is ∙ open_some c.self.inside.node ∙ ap (λ (x : LiveView g.row.N). is_open x) c.self.view_is) ∙ ap (λ e. allowed c.args.self.now (event_in room e)) (sym p.2)
    ]

pub returns-then-not-is_open-clause-live : goal.returns-then-not-is_open-clause-live
returns-then-not-is_open-clause-live g c =
    subst (λ (x : LiveView g.row.N). IsLive x) c.self.view_is c.self.invariant.live

pub returns-else-not-is_open-clause-live : goal.returns-else-not-is_open-clause-live
returns-else-not-is_open-clause-live g c =
    subst (λ (x : LiveView g.row.N). IsLive x) c.self.view_is c.self.invariant.live

pub returns-in-Deliver-clause-live : goal.returns-in-Deliver-clause-live
returns-in-Deliver-clause-live g c =
    subst (λ (x : LiveView g.row.N). IsLive x) c.self.view_is c.self.invariant.live

pub returns-in-Restart-clause-live : goal.returns-in-Restart-clause-live
returns-in-Restart-clause-live g c =
    subst (λ (x : LiveView g.row.N). IsLive x) c.self.view_is c.self.invariant.live
