use Rattle.std.proofs.Common.{nat_lt, length, sym, ap, ◌∙◌, inl, inr, lit<}
use Rattle.std.specs.Prelude.{is_some}
use Rattle.node_grid.specs.TruthFacts.{is_some_map}
use Rattle.agreed_state.specs.declared.config.Config.{Config}
use Rattle.live_node.specs.Live.{LiveView, is_other, is_of_cluster}
use Rattle.live_node.specs.Seen.{event_in}
use Rattle.live_node.proofs.Held.{and_true, and_false}
use Rattle.live_node.proofs.event_node.EventNode.is_of_cluster.Goals as goal

pub is_other-requires : goal.is_other-requires
is_other-requires g c =
    elim g.bound-1.eight_or_sixteen [ inl e ↦ rw e (lit< tt) | inr e ↦ rw e (lit< tt) ]

pub is_other-requires-in-Ahead : goal.is_other-requires-in-Ahead
is_other-requires-in-Ahead g c =
    elim g.bound-1.eight_or_sixteen [ inl e ↦ rw e (lit< tt) | inr e ↦ rw e (lit< tt) ]

pub config-requires : goal.config-requires
config-requires g c =
    elim g.bound-1.eight_or_sixteen [ inl e ↦ rw e (lit< tt, lit< tt) | inr e ↦ rw e (lit< tt, lit< tt) ]

pub len-requires : goal.len-requires
len-requires g c =
    elim g.bound-1.eight_or_sixteen [ inl e ↦ rw e (lit< tt) | inr e ↦ rw e (lit< tt) ]

pub clock-requires : goal.clock-requires
clock-requires g c =
    elim g.bound-1.eight_or_sixteen [ inl e ↦ rw e (lit< tt, lit< tt) | inr e ↦ rw e (lit< tt, lit< tt) ]

pub returns-in-Begin : goal.returns-in-Begin
returns-in-Begin g c =
    λ room. elim c.in-Begin.is [
      | inl p ↦ sym (ap (λ e. is_of_cluster c.args.self.now (event_in room e)) p.1)
      | inr q ↦ elim q [ inl p ↦ sym (ap (λ e. is_of_cluster c.args.self.now (event_in room e)) p) | inr p ↦ sym (ap (λ e. is_of_cluster c.args.self.now (event_in room e)) p) ]
    ]

pub returns-in-Deliver : goal.returns-in-Deliver
returns-in-Deliver g c =
    λ room. c.is_other.ensures ∙ sym (ap (λ e. is_of_cluster c.args.self.now (event_in room e)) c.in-Deliver.is)

pub returns-in-Reading : goal.returns-in-Reading
returns-in-Reading g c =
    λ room.
    ap (nat_lt c.in-Reading.channel)
    (c.len.ensures.value ∙ ap (λ (y : Config g.row.N). length y.channels.items) c.config.ensures.config ∙ ap (λ (x : LiveView g.row.N). length x.scenario.config.channels.items) c.self.view_is)
    ∙ sym (ap (λ e. is_of_cluster c.args.self.now (event_in room e)) c.in-Reading.is)

pub returns-then-is_other : goal.returns-then-is_other
returns-then-is_other g c =
    λ room.
    c.is_some.ensures ∙ sym (is_some_map _ c.clock.result) ∙ ap is_some c.clock.ensures.clock ∙ ap (λ (x : LiveView g.row.N). is_some x.scenario.clock) c.self.view_is
    ∙ and_true (is_other c.args.self.now c.in-Ahead.node) (is_some c.args.self.now.scenario.clock) (sym c.is_other-in-Ahead.ensures ∙ c.if-is_other.true)
    ∙ sym (ap (λ e. is_of_cluster c.args.self.now (event_in room e)) c.in-Ahead.is)

pub returns-else-is_other : goal.returns-else-is_other
returns-else-is_other g c =
    λ room.
    c.is_other-in-Ahead.ensures ∙ and_false (is_other c.args.self.now c.in-Ahead.node) (is_some c.args.self.now.scenario.clock) (sym c.is_other-in-Ahead.ensures ∙ c.if-is_other.false)
    ∙ sym (ap (λ e. is_of_cluster c.args.self.now (event_in room e)) c.in-Ahead.is)
