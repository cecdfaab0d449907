use Rattle.std.proofs.Common.{ℕ, ◌≡◌, ◌-◌, List, map, inl, inr, lit<, ap, ap₂, ◌∙◌, arith}
use Rattle.agreed_state.specs.declared.config.Config.{Config}
use Rattle.scenario.specs.Scenario.{ScenarioView}
use Rattle.cluster_periods.specs.Slots.{by_senders, frame_by}
use Rattle.cluster_step.proofs.Pieces.{all_here, ready_still}
use Rattle.cluster_step.proofs.delivering.SlotFrames.deliver_all.Goals as goal

pub order-order-requires : goal.order-order-requires
order-order-requires g c = elim g.bound-1.eight_or_sixteen [ inl e ↦ rw e (lit< tt) | inr e ↦ rw e (lit< tt) ]

pub config-requires : goal.config-requires
config-requires g c = elim g.bound-1.eight_or_sixteen [ inl e ↦ rw e (lit< tt, lit< tt) | inr e ↦ rw e (lit< tt, lit< tt) ]

pub deliver_senders-requires : goal.deliver_senders-requires
deliver_senders-requires g c =
    let sc : ScenarioView g.row.N = c.args.self.now.period.now.scenario.now in
    let nodes : c.config.result.now.nodes ≡ sc.config.nodes = ap (λ (y : Config g.row.N). y.nodes) c.config.ensures.config in
    (lit< tt, (elim g.bound-1.eight_or_sixteen [ inl e ↦ rw e (lit< tt) | inr e ↦ rw e (lit< tt) ], (c.requires, (omega (arith, nodes, c.order-order.ensures.order, c.order-order.ensures.scenario.order), omega (arith, nodes)))))

pub deliver_senders-requires-2 : goal.deliver_senders-requires-2
deliver_senders-requires-2 g c =
    let sc : ScenarioView g.row.N = c.args.self.now.period.now.scenario.now in
    let ready = ready_still sc.plan c.args.node.now c.deliver_senders.new.node _ c.deliver_senders.ensures c.requires in
    (lit< tt, (elim g.bound-1.eight_or_sixteen [ inl e ↦ rw e (lit< tt) | inr e ↦ rw e (lit< tt) ], (ready, (omega arith, omega (arith, c.order-order.ensures.order, c.order-order.ensures.scenario.order)))))

pub returns : goal.returns
returns g c =
    let sc : ScenarioView g.row.N = c.args.self.now.period.now.scenario.now in
    let p : ℕ = c.args.self.now.period.now.number in
    let frames : List (List ℕ) = map (λ f. f.items) c.args.self.now.frames.now in
    let nodes : c.config.result.now.nodes ≡ sc.config.nodes = ap (λ (y : Config g.row.N). y.nodes) c.config.ensures.config in
    let before : c.order-order.result - 0 ≡ sc.order = omega (arith, c.order-order.ensures.order) in
    all_here sc.plan sc.order sc.config.nodes p c.args.self.now.slot frames c.args.node.now c.deliver_senders.new.node c.deliver_senders-2.new.node
    (c.deliver_senders.ensures ∙ ap₂ (λ (o n : ℕ). by_senders sc.plan p c.args.self.now.slot (frame_by frames) o (n - o) c.args.node.now) c.order-order.ensures.order nodes)
    (c.deliver_senders-2.ensures ∙ ap (λ (k : ℕ). by_senders sc.plan p c.args.self.now.slot (frame_by frames) 0 k c.deliver_senders.new.node) before)
