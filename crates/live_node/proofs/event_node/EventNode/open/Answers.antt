use Rattle.std.proofs.Common.{◌≡◌, sym, ap, subst, arith, inl, inr, lit<}
use Rattle.std.specs.Prelude.{vec_capacity}
use Rattle.agreed_state.specs.declared.config.Config.{Config}
use Rattle.agreed_state.specs.ConfigLaws.{few_rounds}
use Rattle.agreed_state.specs.Config.{IsConfig}
use Rattle.node_steps.specs.Fresh.{IsFresh}
use Rattle.live_node.proofs.Held.{new_live, held_new, few_nodes}
use Rattle.frames.specs.Bound.{IsGreatest}
use Rattle.agreed_state.specs.Body.{state_len}
use Rattle.live_node.proofs.event_node.EventNode.open.Goals as goal

pub config-config-requires : goal.config-config-requires
config-config-requires g c =
    elim g.bound-1.eight_or_sixteen [ inl e ↦ rw e (lit< tt, lit< tt) | inr e ↦ rw e (lit< tt, lit< tt) ]

pub state_len-requires : goal.state_len-requires
state_len-requires g c =
    let fine : IsConfig g.row.N c.config-config.result.now = subst (IsConfig g.row.N) (sym c.config-config.ensures.config) c.config-config.ensures.scenario.system.config in
    (elim g.bound-1.eight_or_sixteen [ inl e ↦ rw e (lit< tt) | inr e ↦ rw e (lit< tt) ], fine)

pub frame_bound-room-requires-clause-nodes : goal.frame_bound-room-requires-clause-nodes
frame_bound-room-requires-clause-nodes g c =
    few_nodes g.row.N c.config-config.result.now g.bound-1.eight_or_sixteen (subst (IsConfig g.row.N) (sym c.config-config.ensures.config) c.config-config.ensures.scenario.system.config)

pub frame_bound-room-requires-clause-rounds : goal.frame_bound-room-requires-clause-rounds
frame_bound-room-requires-clause-rounds g c =
    let fine : IsConfig g.row.N c.config-config.result.now = subst (IsConfig g.row.N) (sym c.config-config.ensures.config) c.config-config.ensures.scenario.system.config in
    few_rounds g.row.N c.config-config.result.now fine

pub frame_bound-room-requires-clause-fewer : goal.frame_bound-room-requires-clause-fewer
frame_bound-room-requires-clause-fewer g c =
    let fine : IsConfig g.row.N c.config-config.result.now = subst (IsConfig g.row.N) (sym c.config-config.ensures.config) c.config-config.ensures.scenario.system.config in
    fine.rounds

pub open-requires : goal.open-requires
open-requires g c =
    let fine : IsConfig g.row.N c.config-config.result.now = subst (IsConfig g.row.N) (sym c.config-config.ensures.config) c.config-config.ensures.scenario.system.config in
    let nodes : c.config-config.result.now.nodes ≡ c.args.scenario.now.config.nodes = ap (λ (y : Config g.row.N). y.nodes) c.config-config.ensures.config in
    let low = c.requires.id in
    (elim g.bound-1.eight_or_sixteen [ inl e ↦ rw e (lit< tt) | inr e ↦ rw e (lit< tt) ], (elim g.bound-1.eight_or_sixteen [ inl e ↦ rw e (lit< tt) | inr e ↦ rw e (lit< tt) ], (fine, omega (arith, nodes, low))))

pub nothing-requires : goal.nothing-requires
nothing-requires g c =
    elim g.bound-1.eight_or_sixteen [ inl e ↦ rw e (lit< tt) | inr e ↦ rw e (lit< tt) ]

pub invariant_of-result : goal.invariant_of-result
invariant_of-result g c =
    let fresh : IsFresh c.args.scenario.now.config c.args.id c.in_ok-node.node = subst (λ (y : Config g.row.N). IsFresh y c.args.id c.in_ok-node.node) c.config-config.ensures.config c.in_ok-node.ensures in
    let front = c.in-Ok.ensures.capacity in
    let back = c.in-Ok-with_capacity.ensures.capacity in
    held_new c.args.scenario.now c.args.id c.frame_bound-room.result (vec_capacity c.in-Ok.frame) (vec_capacity c.in-Ok-with_capacity.text) c.args.longest c.in_ok-node.node c.nothing.result.given c.nothing.result.ahead c.nothing.ensures.given c.nothing.ensures.ahead fresh
    c.config-config.ensures.scenario c.requires.id
    (subst (λ (y : Config g.row.N). IsGreatest y.nodes y.m (state_len y) 8 c.frame_bound-room.result) c.config-config.ensures.config
    (subst (λ n. IsGreatest c.config-config.result.now.nodes c.config-config.result.now.m n 8 c.frame_bound-room.result) c.state_len.ensures c.frame_bound-room.ensures.greatest)) front back

pub returns-clause-fresh : goal.returns-clause-fresh
returns-clause-fresh g c =
    let fresh : IsFresh c.args.scenario.now.config c.args.id c.in_ok-node.node = subst (λ (y : Config g.row.N). IsFresh y c.args.id c.in_ok-node.node) c.config-config.ensures.config c.in_ok-node.ensures in
    new_live c.args.scenario.now c.args.id c.frame_bound-room.result (vec_capacity c.in-Ok.frame) (vec_capacity c.in-Ok-with_capacity.text) c.args.longest c.in_ok-node.node c.nothing.result.given c.nothing.result.ahead c.nothing.ensures.given c.nothing.ensures.ahead fresh

pub overflow_mul-room : goal.overflow_mul-room
overflow_mul-room g c = omega (arith, c.frame_bound-room.ensures.short)

pub overflow_add-room : goal.overflow_add-room
overflow_add-room g c = omega (arith, c.frame_bound-room.ensures.short)
