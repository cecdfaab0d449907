use Rattle.std.proofs.Common.{ℕ, ◌≡◌, ◌<◌, ◌+◌, true, List, Some, refl, sym, subst, ◌∙◌, lit<, inl, inr, arith}
use Rattle.node_grid.specs.Capacity.{IsCapacity}
use Rattle.node_grid.specs.NodeSet.{has_id}
use Rattle.agreed_state.specs.declared.config.Config.{Config}
use Rattle.agreed_state.specs.Config.{IsConfig}
use Rattle.agreed_state.specs.Agreed.{AgreedView, IsAgreed}
use Rattle.scenario.specs.Scenario.{ScenarioView, system_of, inputs_of}
use Rattle.touched_items.specs.ItemLaws.{claim_told}
use Rattle.heard_links.specs.Hearing.{item_of}
use Rattle.item_phase.specs.declared.item_phase.ItemPhase.{ItemPhase}
use Rattle.shared_states.specs.Sharing.{state_at}
use Rattle.shown_period.specs.declared.made.Made.{Made}
use Rattle.at_once.proofs.Telling.{told_more, told_skip, full_low, full_has, full_claim}
use Rattle.at_once.proofs.period.Period.tell_claims.Goals.{then-has+in-Some, then-has+in_default, else-has}
use Rattle.at_once.proofs.period.Period.tell_claims.Goals as goal

pub run_times-run-requires : goal.run_times-run-requires
run_times-run-requires g c =
    let cap : IsCapacity g.row.N = g.bound-1.eight_or_sixteen in
    let low = full_low c.args.self.now.scenario.now c.args.self.now.number c.args.full.now c.args.made.now c.requires.going c.loop-i.i (sym c.has.ensures ∙ c.if-has.true) in
    (elim cap [ inl e ↦ rw e (lit< tt) | inr e ↦ rw e (lit< tt) ], low)

pub own_claim-requires : goal.own_claim-requires
own_claim-requires g c =
    let cap : IsCapacity g.row.N = g.bound-1.eight_or_sixteen in
    let config_is : c.config-config.result.now ≡ c.args.self.now.scenario.now.config = c.config-config.ensures.config in
    let known : IsConfig g.row.N c.args.self.now.scenario.now.config = c.config-config.ensures.scenario.system.config in
    let agreed : IsAgreed g.row.N c.config-config.result.now c.in-Some.state.now =
    subst (λ (x : Config g.row.N). IsAgreed g.row.N x c.in-Some.state.now) (sym config_is) (c.requires.going.used.agreed c.loop-i.i c.in-Some.state.now (sym c.in-Some.ensures)) in
    let used = full_low c.args.self.now.scenario.now c.args.self.now.number c.args.full.now c.args.made.now c.requires.going c.loop-i.i (sym c.has.ensures ∙ c.if-has.true) in
    let low : c.loop-i.i < g.row.N = (let f = known.few_nodes in omega arith) in
    (elim cap [ inl e ↦ rw e (lit< tt) | inr e ↦ rw e (lit< tt) ], (elim cap [ inl e ↦ rw e (lit< tt) | inr e ↦ rw e (lit< tt) ], (agreed, low)))

pub loop-i-init : goal.loop-i-init
loop-i-init g c = (λ j less. absurd (omega arith), refl)

pub loop-i-preserved : goal.loop-i-preserved
loop-i-preserved g c =
    let sc : ScenarioView g.row.N = c.args.self.now.scenario.now in
    let p : ℕ = c.args.self.now.number in
    let full : List ℕ = c.args.full.now in
    let made : Made g.row.N = c.args.made.now in
    let i : ℕ = c.loop-i.i in
    let old : ℕ → ℕ = item_of c.loop-i.claims.links in
    let told : ℕ → ℕ = claim_told (system_of sc) p in
    elim c.if-has.branch [
      | then-has+in-Some w ↦
          let on : has_id full i ≡ true = sym c.has.ensures ∙ w.if-has.true in
          let a : AgreedView = w.in-Some.state.now in
          let here : state_at made.states i ≡ Some a = sym w.in-Some.ensures in
          let is : told i ≡ w.own_claim.result =
          full_claim sc p full made c.requires.going i on a here ∙ sym (w.own_claim.ensures (inputs_of sc i p) (sym w.run_times-run.ensures)) in
          subst (λ (y : ItemPhase ℕ g.row.N). ((j : ℕ) → j < i + 1 → has_id full j ≡ true → told j ≡ item_of y.links j) × (y.settling ≡ c.args.claims.now.settling)) (sym w.claims-is) (
            told_more told full i old (item_of w.tell.new.self.links) w.own_claim.result w.tell.ensures.told is c.loop-i.invariant.0,
            w.tell.ensures.room ∙ c.loop-i.invariant.1,
          )
      | then-has+in_default w ↦
          absurd (full_has sc p full made c.requires.going i (sym c.has.ensures ∙ w.if-has.true) (sym w.in_default.ensures))
      | else-has w ↦
          subst (λ (y : ItemPhase ℕ g.row.N). ((j : ℕ) → j < i + 1 → has_id full j ≡ true → told j ≡ item_of y.links j) × (y.settling ≡ c.args.claims.now.settling)) (sym w.claims-is) (
            told_skip told full i old (sym c.has.ensures ∙ w.if-has.false) c.loop-i.invariant.0,
            c.loop-i.invariant.1,
          )
    ]

pub returns-clause-told : goal.returns-clause-told
returns-clause-told g c i on =
    let l = full_low c.args.self.now.scenario.now c.args.self.now.number c.args.full.now c.args.made.now c.requires.going i on in
    let few = c.config-config.ensures.scenario.system.config.few_nodes in
    let t = c.loop-i-test.false in
    c.loop-i.invariant.0 i (omega arith) on

pub returns-clause-room : goal.returns-clause-room
returns-clause-room g c = c.loop-i.invariant.1

pub config-config-requires : goal.config-config-requires
config-config-requires g c = elim g.bound-1.eight_or_sixteen [ inl e ↦ rw e (lit< tt, lit< tt) | inr e ↦ rw e (lit< tt, lit< tt) ]

pub overflow_cast-i-end : goal.overflow_cast-i-end
overflow_cast-i-end g c = elim g.bound-1.eight_or_sixteen [ inl e ↦ omega (arith, e) | inr e ↦ omega (arith, e) ]
