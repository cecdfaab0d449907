use Rattle.std.proofs.Common.{ℕ, ℤ, ◌≡◌, ◌<◌, List, Option, sym, ap, ap₂, subst, ◌∙◌, inl, inr, lit<, arith}
use Rattle.agreed_state.specs.declared.config.Config.{Config}
use Rattle.agreed_state.specs.declared.config.Inputs.{Inputs}
use Rattle.agreed_state.specs.Config.{IsConfig}
use Rattle.protocol.specs.Configured.{setting_of}
use Rattle.protocol.specs.View.{own_values}
use Rattle.scenario.specs.Scenario.{ScenarioView, inputs_of}
use Rattle.at_once.specs.Kept.{of_node}
use Rattle.at_once.proofs.Voting.{owned_put}
use Rattle.at_once.proofs.period.Period.value_all.Goals as goal

pub config-config-requires : goal.config-config-requires
config-config-requires g c = (
  elim g.bound-1.eight_or_sixteen [ inl e ↦ rw e (lit< tt) | inr e ↦ rw e (lit< tt) ],
  elim g.bound-1.eight_or_sixteen [ inl e ↦ rw e (lit< tt) | inr e ↦ rw e (lit< tt) ],
)

pub own_values-requires : goal.own_values-requires
own_values-requires g c =
    let config : IsConfig g.row.N c.config-config.result.now = subst (IsConfig g.row.N) (sym c.config-config.ensures.config) c.config-config.ensures.scenario.system.config in (
      elim g.bound-1.eight_or_sixteen [ inl e ↦ rw e (lit< tt) | inr e ↦ rw e (lit< tt) ],
      (config, let f = config.few_nodes in let t = c.loop-i-test.true in omega arith),
    )

pub loop-i-preserved : goal.loop-i-preserved
loop-i-preserved g c =
    let sc : ScenarioView g.row.N = c.args.self.now.scenario.now in
    let p : ℕ = c.args.self.now.number in
    let votes : List (List (Option ℤ)) = c.args.votes.now in
    let old : List (List (Option ℤ)) = c.args.owns.now in
    let i : ℕ = c.loop-i.i in
    let owns : List (List (Option ℤ)) = c.loop-i.owns in
    let config : IsConfig g.row.N c.config-config.result.now = subst (IsConfig g.row.N) (sym c.config-config.ensures.config) c.config-config.ensures.scenario.system.config in
    let low : i < g.row.N = (let f = config.few_nodes in let t = c.loop-i-test.true in omega arith) in
    owned_put sc p votes old i owns c.own_values.result low c.loop-i.invariant
    (λ state carried. c.own_values.ensures state carried
    ∙ ap₂ (λ (cf : Config g.row.N) (given : Inputs). own_values (setting_of cf) i p given (record { state = state; carried = carried; votes = of_node votes i; owns = of_node owns i })) c.config-config.ensures.config c.inputs-inputs.ensures
    ∙ ap (λ (o : List (Option ℤ)). own_values (setting_of sc.config) i p (inputs_of sc i p) (record { state = state; carried = carried; votes = of_node votes i; owns = o })) (c.loop-i.invariant.rest i (omega arith)))

pub returns : goal.returns
returns g c = λ i state carried low.
    let n : c.config-config.result.now.nodes ≡ c.args.self.now.scenario.now.config.nodes = ap (λ (cf : Config g.row.N). cf.nodes) c.config-config.ensures.config in
    c.loop-i.invariant.so_far i (let t = c.loop-i-test.false in omega arith) state carried

pub inputs-inputs-requires : goal.inputs-inputs-requires
inputs-inputs-requires g c = (elim g.bound-1.eight_or_sixteen [ inl e ↦ rw e (lit< tt) | inr e ↦ rw e (lit< tt) ], omega (arith, ap (λ (x : Config g.row.N). x.nodes) c.config-config.ensures.config, c.loop-i-test.true))
