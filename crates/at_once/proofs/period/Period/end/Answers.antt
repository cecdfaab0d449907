use Rattle.std.proofs.Common.{ℕ, ◌≡◌, ◌<◌, List, Some, length, sym, ap, subst, ◌∙◌, lit<, inl, inr}
use Rattle.node_grid.specs.Capacity.{IsCapacity}
use Rattle.agreed_state.specs.Config.{IsConfig}
use Rattle.agreed_state.specs.declared.config.Config.{Config}
use Rattle.agreed_state.specs.Agreed.{AgreedView, agreed_after}
use Rattle.shared_states.specs.declared.belief.Belief.{Belief}
use Rattle.shared_states.specs.Sharing.{state_at, AreAgreed}
use Rattle.grouped_nodes.specs.Shared.{belief_of}
use Rattle.shown_period.specs.declared.made.Made.{Made}
use Rattle.at_once.specs.Ended.{AreForgetting}
use Rattle.at_once.proofs.Goings.{reported_grouped}
use Rattle.at_once.proofs.Endings.{made_whole, believed_still, kept_on}
use Rattle.at_once.proofs.period.Period.end.Goals as goal

pub step-requires : goal.step-requires
step-requires g c =
    let cap : IsCapacity g.row.N = g.bound-1.eight_or_sixteen in
    let config : IsConfig g.row.N c.config.result.now = subst (λ (x : Config g.row.N). IsConfig g.row.N x) (sym c.config.ensures.config) c.config.ensures.scenario.system.config in
    let agreed : AreAgreed c.config.result.now c.args.made.now.states =
    subst (λ (x : Config g.row.N). AreAgreed x c.args.made.now.states) (sym c.config.ensures.config) c.requires.1.going.used.agreed in
    let many : length c.as_slice.result.now ≡ g.row.N = ap length c.as_slice.ensures.value ∙ c.requires.1.going.many in (
      elim cap [ inl e ↦ rw e (lit< tt) | inr e ↦ rw e (lit< tt) ],
      (
        elim cap [ inl e ↦ rw e (lit< tt) | inr e ↦ rw e (lit< tt) ],
        (
          elim cap [ inl e ↦ rw e (lit< tt) | inr e ↦ rw e (lit< tt) ],
          (
            elim cap [ inl e ↦ rw e (lit< tt) | inr e ↦ rw e (lit< tt) ],
            (config, record { agreed = agreed; shared = c.requires.1.claimed.shared; many = many }),
          ),
        ),
      ),
    )

pub returns-clause-made : goal.returns-clause-made
returns-clause-made g c =
    let sc = c.args.self.now.scenario.now in
    let few = c.config.ensures.scenario.system.config.few_nodes in
    let made : Made g.row.N = record c.args.made.now { group = c.by_node-made.result } in
    let reported = reported_grouped sc c.args.self.now.number c.requires.0 c.args.made.now c.by_node-made.result c.args.keeping.now c.args.groups.now c.requires.1 in
    let stepped : (i : ℕ) (a : AgreedView) (d : Belief g.row.N) → i < g.row.N → state_at c.args.made.now.states i ≡ Some a
    → state_at c.step.new.states i ≡ Some (agreed_after g.row.N c.config.result.now c.args.self.now.number a
    (belief_of d c.args.made.now.beliefs.items c.args.groups.now i).done (belief_of d c.args.made.now.beliefs.items c.args.groups.now i).rows) =
    λ i a d low is. c.step.ensures.stepped i a d low is
    ∙ ap (λ (xs : List (Belief g.row.N)). Some (agreed_after g.row.N c.config.result.now c.args.self.now.number a (belief_of d xs c.args.groups.now i).done (belief_of d xs c.args.groups.now i).rows)) c.as_slice.ensures.value in
    made_whole sc c.args.self.now.number c.requires.0 made c.args.keeping.now c.args.groups.now reported few c.by_node-made.ensures.each c.by_node-made.ensures.firsts
    c.config.result.now c.config.ensures.config c.step.new.states stepped c.step.ensures.cold

pub returns-clause-beliefs : goal.returns-clause-beliefs
returns-clause-beliefs g c =
    let sc = c.args.self.now.scenario.now in
    let few = c.config.ensures.scenario.system.config.few_nodes in
    let made : Made g.row.N = record c.args.made.now { group = c.by_node-made.result } in
    let reported = reported_grouped sc c.args.self.now.number c.requires.0 c.args.made.now c.by_node-made.result c.args.keeping.now c.args.groups.now c.requires.1 in
    let stepped : (i : ℕ) (a : AgreedView) (d : Belief g.row.N) → i < g.row.N → state_at c.args.made.now.states i ≡ Some a
    → state_at c.step.new.states i ≡ Some (agreed_after g.row.N c.config.result.now c.args.self.now.number a
    (belief_of d c.args.made.now.beliefs.items c.args.groups.now i).done (belief_of d c.args.made.now.beliefs.items c.args.groups.now i).rows) =
    λ i a d low is. c.step.ensures.stepped i a d low is
    ∙ ap (λ (xs : List (Belief g.row.N)). Some (agreed_after g.row.N c.config.result.now c.args.self.now.number a (belief_of d xs c.args.groups.now i).done (belief_of d xs c.args.groups.now i).rows)) c.as_slice.ensures.value in
    believed_still sc c.args.self.now.number c.requires.0 made c.args.keeping.now c.args.groups.now reported few c.by_node-made.ensures.each c.by_node-made.ensures.firsts
    c.config.result.now c.config.ensures.config c.step.new.states stepped c.step.ensures.cold g.bound-1.eight_or_sixteen

pub returns-clause-kept : goal.returns-clause-kept
returns-clause-kept g c =
    let sc = c.args.self.now.scenario.now in
    let few = c.config.ensures.scenario.system.config.few_nodes in
    let made : Made g.row.N = record c.args.made.now { group = c.by_node-made.result } in
    let reported = reported_grouped sc c.args.self.now.number c.requires.0 c.args.made.now c.by_node-made.result c.args.keeping.now c.args.groups.now c.requires.1 in
    let stepped : (i : ℕ) (a : AgreedView) (d : Belief g.row.N) → i < g.row.N → state_at c.args.made.now.states i ≡ Some a
    → state_at c.step.new.states i ≡ Some (agreed_after g.row.N c.config.result.now c.args.self.now.number a
    (belief_of d c.args.made.now.beliefs.items c.args.groups.now i).done (belief_of d c.args.made.now.beliefs.items c.args.groups.now i).rows) =
    λ i a d low is. c.step.ensures.stepped i a d low is
    ∙ ap (λ (xs : List (Belief g.row.N)). Some (agreed_after g.row.N c.config.result.now c.args.self.now.number a (belief_of d xs c.args.groups.now i).done (belief_of d xs c.args.groups.now i).rows)) c.as_slice.ensures.value in
    kept_on sc c.args.self.now.number c.requires.0 made c.args.keeping.now c.args.groups.now reported few c.by_node-made.ensures.each c.by_node-made.ensures.firsts
    c.config.result.now c.config.ensures.config c.step.new.states stepped c.step.ensures.cold
    c.awake-awake.result c.forget_cold.new.keeping c.awake-awake.ensures.nodes
    (subst (λ (x : Config g.row.N). AreForgetting c.awake-awake.result c.args.keeping.now x.nodes c.forget_cold.new.keeping) (sym c.config.ensures.config) c.forget_cold.ensures) c.step.ensures.agreed c.awake.ensures.length

pub config-requires : goal.config-requires
config-requires g c = elim g.bound-1.eight_or_sixteen [ inl e ↦ rw e (lit< tt, lit< tt) | inr e ↦ rw e (lit< tt, lit< tt) ]

pub awake-awake-requires : goal.awake-awake-requires
awake-awake-requires g c = elim g.bound-1.eight_or_sixteen [ inl e ↦ rw e (lit< tt, lit< tt) | inr e ↦ rw e (lit< tt, lit< tt) ]

pub awake-requires : goal.awake-requires
awake-requires g c = elim g.bound-1.eight_or_sixteen [ inl e ↦ rw e (lit< tt, lit< tt) | inr e ↦ rw e (lit< tt, lit< tt) ]

pub forget_cold-requires : goal.forget_cold-requires
forget_cold-requires g c = elim g.bound-1.eight_or_sixteen [ inl e ↦ rw e (lit< tt, (lit< tt, lit< tt)) | inr e ↦ rw e (lit< tt, (lit< tt, lit< tt)) ]
