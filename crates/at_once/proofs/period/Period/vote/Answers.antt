use Rattle.std.proofs.Common.{ℕ, ℤ, ◌≡◌, ◌<◌, List, [], length, Option, Some, refl, sym, ap, ap₂, subst, ◌∙◌, inl, inr, lit<, arith}
use Rattle.std.specs.Prelude.{slice_index_or}
use Rattle.node_grid.specs.Capacity.{IsCapacity}
use Rattle.node_grid.specs.NodeSet.{has_id}
use Rattle.omh_paths.specs.declared.wrapped.Wrapped.{Wrapped}
use Rattle.fault_classes.specs.Plan.{Plan}
use Rattle.error_reports.specs.Notes.{Notes}
use Rattle.agreed_state.specs.declared.config.Config.{Config}
use Rattle.agreed_state.specs.Agreed.{AgreedView}
use Rattle.protocol.specs.Configured.{setting_of}
use Rattle.protocol.specs.View.{own_values}
use Rattle.scenario.specs.Scenario.{ScenarioView, IsScenario, inputs_of}
use Rattle.shared_states.specs.declared.belief.Belief.{Belief}
use Rattle.shared_states.specs.Sharing.{AreAgreed}
use Rattle.grouped_nodes.specs.Shared.{AreShared}
use Rattle.shown_period.specs.declared.made.Made.{Made}
use Rattle.told_values.specs.Slot.{DataView}
use Rattle.at_once.specs.Parts.{through, has}
use Rattle.at_once.specs.Kept.{notes_at, of_node, AreShaped}
use Rattle.at_once.specs.Values.{done_at, HearEach, IsVoteOf, IsNotedOf}
use Rattle.at_once.proofs.Voted.{slot_with, slot_by, slot_same, slot_by_is, AreOwns, each_hears, votes_now, notes_now, own_now, within_now, awake_now, owns_now}
use Rattle.at_once.proofs.period.Period.vote.Goals as goal

pub of-dues-requires : goal.of-dues-requires
of-dues-requires g c =
    let cap : IsCapacity g.row.N = g.bound-1.eight_or_sixteen in
    (elim cap [ inl e ↦ rw e (lit< tt) | inr e ↦ rw e (lit< tt) ], (elim cap [ inl e ↦ rw e (lit< tt) | inr e ↦ rw e (lit< tt) ], (lit< tt, (lit< tt, ap length c.as_slice.ensures.value ∙ c.requires.settled.going.many))))

pub touched_senders-requires : goal.touched_senders-requires
touched_senders-requires g c =
    let cap : IsCapacity g.row.N = g.bound-1.eight_or_sixteen in
    let sc : ScenarioView g.row.N = c.args.self.now.scenario.now in
    let cf : Config g.row.N = c.config-config.result.now in
    let plan : Plan = c.plan-plan.result.now in
    let scenario : IsScenario sc = c.config-config.ensures.scenario in
    let config_is : cf ≡ sc.config = c.config-config.ensures.config in
    let plan_is : plan ≡ sc.plan = c.plan-plan.ensures.plan in
    let nodes : plan.nodes ≡ cf.nodes = ap (λ (x : Plan). x.nodes) plan_is ∙ scenario.system.plan_nodes ∙ sym (ap (λ (x : Config g.row.N). x.nodes) config_is) in
    let rounds : plan.rounds ≡ cf.m = ap (λ (x : Plan). x.rounds) plan_is ∙ scenario.system.plan_rounds ∙ sym (ap (λ (x : Config g.row.N). x.m) config_is) in
    let periods : plan.periods ≡ sc.periods = ap (λ (x : Plan). x.periods) plan_is ∙ scenario.plan_periods in
    let in_run : c.args.self.now.number < sc.periods = c.args.self.now.in_run in (
      elim cap [ inl e ↦ rw e (lit< tt) | inr e ↦ rw e (lit< tt) ],
      (lit< tt, (lit< tt, (nodes, (rounds, omega (arith, periods, in_run))))),
    )

pub invariant_of-slot : goal.invariant_of-slot
invariant_of-slot g c =
    let made : Made g.row.N = c.args.made.now in
    let groups : List ℕ = c.args.groups.now in
    let dues_are : c.of-dues.result ≡ (groups, made.beliefs.items) =
    ap₂ (λ (a : List ℕ) (b : List (Belief g.row.N)). (a, b)) c.of-dues.ensures.groups (c.of-dues.ensures.beliefs ∙ c.as_slice.ensures.value) in (
      g.bound-1.eight_or_sixteen,
      slot_by_is c.hears.ensures c.through.ensures c.cold.ensures c.args.self.now.scenario.now c.args.self.now.number c.args.full.now made c.args.keeping.now.notes groups c.config-config.ensures.scenario c.requires.settled
          c.args.self.now.in_run c.config-config.result.now c.plan-plan.result.now c.of-dues.result c.touched_senders.result c.value_all.new.owns c.config-config.ensures.config c.plan-plan.ensures.plan dues_are c.touched_senders.ensures,
    )

pub vote_each-keeping-requires : goal.vote_each-keeping-requires
vote_each-keeping-requires g c =
    let cap : IsCapacity g.row.N = g.bound-1.eight_or_sixteen in
    let made : Made g.row.N = c.args.made.now in
    let settled = c.requires.settled in (
      lit< tt,
      (
        lit< tt,
        (
          elim cap [ inl e ↦ rw e (lit< tt) | inr e ↦ rw e (lit< tt) ],
          (
            elim cap [ inl e ↦ rw e (lit< tt) | inr e ↦ rw e (lit< tt) ],
            (
              elim cap [ inl e ↦ rw e (lit< tt) | inr e ↦ rw e (lit< tt) ],
              (
                lit< tt,
                (
                  subst (λ (x : Config g.row.N). AreAgreed x made.states) (sym c.config-config.ensures.config) settled.going.used.agreed,
                  subst (λ (gs : List ℕ). AreShared g.row.N gs made.states) (sym c.of-dues.ensures.groups) settled.claimed.shared,
                ),
              ),
            ),
          ),
        ),
      ),
    )

pub note_each-requires : goal.note_each-requires
note_each-requires g c =
    let cap : IsCapacity g.row.N = g.bound-1.eight_or_sixteen in
    let sc : ScenarioView g.row.N = c.args.self.now.scenario.now in
    let p : ℕ = c.args.self.now.number in
    let full : List ℕ = c.args.full.now in
    let made : Made g.row.N = c.args.made.now in
    let notes : List Notes = c.args.keeping.now.notes in
    let groups : List ℕ = c.args.groups.now in
    let scenario : IsScenario sc = c.config-config.ensures.scenario in
    let settled = c.requires.settled in
    let config_is : c.config-config.result.now ≡ sc.config = c.config-config.ensures.config in
    let n_is : c.config-config.result.now.nodes ≡ sc.config.nodes = ap (λ (x : Config g.row.N). x.nodes) config_is in (
      lit< tt,
      (
        lit< tt,
        (
          elim cap [ inl e ↦ rw e (lit< tt) | inr e ↦ rw e (lit< tt) ],
          (
            elim cap [ inl e ↦ rw e (lit< tt) | inr e ↦ rw e (lit< tt) ],
            (
              subst (λ (x : Config g.row.N). AreShaped x notes) (sym config_is) settled.shaped,
              λ i low on. within_now c.hears.ensures c.through.ensures c.cold.ensures sc p full made notes groups scenario settled i (omega (arith, n_is, low)) (ap (λ (m : List ℕ). has_id m i) (sym c.awake.ensures.nodes) ∙ on),
            ),
          ),
        ),
      ),
    )

pub returns : goal.returns
returns g c =
    let sc : ScenarioView g.row.N = c.args.self.now.scenario.now in
    let p : ℕ = c.args.self.now.number in
    let full : List ℕ = c.args.full.now in
    let made : Made g.row.N = c.args.made.now in
    let notes : List Notes = c.args.keeping.now.notes in
    let groups : List ℕ = c.args.groups.now in
    let scenario : IsScenario sc = c.config-config.ensures.scenario in
    let settled = c.requires.settled in
    let hears_law = c.hears.ensures in
    let view_law = c.through.ensures in
    let cold_law = c.cold.ensures in
    let touched : List ℕ = c.touched_senders.result in
    let owns : List (List (Option ℤ)) = c.value_all.new.owns in
    let votes : List (List (Option ℤ)) = c.vote_each-keeping.result in
    let off : List (List ℕ) = c.vote_each-keeping.new.off in
    let d : DataView g.row.N = slot_by hears_law view_law cold_law sc p full made notes groups scenario settled c.config-config.result.now c.plan-plan.result.now c.of-dues.result touched owns in
    let s : DataView g.row.N = slot_with hears_law view_law cold_law sc p full made notes groups scenario settled touched owns in
    let d_is : d ≡ s =
    slot_same hears_law view_law cold_law sc p full made notes groups scenario settled c.config-config.result.now c.plan-plan.result.now c.of-dues.result touched owns
    c.config-config.ensures.config c.plan-plan.ensures.plan (ap₂ (λ (a : List ℕ) (b : List (Belief g.row.N)). (a, b)) c.of-dues.ensures.groups (c.of-dues.ensures.beliefs ∙ c.as_slice.ensures.value)) in
    let n_is : c.config-config.result.now.nodes ≡ sc.config.nodes = ap (λ (cf : Config g.row.N). cf.nodes) c.config-config.ensures.config in
    let are : AreOwns hears_law view_law cold_law sc p full made notes groups scenario settled owns =
    owns_now hears_law view_law cold_law sc p full made notes groups scenario settled c.args.keeping.now c.args.keeping.now.votes c.args.keeping.now.owns owns refl refl c.requires.unvoted
    (λ i low state carried. c.value_all.ensures i state carried low
    ∙ ap (λ (vs : List (List (Option ℤ))). own_values (setting_of sc.config) i p (inputs_of sc i p) (record { state = state; carried = carried; votes = of_node vs i; owns = of_node c.args.keeping.now.owns i })) c.by_node.ensures.votes) in
    let voted : (i : ℕ) (a : AgreedView) → i < sc.config.nodes → through sc p i ≡ Some a → IsVoteOf s a (done_at groups made.beliefs.items i) i (has sc p i) (of_node votes i) (slice_index_or off i []) =
    λ i a low is. subst (λ (v : DataView g.row.N). IsVoteOf v a (done_at groups made.beliefs.items i) i (has sc p i) (of_node votes i) (slice_index_or off i [])) d_is
    (subst (λ (done : List (Wrapped ℕ)). IsVoteOf d a done i (has sc p i) (of_node votes i) (slice_index_or off i []))
    (ap₂ (λ (gs : List ℕ) (bs : List (Belief g.row.N)). done_at gs bs i) c.of-dues.ensures.groups (c.of-dues.ensures.beliefs ∙ c.as_slice.ensures.value))
    (c.vote_each-keeping.ensures (λ j. has sc p j)
    (subst (λ (v : DataView g.row.N). HearEach v (λ j. has sc p j)) (sym d_is) (each_hears hears_law view_law cold_law sc p full made notes groups scenario settled touched owns are))
    i a (omega (arith, n_is, low)) (settled.going.states i low ∙ is))) in
    record {
      shaped = subst (λ (cf : Config g.row.N). AreShaped cf c.note_each.new.notes) c.config-config.ensures.config c.note_each.ensures.shaped;
      notes = λ i a low is.
          notes_now hears_law view_law cold_law sc p full made notes groups scenario settled touched owns are i a low is (of_node votes i) (slice_index_or off i []) (notes_at c.note_each.new.notes i) (voted i a low is)
          (subst (λ (v : DataView g.row.N). IsNotedOf v i (slice_index_or off i []) (notes_at notes i) (notes_at c.note_each.new.notes i)) d_is
          (c.note_each.ensures.noted i (omega (arith, n_is, low))
          (ap (λ (m : List ℕ). has_id m i) c.awake.ensures.nodes ∙ awake_now hears_law view_law cold_law sc p full made notes groups scenario settled i a low is)));
      votes = λ i a low is. votes_now hears_law view_law cold_law sc p full made notes groups scenario settled touched owns are i a low is (of_node votes i) (slice_index_or off i []) (voted i a low is);
      owns = λ i a low is. own_now hears_law view_law cold_law sc p full made notes groups scenario settled touched owns are i a low is;
    }

pub config-config-requires : goal.config-config-requires
config-config-requires g c = elim g.bound-1.eight_or_sixteen [ inl e ↦ rw e (lit< tt, lit< tt) | inr e ↦ rw e (lit< tt, lit< tt) ]

pub plan-plan-requires : goal.plan-plan-requires
plan-plan-requires g c = elim g.bound-1.eight_or_sixteen [ inl e ↦ rw e (lit< tt, lit< tt) | inr e ↦ rw e (lit< tt, lit< tt) ]

pub awake-requires : goal.awake-requires
awake-requires g c = elim g.bound-1.eight_or_sixteen [ inl e ↦ rw e (lit< tt, lit< tt) | inr e ↦ rw e (lit< tt, lit< tt) ]

pub value_all-requires : goal.value_all-requires
value_all-requires g c = elim g.bound-1.eight_or_sixteen [ inl e ↦ rw e (lit< tt, lit< tt) | inr e ↦ rw e (lit< tt, lit< tt) ]

pub empty-off-requires : goal.empty-off-requires
empty-off-requires g c = (lit< tt, elim g.bound-1.eight_or_sixteen [ inl e ↦ omega (arith, e) | inr e ↦ omega (arith, e) ])
