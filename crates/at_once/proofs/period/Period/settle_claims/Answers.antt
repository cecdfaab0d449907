use Rattle.std.proofs.Common.{ℕ, ◌≡◌, ◌<◌, Bool, List, length, get_or, take_at, Some, refl, sym, ap, subst, ◌∙◌, lit<, inl, inr}
use mathlib.Core.List.{not-mem-nil}
use Rattle.std.proofs.lemmas.List.{with_items_is}
use Rattle.node_grid.specs.Capacity.{IsCapacity}
use Rattle.list_scheduler.specs.OneNode.{verdicts}
use Rattle.error_reports.specs.Notes.{Notes, also_noted}
use Rattle.agreed_state.specs.declared.config.Config.{Config}
use Rattle.agreed_state.specs.Config.{IsConfig}
use Rattle.agreed_state.specs.Agreed.{AgreedView}
use Rattle.protocol.specs.Arrival.{claim_form}
use Rattle.protocol.specs.Configured.{setting_of}
use Rattle.protocol.specs.Heard.{rounds_bad}
use Rattle.protocol.specs.View.{due_channels}
use Rattle.scenario.specs.Scenario.{ScenarioView, IsScenario}
use Rattle.heard_links.specs.declared.phase.Phase.{Phase}
use Rattle.item_phase.specs.declared.item_phase.ItemPhase.{ItemPhase}
use Rattle.item_phase.specs.Noted.{rounds_of}
use Rattle.shared_states.specs.declared.belief.Belief.{Belief}
use Rattle.shared_states.specs.Sharing.{state_at, AreAgreed}
use Rattle.grouped_nodes.specs.Shared.{belief_of}
use Rattle.shown_period.specs.declared.made.Made.{Made}
use Rattle.view_law.specs.Made.{by_verdicts}
use Rattle.at_once.specs.Kept.{notes_at, AreShaped}
use Rattle.at_once.specs.Values.{no_belief}
use Rattle.at_once.proofs.ClaimSteps.{shaped_more}
use Rattle.at_once.proofs.ClaimsSettled.{claims_heard, few_noted, state_awake, synced_within, more_within, judged_shaped, judged_within, all_settled}
use Rattle.at_once.proofs.period.Period.settle_claims.Goals as goal

pub config-config-requires : goal.config-config-requires
config-config-requires g c = let cap : IsCapacity g.row.N = g.bound-1.eight_or_sixteen in (elim cap [ inl e ↦ rw e (lit< tt) | inr e ↦ rw e (lit< tt) ], elim cap [ inl e ↦ rw e (lit< tt) | inr e ↦ rw e (lit< tt) ])

pub of_run-requires : goal.of_run-requires
of_run-requires g c κs = (λ a m. absurd (not-mem-nil m), λ a m. absurd (not-mem-nil m))

pub tell_claims-requires : goal.tell_claims-requires
tell_claims-requires g c =
    let cap : IsCapacity g.row.N = g.bound-1.eight_or_sixteen in
    (lit< tt, (lit< tt, (elim cap [ inl e ↦ rw e (lit< tt) | inr e ↦ rw e (lit< tt) ], (elim cap [ inl e ↦ rw e (lit< tt) | inr e ↦ rw e (lit< tt) ], c.requires.synced.going))))

pub agree-requires : goal.agree-requires
agree-requires g c =
    let cap : IsCapacity g.row.N = g.bound-1.eight_or_sixteen in
    let told = claims_heard c.args.self.now.scenario.now c.args.self.now.number c.args.full.now c.args.made.now c.requires.synced.going c.config-config.ensures.scenario c.args.self.now.in_run c.phase-phase.result c.phase-phase.ensures
    c.tell_claims.new.claims.links c.tell_claims.ensures.told in
    let room = c.tell_claims.ensures.room ∙ c.requires.room ∙ ap (λ (y : Config g.row.N). record { nodes = y.nodes; rounds = y.m }) (sym c.phase-phase.ensures.config) in
    (elim cap [ inl e ↦ rw e (lit< tt) | inr e ↦ rw e (lit< tt) ], (elim cap [ inl e ↦ rw e (lit< tt) | inr e ↦ rw e (lit< tt) ], (told, room)))

pub note_frames-requires : goal.note_frames-requires
note_frames-requires g c =
    let cap : IsCapacity g.row.N = g.bound-1.eight_or_sixteen in
    let shaped = subst (λ (y : Config g.row.N). AreShaped {N = g.row.N} y c.args.notes.now) (sym c.phase-phase.ensures.config) c.requires.synced.shaped in
    let within = synced_within c.args.self.now.scenario.now c.args.self.now.number c.args.full.now c.args.made.now c.requires.synced.going c.config-config.ensures.scenario c.args.self.now.in_run c.phase-phase.result c.phase-phase.ensures
    c.args.notes.now c.requires.synced.shaped c.requires.synced.notes_are in
    (elim cap [ inl e ↦ rw e (lit< tt) | inr e ↦ rw e (lit< tt) ], (elim cap [ inl e ↦ rw e (lit< tt) | inr e ↦ rw e (lit< tt) ], (elim cap [ inl e ↦ rw e (lit< tt) | inr e ↦ rw e (lit< tt) ], (c.agree.ensures.settled, (shaped, within)))))

pub group_by_claims-groups-requires : goal.group_by_claims-groups-requires
group_by_claims-groups-requires g c =
    let cap : IsCapacity g.row.N = g.bound-1.eight_or_sixteen in
    (elim cap [ inl e ↦ rw e (lit< tt) | inr e ↦ rw e (lit< tt) ], (elim cap [ inl e ↦ rw e (lit< tt) | inr e ↦ rw e (lit< tt) ], (elim cap [ inl e ↦ rw e (lit< tt) | inr e ↦ rw e (lit< tt) ], (elim cap [ inl e ↦ rw e (lit< tt) | inr e ↦ rw e (lit< tt) ], c.agree.ensures.settled))))

pub fill_claims-requires : goal.fill_claims-requires
fill_claims-requires g c =
    let cap : IsCapacity g.row.N = g.bound-1.eight_or_sixteen in
    let many = ap length c.as_mut_slice.ensures.value ∙ c.requires.synced.going.many in
    (elim cap [ inl e ↦ rw e (lit< tt) | inr e ↦ rw e (lit< tt) ], (elim cap [ inl e ↦ rw e (lit< tt) | inr e ↦ rw e (lit< tt) ], (elim cap [ inl e ↦ rw e (lit< tt) | inr e ↦ rw e (lit< tt) ], (elim cap [ inl e ↦ rw e (lit< tt) | inr e ↦ rw e (lit< tt) ], (c.agree.ensures.settled, many)))))

pub complete-requires : goal.complete-requires
complete-requires g c =
    let cap : IsCapacity g.row.N = g.bound-1.eight_or_sixteen in
    let sc : ScenarioView g.row.N = c.args.self.now.scenario.now in
    let p : ℕ = c.args.self.now.number in
    let x : Phase g.row.N = c.phase-phase.result in
    let given : IsScenario sc = c.config-config.ensures.scenario in
    let bad : ℕ → ℕ → ℕ → Bool = λ j. rounds_bad x.config.now.m (rounds_of claim_form x c.agree.new.self.links j) in
    let framed : AreShaped {N = g.row.N} sc.config c.note_frames.new.notes =
    shaped_more sc.config given.system.config.few_nodes x.awake bad c.args.notes.now c.note_frames.new.notes c.requires.synced.shaped c.note_frames.ensures.many c.note_frames.ensures.notes in
    let made : Made g.row.N = c.args.made.now in
    let filled : List (Belief g.row.N) = c.fill_claims.new.beliefs in
    let long : length filled ≡ made.beliefs.len = c.fill_claims.ensures.many ∙ sym c.requires.synced.going.many ∙ ap length (sym c.as_mut_slice.ensures.value) ∙ c.as_mut_slice.ensures.len in
    let config = subst (λ (y : Config g.row.N). IsConfig g.row.N y) (sym c.config-config.ensures.config) given.system.config in
    let agreed = subst (λ (y : Config g.row.N). AreAgreed y made.states) (sym c.config-config.ensures.config) c.requires.synced.going.used.agreed in
    let many = ap length (c.as_mut_slice-2.ensures.value ∙ with_items_is made.beliefs filled long) ∙ c.fill_claims.ensures.many in
    let awake = state_awake sc p c.args.full.now c.args.made.now c.requires.synced.going given c.args.self.now.in_run x c.phase-phase.ensures in
    let kinds = λ (i : ℕ) (a : AgreedView) (low : i < g.row.N) (is : state_at made.states i ≡ Some a).
    few_noted sc p c.args.full.now c.args.made.now c.requires.synced.going given c.args.self.now.in_run x c.phase-phase.ensures c.note_frames.new.notes framed i (awake i a low is) in
    let within = λ (i : ℕ) (a : AgreedView) (low : i < g.row.N) (is : state_at made.states i ≡ Some a).
    more_within sc p c.args.full.now c.args.made.now c.requires.synced.going given c.args.self.now.in_run x c.phase-phase.ensures c.args.notes.now c.note_frames.new.notes bad framed c.note_frames.ensures.notes i low (awake i a low is) in
    (elim cap [ inl e ↦ rw e (lit< tt) | inr e ↦ rw e (lit< tt) ], (elim cap [ inl e ↦ rw e (lit< tt) | inr e ↦ rw e (lit< tt) ], (elim cap [ inl e ↦ rw e (lit< tt) | inr e ↦ rw e (lit< tt) ], (elim cap [ inl e ↦ rw e (lit< tt) | inr e ↦ rw e (lit< tt) ], (elim cap [ inl e ↦ rw e (lit< tt) | inr e ↦ rw e (lit< tt) ], (config, (record { agreed = agreed; shared = c.group_by_claims-groups.ensures.shared; many = many }, record { many = c.note_frames.ensures.many; kinds = kinds; within = within })))))))

pub note_convicted-requires : goal.note_convicted-requires
note_convicted-requires g c =
    let cap : IsCapacity g.row.N = g.bound-1.eight_or_sixteen in
    let sc : ScenarioView g.row.N = c.args.self.now.scenario.now in
    let p : ℕ = c.args.self.now.number in
    let x : Phase g.row.N = c.phase-phase.result in
    let given : IsScenario sc = c.config-config.ensures.scenario in
    let bad : ℕ → ℕ → ℕ → Bool = λ j. rounds_bad x.config.now.m (rounds_of claim_form x c.agree.new.self.links j) in
    let framed : AreShaped {N = g.row.N} sc.config c.note_frames.new.notes =
    shaped_more sc.config given.system.config.few_nodes x.awake bad c.args.notes.now c.note_frames.new.notes c.requires.synced.shaped c.note_frames.ensures.many c.note_frames.ensures.notes in
    let more : ℕ → AgreedView → ℕ → ℕ → Bool =
    λ j a. by_verdicts (verdicts g.row.N c.config-config.result.now.graph a.standing.members a.copies (belief_of no_belief c.as_mut_slice-2.result.now c.group_by_claims-groups.result j).done) in
    let noted = λ (j : ℕ) (a : AgreedView) (low : j < g.row.N) (is : state_at c.args.made.now.states j ≡ Some a). c.complete.ensures.noted j a no_belief low is in
    let shaped =
    subst (λ (y : Config g.row.N). AreShaped {N = g.row.N} y c.complete.new.notes) (sym c.phase-phase.ensures.config)
    (judged_shaped sc p c.args.full.now c.args.made.now c.requires.synced.going given c.args.self.now.in_run x c.phase-phase.ensures c.note_frames.new.notes c.complete.new.notes more framed c.complete.ensures.many_notes noted c.complete.ensures.cold) in
    let within = judged_within sc p c.args.full.now c.args.made.now c.requires.synced.going given c.args.self.now.in_run x c.phase-phase.ensures c.note_frames.new.notes c.complete.new.notes more framed c.complete.ensures.many_notes noted c.complete.ensures.cold in
    (elim cap [ inl e ↦ rw e (lit< tt) | inr e ↦ rw e (lit< tt) ], (elim cap [ inl e ↦ rw e (lit< tt) | inr e ↦ rw e (lit< tt) ], (elim cap [ inl e ↦ rw e (lit< tt) | inr e ↦ rw e (lit< tt) ], (c.agree.ensures.settled, (shaped, within)))))

pub returns-clause-settled : goal.returns-clause-settled
returns-clause-settled g c =
    let sc : ScenarioView g.row.N = c.args.self.now.scenario.now in
    let p : ℕ = c.args.self.now.number in
    let full : List ℕ = c.args.full.now in
    let made : Made g.row.N = c.args.made.now in
    let x : Phase g.row.N = c.phase-phase.result in
    let s : ItemPhase ℕ g.row.N = c.agree.new.self in
    let config : Config g.row.N = c.config-config.result.now in
    let groups : List ℕ = c.group_by_claims-groups.result in
    let filled : List (Belief g.row.N) = c.fill_claims.new.beliefs in
    let completed : List (Belief g.row.N) = c.complete.new.beliefs in
    let framed : List Notes = c.note_frames.new.notes in
    let long : g.row.N ≡ made.beliefs.len = sym c.requires.synced.going.many ∙ ap length (sym c.as_mut_slice.ensures.value) ∙ c.as_mut_slice.ensures.len in
    let lent = c.as_mut_slice-2.ensures.value ∙ with_items_is made.beliefs filled (c.fill_claims.ensures.many ∙ long) in
    all_settled c.of_run.ensures sc p full made c.requires.synced.going c.config-config.ensures.scenario c.args.self.now.in_run x c.phase-phase.ensures s (λ i on. c.tell_claims.ensures.told i on ∙ sym (c.agree.ensures.told i))
    c.agree.ensures.settled config c.config-config.ensures.config groups filled completed c.args.notes.now framed c.complete.new.notes c.note_convicted.new.notes
    (record {
      firsts = c.group_by_claims-groups.ensures.firsts;
      shared = c.group_by_claims-groups.ensures.shared;
      cold = c.group_by_claims-groups.ensures.cold;
      among = c.group_by_claims-groups.ensures.among;
      alike = c.group_by_claims-groups.ensures.alike;
      done = c.fill_claims.ensures.done;
      others = λ f b off. c.fill_claims.ensures.others f b off ∙ ap (λ (bs : List (Belief g.row.N)). get_or bs f b) c.as_mut_slice.ensures.value;
      due = λ i a b low is. c.complete.ensures.due i a b low is ∙ ap (λ (bs : List (Belief g.row.N)). due_channels (setting_of config) a (belief_of b bs groups i).done) lent;
      kept = λ j b low. c.complete.ensures.kept j b low ∙ ap (λ (bs : List (Belief g.row.N)). record (get_or bs j b) { due = (get_or completed j b).due }) lent;
      nothing = λ j b none. c.complete.ensures.nothing j b none ∙ ap (λ (bs : List (Belief g.row.N)). get_or bs j b) lent;
      many = c.complete.ensures.many_beliefs;
      framed_are = c.note_frames.ensures.notes;
      many_framed = c.note_frames.ensures.many;
      judged_are = λ i a b low is.
          c.complete.ensures.noted i a b low is
          ∙ ap (λ (bs : List (Belief g.row.N)). also_noted g.row.N (notes_at framed i) (by_verdicts (verdicts g.row.N config.graph a.standing.members a.copies (belief_of b bs groups i).done))) lent;
      unjudged = c.complete.ensures.cold;
      many_judged = c.complete.ensures.many_notes;
      convicted_are = c.note_convicted.ensures.notes;
      many_convicted = c.note_convicted.ensures.many;
    })
    c.requires.synced.shaped c.requires.synced.notes_are _ refl (take_at completed _ _ (c.complete.ensures.many_beliefs ∙ long))

pub returns-clause-room : goal.returns-clause-room
returns-clause-room g c = c.agree.ensures.room ∙ c.tell_claims.ensures.room
