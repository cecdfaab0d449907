-- What all settle of the claims, put together.
use Rattle.std.proofs.Common.{ℕ, ◌≡◌, ◌<◌, ◌≤◌, ◌+◌, Bool, true, false, if◌then◌else◌, List, length, get_or, Option, None, Some, refl, sym, ap, ap₂, subst, ◌∙◌, lit<, inl, inr, arith}
use Rattle.std.specs.Prelude.{nat_eq, is_some}
use Rattle.std.proofs.lemmas.Bool.{cases_Bool, cond-true, false≢true}
use Rattle.node_grid.specs.NodeSet.{has_id}
use Rattle.node_grid.specs.NodeSetLaws.{passes_where}
use Rattle.slot_plan.specs.Slots.{slot_count}
use Rattle.node_grid.specs.NumberFacts.{kinds-few}
use Rattle.omh_paths.specs.declared.wrapped.Wrapped.{Wrapped}
use Rattle.list_scheduler.specs.OneNode.{verdicts}
use Rattle.error_reports.specs.Notes.{Notes, also_noted}
use Rattle.agreed_state.specs.declared.config.Config.{Config}
use Rattle.agreed_state.specs.Agreed.{AgreedView}
use Rattle.protocol.specs.Arrival.{claim_form}
use Rattle.protocol.specs.Configured.{setting_of}
use Rattle.protocol.specs.Heard.{rounds_bad}
use Rattle.protocol.specs.View.{due_channels}
use Rattle.scenario.specs.Scenario.{ScenarioView, IsScenario, system_of}
use Rattle.safety.proofs.Lists.{in_where}
use Rattle.touched_items.specs.ItemLaws.{claim_told}
use Rattle.heard_links.specs.declared.links.Links.{Links}
use Rattle.heard_links.specs.declared.phase.Phase.{Phase}
use Rattle.heard_links.specs.Hearing.{item_of, IsHeard}
use Rattle.item_phase.specs.declared.item_phase.ItemPhase.{ItemPhase}
use Rattle.item_phase.specs.Settled.{listener}
use Rattle.item_phase.specs.Noted.{rounds_of}
use Rattle.item_phase.specs.Laws.{OfRunLaw}
use Rattle.shared_states.specs.declared.belief.Belief.{Belief}
use Rattle.shared_states.specs.Sharing.{state_at}
use Rattle.grouped_nodes.specs.Grouping.{first_of, AreFirsts}
use Rattle.grouped_nodes.specs.Shared.{AreShared, belief_of}
use Rattle.shown_period.specs.declared.made.Made.{Made}
use Rattle.view_law.specs.Made.{by_verdicts}
use Rattle.view_law.specs.Laws.{IsWithin}
use Rattle.at_once.specs.Parts.{through, done_in, notes_synced}
use Rattle.at_once.specs.Kept.{notes_at, AreShaped, AreNotedAs}
use Rattle.at_once.specs.Course.{awake_in, IsGoing, IsNothing, AreClaimed, AreSettled}
use Rattle.at_once.specs.Phases.{IsPhaseAt, AreTold, IsDone, AreClaimsSettled, node_claims, SettleAlike, blames}
use Rattle.at_once.specs.Values.{no_belief}
use Rattle.at_once.proofs.Telling.{of_some}
use Rattle.at_once.proofs.Phasing.{awake_low, phase_set, phase_run, phase_done}
use Rattle.at_once.proofs.Making.{due_is}
use Rattle.at_once.proofs.ClaimSteps.{done_same, alike_claims, synced_more, within_of, shaped_more, claimed_notes, judged_notes, convicted_notes}

pub not_awake : (N : ℕ) (states : List (Option AgreedView)) (i : ℕ) → state_at states i ≡ None → has_id (awake_in N states) i ≡ false
not_awake N states i none = elim (cases_Bool (has_id (awake_in N states) i)) [
  | inl on ↦ absurd (false≢true (sym (ap is_some none) ∙ passes_where (λ k. is_some (state_at states k)) N i on))
  | inr off ↦ off
]

-- where only beliefs of nodes with a state change, they go through the period as before
pub going_with : {N : ℕ} (sc : ScenarioView N) (p : ℕ) (full : List ℕ) (made made' : Made N) → IsGoing sc p full made → made' ≡ record made { beliefs = made'.beliefs } → length made'.beliefs.items ≡ N
    → ((j : ℕ) (b : Belief N) → state_at made.states j ≡ None → get_or made'.beliefs.items j b ≡ get_or made.beliefs.items j b) → IsGoing sc p full made'
going_with {N} sc p full made made' going is many same = subst (IsGoing sc p full) (sym is) record {
  used = going.used;
  states = going.states;
  full_are = going.full_are;
  modes = going.modes;
  members = going.members;
  sync = going.sync;
  many = many;
  nothing = λ i b low none. subst IsNothing (sym (same i b (going.states i low ∙ none))) (going.nothing i b low none);
  no_row = going.no_row;
}

module _ {N : ℕ} (law : OfRunLaw N nat_eq claim_form (λ m. 1) claim_told) (sc : ScenarioView N) (p : ℕ) (full : List ℕ) (made : Made N) (going : IsGoing sc p full made) (few : sc.config.nodes ≤ N) (x : Phase N) (s : ItemPhase ℕ N) (d : IsDone nat_eq claim_form (λ m. 1) claim_told sc p x s) (groups : List ℕ) (firsts : AreFirsts N groups) (shared : AreShared N groups made.states) (cold : (i : ℕ) → i < N → has_id x.awake i ≡ false → first_of groups i ≡ i) (among : (i : ℕ) → i < N → has_id x.awake i ≡ true → has_id x.awake (first_of groups i) ≡ true) (alike : (i : ℕ) → i < N → has_id x.awake i ≡ true → SettleAlike nat_eq claim_form x s (first_of groups i) i) (filled : List (Belief N)) (done : (f : ℕ) (b : Belief N) → f < N → has_id x.awake f ≡ true → first_of groups f ≡ f → (get_or filled f b).done ≡ node_claims x s f) where
  -- what stands at the first of a node's group is what it settles
  pub group_done : (i : ℕ) (a : AgreedView) (b : Belief N) → i < sc.config.nodes → through sc p i ≡ Some a → (belief_of b filled groups i).done ≡ done_in sc p i a
  group_done i a b low is =
      let within : i < N = omega arith in
      let on : has_id x.awake i ≡ true = d.awake i a low is in
      let early = firsts.early i within in
      let first : first_of groups i < N = omega arith in
      done (first_of groups i) b first (among i within on) (firsts.own i within)
      ∙ alike_claims law sc p x s d (first_of groups i) i (alike i within on) ∙ done_same law sc p x s d i a low is

  pub group_claimed : (config : Config N) → config ≡ sc.config → (made' : Made N) → made'.states ≡ made.states
      → ((j : ℕ) (b : Belief N) → j < N → get_or made'.beliefs.items j b ≡ record (get_or filled j b) { due = (get_or made'.beliefs.items j b).due })
      → ((i : ℕ) (a : AgreedView) (b : Belief N) → i < N → state_at made.states i ≡ Some a → (belief_of b made'.beliefs.items groups i).due.items ≡ due_channels (setting_of config) a (belief_of b filled groups i).done)
      → x.awake ≡ awake_in N made.states → AreClaimed sc p made' groups
  group_claimed config config-is made' same kept due awake = record {
    shared = subst (AreShared N groups) (sym same) shared;
    cold = λ i low none. cold i (omega arith) (ap (λ (y : List ℕ). has_id y i) awake ∙ not_awake N made.states i (going.states i low ∙ none));
    done = λ i a b low is.
        let within : i < N = omega arith in
        let early = firsts.early i within in
        let first : first_of groups i < N = omega arith in
        ap (λ (y : Belief N). y.done) (kept (first_of groups i) b first) ∙ group_done i a b low is;
    due = λ i a b low is.
        due i a b (omega arith) (going.states i low ∙ is)
        ∙ ap₂ (λ (c : Config N) (xs : List (Wrapped ℕ)). due_channels (setting_of c) a xs) config-is (group_done i a b low is)
        ∙ sym (due_is sc p i a);
  }

-- ---- the rounds of claims

module _ {N : ℕ} (sc : ScenarioView N) (p : ℕ) (full : List ℕ) (made : Made N) (going : IsGoing sc p full made) (given : IsScenario sc) (in_run : p < sc.periods) (x : Phase N) (at : IsPhaseAt sc p 1 full made x) where
  in_plan : 1 + sc.config.m < slot_count sc.config.m
  in_plan = omega arith

  -- what they begin with
  pub claims_heard : (links : Links ℕ N) → AreTold claim_told sc p full (item_of links) → IsHeard claim_form (λ m. 1) claim_told x links 0
  claims_heard links told = record {
    set = phase_set sc p full made going given in_run 1 x at (lit< tt) in_plan;
    sys = system_of sc;
    run = phase_run sc p full made going given in_run 1 x at nat_eq claim_form (λ m. 1) claim_told refl (item_of links) told;
    heard = λ r j i low. absurd (omega arith);
  }

  -- and what they come to
  pub claims_done : (s : ItemPhase ℕ N) → AreTold claim_told sc p full (item_of s.links) → AreClaimsSettled x s → IsDone nat_eq claim_form (λ m. 1) claim_told sc p x s
  claims_done s told settled = phase_done sc p full made going given in_run 1 x at nat_eq claim_form (λ m. 1) claim_told refl s (lit< tt) in_plan told settled

  -- a node that is awake goes through the period with a state
  pub awake_state : (i : ℕ) → has_id x.awake i ≡ true → (i < sc.config.nodes) × ((a : AgreedView) × (through sc p i ≡ Some a))
  awake_state i on =
      let among : has_id (awake_in N made.states) i ≡ true = sym (ap (λ (s : List ℕ). has_id s i) at.awake) ∙ on in
      let low : i < sc.config.nodes = awake_low sc p full made going i among in
      (low, of_some (through sc p i) (ap is_some (sym (going.states i low)) ∙ passes_where (λ k. is_some (state_at made.states k)) N i among))

  pub state_awake : (i : ℕ) (a : AgreedView) → i < N → state_at made.states i ≡ Some a → has_id x.awake i ≡ true
  state_awake i a low is = ap (λ (s : List ℕ). has_id s i) at.awake ∙ in_where (λ k. is_some (state_at made.states k)) N i low (ap is_some is)

  pub few_noted : (notes : List Notes) → AreShaped {N = N} sc.config notes → (i : ℕ) → has_id x.awake i ≡ true → (notes_at notes i).kinds ≤ 16
  few_noted notes shaped i on = let e = shaped.kinds i (awake_state i on).0 in let f = kinds-few sc.config.version in omega arith

  -- their notes say nothing that a row has no place for: after the sync slot, and where more is noted
  pub synced_within : (notes : List Notes) → AreShaped {N = N} sc.config notes → AreNotedAs sc p (notes_synced sc p) notes → (i : ℕ) → i < N → has_id x.awake i ≡ true → IsWithin N (notes_at notes i)
  synced_within notes shaped noted i low on =
      let s = awake_state i on in
      let m = synced_more sc p i s.1.0 in
      within_of N (notes_at notes i) m.1 m.0 (noted i s.1.0 s.0 s.1.1 ∙ m.2) (few_noted notes shaped i on)

  pub more_within : (old new : List Notes) (more : ℕ → ℕ → ℕ → Bool) → AreShaped {N = N} sc.config new
      → ((i : ℕ) → i < N → notes_at new i ≡ (if has_id x.awake i then also_noted N (notes_at old i) (more i) else notes_at old i)) → (i : ℕ) → i < N → has_id x.awake i ≡ true → IsWithin N (notes_at new i)
  more_within old new more shaped each i low on =
      within_of N (notes_at new i) (notes_at old i) (more i) (each i low ∙ cond-true (has_id x.awake i) (also_noted N (notes_at old i) (more i)) (notes_at old i) on) (few_noted new shaped i on)

  -- where more is noted at each node that has a state
  module _ (old new : List Notes) (more : ℕ → AgreedView → ℕ → ℕ → Bool) (shaped : AreShaped {N = N} sc.config old) (many : length new ≡ N) (noted : (i : ℕ) (a : AgreedView) → i < N → state_at made.states i ≡ Some a → notes_at new i ≡ also_noted N (notes_at old i) (more i a)) (cold : (i : ℕ) → i < N → state_at made.states i ≡ None → notes_at new i ≡ notes_at old i) where
    same_by : (f : Notes → ℕ) → ((y : Notes) (row : List ℕ) → f (record y { row = row }) ≡ f y) → (i : ℕ) → i < N → (o : Option AgreedView) → state_at made.states i ≡ o → f (notes_at new i) ≡ f (notes_at old i)
    same_by f same i low (Some a) is = ap f (noted i a low is) ∙ same (notes_at old i) (also_noted N (notes_at old i) (more i a)).row
    same_by f same i low None is = ap f (cold i low is)

    pub judged_shaped : AreShaped {N = N} sc.config new
    judged_shaped =
        let few = given.system.config.few_nodes in
        record {
          many = many;
          nodes = λ i low. same_by (λ (y : Notes). y.nodes) (λ y row. refl) i (omega arith) (state_at made.states i) refl ∙ shaped.nodes i low;
          me = λ i low. same_by (λ (y : Notes). y.me) (λ y row. refl) i (omega arith) (state_at made.states i) refl ∙ shaped.me i low;
          kinds = λ i low. same_by (λ (y : Notes). y.kinds) (λ y row. refl) i (omega arith) (state_at made.states i) refl ∙ shaped.kinds i low;
        }

    pub judged_within : (i : ℕ) → i < N → has_id x.awake i ≡ true → IsWithin N (notes_at new i)
    judged_within i low on =
        let s = awake_state i on in
        within_of N (notes_at new i) (notes_at old i) (more i s.1.0) (noted i s.1.0 low (going.states i s.0 ∙ s.1.1)) (few_noted new judged_shaped i on)

-- what follows from settled claims, step by step: the notes with the frames, with the verdicts and with convictions
pub record AreCompleted {N : ℕ} (config : Config N) (made : Made N) (x : Phase N) (s : ItemPhase ℕ N) (groups : List ℕ) (filled completed : List (Belief N)) (begun framed judged convicted : List Notes) : Type 0 where
  pub firsts : AreFirsts N groups
  pub shared : AreShared N groups made.states
  pub cold : (i : ℕ) → i < N → has_id x.awake i ≡ false → first_of groups i ≡ i
  pub among : (i : ℕ) → i < N → has_id x.awake i ≡ true → has_id x.awake (first_of groups i) ≡ true
  pub alike : (i : ℕ) → i < N → has_id x.awake i ≡ true → SettleAlike nat_eq claim_form x s (first_of groups i) i
  pub done : (f : ℕ) (b : Belief N) → f < N → has_id x.awake f ≡ true → first_of groups f ≡ f → (get_or filled f b).done ≡ node_claims x s f
  pub others : (f : ℕ) (b : Belief N) → has_id x.awake f ≡ false → get_or filled f b ≡ get_or made.beliefs.items f b
  pub due : (i : ℕ) (a : AgreedView) (b : Belief N) → i < N → state_at made.states i ≡ Some a → (belief_of b completed groups i).due.items ≡ due_channels (setting_of config) a (belief_of b filled groups i).done
  pub kept : (j : ℕ) (b : Belief N) → j < N → get_or completed j b ≡ record (get_or filled j b) { due = (get_or completed j b).due }
  pub nothing : (j : ℕ) (b : Belief N) → state_at made.states j ≡ None → get_or completed j b ≡ get_or filled j b
  pub many : length completed ≡ N
  pub framed_are : (i : ℕ) → i < N → notes_at framed i ≡ (if has_id x.awake i then also_noted N (notes_at begun i) (rounds_bad x.config.now.m (rounds_of claim_form x s.links i)) else notes_at begun i)
  pub many_framed : length framed ≡ N
  pub judged_are : (i : ℕ) (a : AgreedView) (b : Belief N) → i < N → state_at made.states i ≡ Some a
      → notes_at judged i ≡ also_noted N (notes_at framed i) (by_verdicts (verdicts N config.graph a.standing.members a.copies (belief_of b filled groups i).done))
  pub unjudged : (i : ℕ) → i < N → state_at made.states i ≡ None → notes_at judged i ≡ notes_at framed i
  pub many_judged : length judged ≡ N
  pub convicted_are : (i : ℕ) → i < N → notes_at convicted i ≡ (if has_id x.awake i then also_noted N (notes_at judged i) (blames nat_eq (listener claim_form x s.links i)) else notes_at judged i)
  pub many_convicted : length convicted ≡ N

module _ {N : ℕ} (law : OfRunLaw N nat_eq claim_form (λ m. 1) claim_told) (sc : ScenarioView N) (p : ℕ) (full : List ℕ) (made : Made N) (going : IsGoing sc p full made) (given : IsScenario sc) (in_run : p < sc.periods) (x : Phase N) (at : IsPhaseAt sc p 1 full made x) (s : ItemPhase ℕ N) (told : AreTold claim_told sc p full (item_of s.links)) (all : AreClaimsSettled x s) (config : Config N) (config-is : config ≡ sc.config) (groups : List ℕ) (filled completed : List (Belief N)) (begun framed judged convicted : List Notes) (c : AreCompleted config made x s groups filled completed begun framed judged convicted) (shaped : AreShaped {N = N} sc.config begun) (noted : AreNotedAs sc p (notes_synced sc p) begun) where
  few : sc.config.nodes ≤ N
  few = given.system.config.few_nodes

  d : IsDone nat_eq claim_form (λ m. 1) claim_told sc p x s
  d = claims_done sc p full made going given in_run x at s told all

  framed_shaped : AreShaped {N = N} sc.config framed
  framed_shaped = shaped_more sc.config few x.awake (λ i. rounds_bad x.config.now.m (rounds_of claim_form x s.links i)) begun framed shaped c.many_framed c.framed_are

  abbrev done_of : ℕ → List (Wrapped ℕ)
  done_of i = (belief_of no_belief filled groups i).done

  abbrev verdicts_of : ℕ → AgreedView → ℕ → ℕ → Bool
  verdicts_of i a = by_verdicts (verdicts N config.graph a.standing.members a.copies (done_of i))

  shaped_judged : AreShaped {N = N} sc.config judged
  shaped_judged = judged_shaped sc p full made going given in_run x at framed judged verdicts_of framed_shaped c.many_judged (λ i a low is. c.judged_are i a no_belief low is) c.unjudged

  settled_of : (i : ℕ) (a : AgreedView) (b : Belief N) → i < sc.config.nodes → through sc p i ≡ Some a → (belief_of b filled groups i).done ≡ done_in sc p i a
  settled_of = group_done law sc p full made going few x s d groups c.firsts c.shared c.cold c.among c.alike filled c.done

  pub all_settled : (made' : Made N) → made' ≡ record made { beliefs = made'.beliefs } → made'.beliefs.items ≡ completed → AreSettled sc p full made' convicted groups
  all_settled made' made-is are = record {
    going = going_with sc p full made made' going made-is (ap length are ∙ c.many)
        (λ j b none.
        ap (λ (bs : List (Belief N)). get_or bs j b) are ∙ c.nothing j b none ∙ c.others j b (ap (λ (q : List ℕ). has_id q j) at.awake ∙ not_awake N made.states j none));
    shaped = shaped_more sc.config few x.awake (λ i. blames nat_eq (listener claim_form x s.links i)) judged convicted shaped_judged c.many_convicted c.convicted_are;
    claimed = group_claimed law sc p full made going few x s d groups c.firsts c.shared c.cold c.among c.alike filled c.done config config-is made' (ap (λ (m : Made N). m.states) made-is)
        (λ j b low. subst (λ (bs : List (Belief N)). get_or bs j b ≡ record (get_or filled j b) { due = (get_or bs j b).due }) (sym are) (c.kept j b low))
        (λ i a b low is. ap (λ (bs : List (Belief N)). (belief_of b bs groups i).due.items) are ∙ c.due i a b low is) at.awake;
    notes_are = convicted_notes law sc p x s d few judged convicted shaped_judged c.convicted_are
        (judged_notes sc p framed judged done_of (λ i a low is. settled_of i a no_belief low is)
        (λ i a low is.
        c.judged_are i a no_belief (omega arith) (going.states i low ∙ is)
        ∙ ap (λ (y : Config N). also_noted N (notes_at framed i) (by_verdicts (verdicts N y.graph a.standing.members a.copies (done_of i)))) config-is)
        (claimed_notes law sc p x s d few begun framed shaped c.framed_are noted));
  }
