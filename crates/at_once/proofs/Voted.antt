-- The data slot of a period of a run: what all go into it with, and what each votes and notes.
use Rattle.std.proofs.Common.{ℕ, ℤ, ◌≡◌, ◌<◌, ◌≤◌, ◌+◌, ◌==◌, ◌&&◌, ◌||◌, Bool, true, false, not, List, [], length, Option, None, Some, refl, sym, ap, ap₂, subst, ◌∙◌, inl, inr, arith}
use Rattle.std.specs.Prelude.{is_some, slice_index_or}
use Rattle.std.proofs.lemmas.Bool.{cases_Bool}
use Rattle.node_grid.specs.NodeSet.{has_id, ids_where, IsIdSet}
use Rattle.node_grid.specs.NodeSetLaws.{has-filter, passes_where, filter_none, IsIdSet-filter}
use Rattle.node_grid.specs.Kinds.{deviate, equivocate}
use Rattle.node_grid.specs.Version.{kind_count}
use Rattle.node_grid.specs.NumberFacts.{lt_yes, kinds-few}
use Rattle.omh_paths.specs.declared.wrapped.Wrapped.{Wrapped}
use Rattle.fault_classes.specs.Change.{is_untouched}
use Rattle.fault_classes.specs.Plan.{Plan, each_in_slot}
use Rattle.error_reports.specs.Notes.{Notes, also_noted, of_each}
use Rattle.agreed_state.specs.declared.config.Config.{Config}
use Rattle.agreed_state.specs.Agreed.{AgreedView}
use Rattle.protocol.specs.Arrival.{is_bad}
use Rattle.protocol.specs.Configured.{setting_of}
use Rattle.protocol.specs.View.{View, own_values, votes_on, deviates, is_due, channel}
use Rattle.protocol.specs.Run.{due_of, goes_in}
use Rattle.scenario.specs.Scenario.{ScenarioView, IsScenario, system_of, inputs_of}
use Rattle.shared_states.specs.declared.belief.Belief.{Belief}
use Rattle.shared_states.specs.Sharing.{state_at}
use Rattle.shown_period.specs.declared.made.Made.{Made}
use Rattle.told_values.specs.Slot.{DataView, IsDataSlot}
use Rattle.told_values.specs.Law.{IsSlotOf, HearsLaw}
use Rattle.told_values.specs.Within.{IsWithin, noted_within}
use Rattle.view_law.specs.Laws.{ViewLaw, ColdLaw}
use Rattle.at_once.specs.declared.keeping.Keeping.{Keeping}
use Rattle.at_once.specs.Parts.{setting, goes, has, given, is_full, through, done_in, due_in, own_in, votes_in, blamed_in, notes_judged, notes_voted}
use Rattle.at_once.specs.Kept.{notes_at, of_node}
use Rattle.at_once.specs.Course.{AreSettled, IsUnvoted}
use Rattle.at_once.specs.Values.{no_belief, due_at, done_at, IsVoteOf, HearEach, IsNotedOf}
use Rattle.at_once.proofs.Making as making
use Rattle.at_once.proofs.Talks as talks
use Rattle.at_once.proofs.Voting.{AreOwn, as_itself}

there : {X : Type 0} (o : Option X) → is_some o ≡ true → (x : X) × (o ≡ Some x)
there None on = cc
there (Some x) on = (x, refl)

module _ (hears_law : HearsLaw) (view_law : ViewLaw) (cold_law : ColdLaw) {N : ℕ} (sc : ScenarioView N) (p : ℕ) (full : List ℕ) (made : Made N) (notes : List Notes) (groups : List ℕ) (scenario : IsScenario sc) (settled : AreSettled sc p full made notes groups) where
  -- what is due at a node, by its state
  due_with : (i : ℕ) → i < sc.config.nodes → (o : Option AgreedView) → through sc p i ≡ o
      → (due_at (groups, made.beliefs.items) i ≡ due_of (system_of sc) p (goes_in (system_of sc) p) i) × IsIdSet (length sc.config.channels.items) (due_at (groups, made.beliefs.items) i)
  due_with i low None none =
      let nothing : due_at (groups, made.beliefs.items) i ≡ [] =
      ap (λ (f : ℕ). (slice_index_or made.beliefs.items f no_belief).due.items) (settled.claimed.cold i low none) ∙ (settled.going.nothing i no_belief low none).due in (
        nothing ∙ sym (talks.due_is sc p i ∙ ap (λ (v : View). v.due) (making.cold_is cold_law sc p i none)),
        subst (IsIdSet (length sc.config.channels.items)) (sym nothing) (sym (filter_none (λ k. has_id [] k) 0 (length sc.config.channels.items) (λ k l u. refl))),
      )
  due_with i low (Some a) is =
      let so : due_at (groups, made.beliefs.items) i ≡ due_in sc p i a = settled.claimed.due i a no_belief low is in (
        so ∙ sym (talks.due_is sc p i ∙ ap (λ (v : View). v.due) (making.view_is view_law sc p i a is)),
        subst (IsIdSet (length sc.config.channels.items)) (sym (so ∙ making.due_is sc p i a))
            (IsIdSet-filter (λ c. is_due (setting sc p i) a (done_in sc p i a) (channel (setting sc p i) c)) (length sc.config.channels.items)),
      )

  -- the slot, with these senders that may be touched and these own values
  abbrev pub slot_with : List ℕ → List (List (Option ℤ)) → DataView N
  slot_with touched owns = record { config = sc.config; plan = sc.plan; period = p; touched = touched; full = full; due = due_at (groups, made.beliefs.items); owns = owns }

  -- the same, as the code has it
  abbrev pub slot_by : Config N → Plan → List ℕ × List (Belief N) → List ℕ → List (List (Option ℤ)) → DataView N
  slot_by config plan dues touched owns = record { config = config; plan = plan; period = p; touched = touched; full = full; due = due_at dues; owns = owns }

  pub slot_same : (config : Config N) (plan : Plan) (dues : List ℕ × List (Belief N)) (touched : List ℕ) (owns : List (List (Option ℤ)))
      → config ≡ sc.config → plan ≡ sc.plan → dues ≡ (groups, made.beliefs.items) → slot_by config plan dues touched owns ≡ slot_with touched owns
  slot_same config plan dues touched owns config_is plan_is dues_are =
      ap₂ (λ (c : Config N) (f : Plan). slot_by c f dues touched owns) config_is plan_is ∙ ap (λ (ds : List ℕ × List (Belief N)). slot_by sc.config sc.plan ds touched owns) dues_are

  abbrev pub touched_in : List ℕ
  touched_in = ids_where (λ j. not (each_in_slot sc.plan is_untouched p j (sc.config.m + 2))) sc.config.nodes

  pub touched_same : (config : Config N) (plan : Plan) → config ≡ sc.config → plan ≡ sc.plan → ids_where (λ j. not (each_in_slot plan is_untouched p j (config.m + 2))) config.nodes ≡ touched_in
  touched_same config plan config_is plan_is =
      ap₂ (λ (c : Config N) (f : Plan). ids_where (λ j. not (each_in_slot f is_untouched p j (c.m + 2))) c.nodes) config_is plan_is

  untouched : (j : ℕ) → j < sc.config.nodes → has_id touched_in j ≡ false → each_in_slot sc.plan is_untouched p j (sc.config.m + 2) ≡ true
  untouched j low off = elim (cases_Bool (each_in_slot sc.plan is_untouched p j (sc.config.m + 2))) [
    | inl so ↦ so
    | inr off_now ↦
        let clash : false ≡ true = sym off ∙ has-filter (λ k. not (each_in_slot sc.plan is_untouched p k (sc.config.m + 2))) sc.config.nodes j low ∙ ap not off_now in
        absurd (cc)
  ]

  pub slot_is : p < sc.periods → (touched : List ℕ) (owns : List (List (Option ℤ))) → touched ≡ touched_in → IsDataSlot (slot_with touched owns)
  slot_is in_run touched owns is = record {
    config = scenario.system.config;
    plan_nodes = scenario.system.plan_nodes;
    plan_rounds = scenario.system.plan_rounds;
    period = subst (λ (n : ℕ). p < n) (sym scenario.plan_periods) in_run;
    due = λ i low. (due_with i low (through sc p i) refl).1;
    touched = λ j low off. untouched j low (sym (ap (λ (s : List ℕ). has_id s j) is) ∙ off);
  }

  -- so is it as the code has it
  pub slot_by_is : p < sc.periods → (config : Config N) (plan : Plan) (dues : List ℕ × List (Belief N)) (touched : List ℕ) (owns : List (List (Option ℤ)))
      → config ≡ sc.config → plan ≡ sc.plan → dues ≡ (groups, made.beliefs.items)
      → touched ≡ ids_where (λ j. not (each_in_slot plan is_untouched p j (config.m + 2))) config.nodes → IsDataSlot (slot_by config plan dues touched owns)
  slot_by_is in_run config plan dues touched owns config_is plan_is dues_are touched_is =
      subst (λ (d : DataView N). IsDataSlot d) (sym (slot_same config plan dues touched owns config_is plan_is dues_are))
      (slot_is in_run touched owns (touched_is ∙ touched_same config plan config_is plan_is))

  -- own values of the nodes in use, by what they go into the period with
  abbrev pub AreOwns : List (List (Option ℤ)) → Type 0
  AreOwns owns = (i : ℕ) → i < sc.config.nodes → of_node owns i ≡ own_values (setting sc p i) i p (given sc p i) (goes sc p i)

  full_is : (i : ℕ) → i < sc.config.nodes → has_id full i ≡ is_full sc p i
  full_is i low = settled.going.full_are i ∙ ap (λ (b : Bool). b && is_full sc p i) (lt_yes i sc.config.nodes low)

  of_run : (touched : List ℕ) (owns : List (List (Option ℤ))) → AreOwns owns → IsSlotOf (system_of sc) p (slot_with touched owns)
  of_run touched owns are = record {
    setting = refl;
    plan = refl;
    period = refl;
    full = full_is;
    due = λ j low. (due_with j low (through sc p j) refl).0;
    own = λ j low on. are j low;
  }

  pub each_hears : (touched : List ℕ) (owns : List (List (Option ℤ))) → AreOwns owns → HearEach (slot_with touched owns) (λ i. has sc p i)
  each_hears touched owns are i low = hears_law N (system_of sc) scenario.system p (slot_with touched owns) (of_run touched owns are) i low

  module _ (touched : List ℕ) (owns : List (List (Option ℤ))) (are : AreOwns owns) (i : ℕ) (a : AgreedView) (low : i < sc.config.nodes) (is : through sc p i ≡ Some a) where
    due_now : due_at (groups, made.beliefs.items) i ≡ due_in sc p i a
    due_now = settled.claimed.due i a no_belief low is

    pub own_now : of_node owns i ≡ own_in sc p i a
    own_now = are i low ∙ sym (making.own_is sc p i a)

    -- its votes
    pub votes_now : (votes : List (Option ℤ)) (off : List ℕ) → IsVoteOf (slot_with touched owns) a (done_at groups made.beliefs.items i) i (has sc p i) votes off → votes ≡ votes_in sc p i a
    votes_now votes off voted =
        voted.votes_are i (has sc p i) (as_itself (slot_with touched owns) i (has sc p i))
        ∙ ap (λ (b : Bool). votes_on (setting sc p i) i b a (done_at groups made.beliefs.items i) (due_at (groups, made.beliefs.items) i) (of_node owns i) (has sc p i)) (full_is i low)
        ∙ ap (λ (w : List (Wrapped ℕ)). votes_on (setting sc p i) i (is_full sc p i) a w (due_at (groups, made.beliefs.items) i) (of_node owns i) (has sc p i)) (settled.claimed.done i a no_belief low is)
        ∙ ap₂ (λ (ds : List ℕ) (own : List (Option ℤ)). votes_on (setting sc p i) i (is_full sc p i) a (done_in sc p i a) ds own (has sc p i)) due_now own_now
        ∙ sym (making.votes_is sc p i a)

    -- and its notes
    pub notes_now : (votes : List (Option ℤ)) (off : List ℕ) (new : Notes) → IsVoteOf (slot_with touched owns) a (done_at groups made.beliefs.items i) i (has sc p i) votes off
        → IsNotedOf (slot_with touched owns) i off (notes_at notes i) new → new ≡ notes_voted sc p i a
    notes_now votes off new voted noted =
        noted (has sc p i) (each_hears touched owns are i low) (deviates (setting sc p i) (due_in sc p i a) (votes_in sc p i a) (has sc p i))
        (λ q within other. voted.off_are i (has sc p i) (as_itself (slot_with touched owns) i (has sc p i)) q within other
        ∙ ap₂ (λ (ds : List ℕ) (vs : List (Option ℤ)). deviates (setting sc p i) ds vs (has sc p i) q) due_now (votes_now votes off voted))
        ∙ ap (λ (n : Notes). also_noted N n (λ q k. is_bad ((has sc p i).values q) k || (deviates (setting sc p i) (due_in sc p i a) (votes_in sc p i a) (has sc p i) q && k == deviate))) (settled.notes_are i a low is)
        ∙ sym (making.voted_is sc p i a)

  -- the notes of a node that goes through the period with a state say what they say
  pub within_now : (i : ℕ) → i < sc.config.nodes → has_id (ids_where (λ j. is_some (state_at made.states j)) N) i ≡ true → IsWithin N (notes_at notes i)
  within_now i low on =
      let few : i < N = (let f = scenario.system.config.few_nodes in omega arith) in
      let some = there (state_at made.states i) (passes_where (λ j. is_some (state_at made.states j)) N i on) in
      let a : AgreedView = some.0 in
      let is : through sc p i ≡ Some a = sym (settled.going.states i low) ∙ some.1 in
      let so : notes_at notes i ≡ also_noted N (notes_judged sc p i a) (of_each (blamed_in sc p i a).convicted equivocate) = settled.notes_are i a low is ∙ making.convicted_is sc p i a in
      let kinds : (notes_judged sc p i a).kinds ≡ kind_count sc.config.version = sym (ap (λ (n : Notes). n.kinds) so) ∙ settled.shaped.kinds i low in
      subst (IsWithin N) (sym so)
      (noted_within N (notes_judged sc p i a) (of_each (blamed_in sc p i a).convicted equivocate) (subst (λ (k : ℕ). k ≤ 16) (sym kinds) (kinds-few sc.config.version)))

  -- who goes through it with a state is awake
  pub awake_now : (i : ℕ) (a : AgreedView) → i < sc.config.nodes → through sc p i ≡ Some a → has_id (ids_where (λ j. is_some (state_at made.states j)) N) i ≡ true
  awake_now i a low is =
      has-filter (λ j. is_some (state_at made.states j)) N i (let f = scenario.system.config.few_nodes in omega arith)
      ∙ ap (λ (o : Option AgreedView). is_some o) (settled.going.states i low ∙ is)

  -- own values from what is kept
  pub owns_now : (k : Keeping N) (votes : List (List (Option ℤ))) (owns new : List (List (Option ℤ))) → votes ≡ k.votes → owns ≡ k.owns → IsUnvoted sc p k
      → ((i : ℕ) → i < sc.config.nodes → AreOwn sc p votes owns i (of_node new i)) → AreOwns new
  owns_now k votes owns new votes_are owns_are unvoted own i low =
      own i low (goes sc p i).state (goes sc p i).carried
      ∙ ap₂ (λ (v o : List (Option ℤ)). own_values (setting_of sc.config) i p (inputs_of sc i p) (record { state = (goes sc p i).state; carried = (goes sc p i).carried; votes = v; owns = o }))
      (ap (λ (vs : List (List (Option ℤ))). of_node vs i) votes_are ∙ unvoted.votes i low) (ap (λ (os : List (List (Option ℤ))). of_node os i) owns_are ∙ unvoted.owns i low)
