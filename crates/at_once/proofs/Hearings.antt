-- How nodes go through a period once its sync slot is over.
use Rattle.std.proofs.Common.{ℕ, ◌≡◌, ◌≢◌, ◌<◌, ◌≤◌, ◌+◌, ◌&&◌, Bool, true, false, List, [], length, set, get_or, get_or-set_other, get_or-set_same, replicate, Option, None, Some, refl, sym, ap, subst, ◌∙◌, inl, inr, arith, nat_lt, lt-ltb}
use Rattle.std.specs.Prelude.{is_some, slice_get, slice_index}
use Rattle.std.proofs.lemmas.Bool.{cases_Bool, cases_eq, cases_lt, false≢true, le-ltb}
use Rattle.std.proofs.lemmas.Option.{slice_get-get_or}
use Rattle.node_grid.specs.Capacity.{IsCapacity}
use Rattle.node_grid.specs.Version.{kind_count}
use Rattle.node_grid.specs.NodeSet.{has_id, ids_where}
use Rattle.node_grid.specs.NodeSetLaws.{has-filter, passes_where}
use Rattle.error_reports.specs.Notes.{Notes, also_noted}
use Rattle.agreed_state.specs.declared.config.Config.{Config}
use Rattle.agreed_state.specs.Config.{IsConfig}
use Rattle.agreed_state.specs.Agreed.{AgreedView, IsAgreed}
use Rattle.fault_classes.specs.Plan.{Plan}
use Rattle.protocol.specs.Configured.{setting_of}
use Rattle.protocol.specs.View.{goes_with, synced_by}
use Rattle.scenario.specs.Scenario.{ScenarioView, system_of, IsScenario}
use Rattle.shared_states.specs.declared.belief.Belief.{Belief}
use Rattle.shared_states.specs.Sharing.{state_at}
use Rattle.heard_states.specs.declared.slot.SyncSlot.{SyncSlot}
use Rattle.heard_states.specs.Slot.{IsSyncSlot, AreReady, IsSlotOf, AreHeard, noted_states}
use Rattle.node_steps.specs.Outcome.{cold_outcome}
use Rattle.shown_period.specs.declared.made.Made.{Made}
use Rattle.shown_period.specs.Outcomes.{HasBeliefs, belief_at, done_in, rows_in, due_in, votes_in, found_at, sync_at, outcome_at, modes_through, members_through}
use Rattle.shown_period.specs.Whole.{AreAlike}
use Rattle.at_once.specs.declared.keeping.Keeping.{Keeping}
use Rattle.at_once.specs.Parts.{setting, goes, is_full, through, has, notes_synced}
use Rattle.at_once.specs.Kept.{notes_at, AreUsed, AreBegun}
use Rattle.at_once.specs.Course.{awake_in, IsNothing, IsGoing, AreLeft, AreSynced}
use Rattle.at_once.proofs.Making.{synced_is}

-- ---- who has no state is left alone

module _ {N : ℕ} (old : Made N) where
  pub none_left : HasBeliefs old → AreLeft 0 old old
  none_left beliefs = record {
    beliefs = beliefs;
    states = refl;
    modes = refl;
    members = refl;
    sync = refl;
    nothing = λ j d low none. absurd (omega arith);
    no_row = λ j low none. absurd (omega arith);
  }

  pub awake_stays : (i : ℕ) (made : Made N) → is_some (state_at old.states i) ≡ true → AreLeft i old made → AreLeft (i + 1) old made
  awake_stays i made on m = record {
    beliefs = m.beliefs;
    states = m.states;
    modes = m.modes;
    members = m.members;
    sync = m.sync;
    nothing = λ j d low none. elim (cases_eq j i) [
      | inl e ↦ absurd (false≢true (ap is_some (sym none ∙ ap (state_at old.states) e) ∙ on))
      | inr ne ↦ m.nothing j d (omega arith) none
    ];
    no_row = λ j low none. elim (cases_eq j i) [
      | inl e ↦ absurd (false≢true (ap is_some (sym none ∙ ap (state_at old.states) e) ∙ on))
      | inr ne ↦ m.no_row j (omega arith) none
    ];
  }

  -- node i is left
  module _ (i : ℕ) (made made' : Made N) (low : i < N) (group-wide : length made.group ≡ N) (found-wide : length made.found ≡ N)
      (alike : AreAlike (outcome_at made' i) (cold_outcome N)) (group-is : made'.group ≡ set made.group i i) (found-is : made'.found ≡ set made.found i (replicate N 0))
      (places : (k : ℕ) → k ≢ i → slice_get made'.beliefs.items k ≡ slice_get made.beliefs.items k) (many : length made'.beliefs.items ≡ N) where
    group_here : slice_index made'.group i ≡ i
    group_here = ap (λ (xs : List ℕ). slice_index xs i) group-is ∙ get_or-set_same made.group i i 0 (omega arith)

    believed : (d : Belief N) → belief_at made' i ≡ Some (get_or made'.beliefs.items i d)
    believed d = ap (slice_get made'.beliefs.items) group_here ∙ slice_get-get_or made'.beliefs.items i d (omega arith)

    nothing_here : (d : Belief N) → IsNothing (get_or made'.beliefs.items i d)
    nothing_here d = record {
      done = ap (λ (o : Option (Belief N)). done_in o) (sym (believed d)) ∙ alike.done;
      due = ap (λ (o : Option (Belief N)). due_in o) (sym (believed d)) ∙ alike.due;
      votes = ap (λ (o : Option (Belief N)). votes_in o) (sym (believed d)) ∙ alike.votes;
      rows = ap (λ (o : Option (Belief N)). rows_in o) (sym (believed d)) ∙ alike.rows;
    }

    stays_there : (j : ℕ) (d : Belief N) → length made.beliefs.items ≡ N → j < N → j ≢ i → get_or made'.beliefs.items j d ≡ get_or made.beliefs.items j d
    stays_there j d wide within ne =
        let e : Some (get_or made'.beliefs.items j d) ≡ Some (get_or made.beliefs.items j d) =
        sym (slice_get-get_or made'.beliefs.items j d (omega arith)) ∙ places j ne ∙ slice_get-get_or made.beliefs.items j d (omega arith) in cc

    placed_still : ((j : ℕ) → j < N → slice_index made.group j < N) → (j : ℕ) → j < N → slice_index made'.group j < N
    placed_still placed j within = elim (cases_eq j i) [
      | inl e ↦ let here : slice_index made'.group j ≡ i = ap (slice_index made'.group) e ∙ group_here in omega arith
      | inr ne ↦
          let there : slice_index made'.group j ≡ slice_index made.group j = ap (λ (xs : List ℕ). slice_index xs j) group-is ∙ get_or-set_other made.group i j i 0 ne in
          let was = placed j within in omega arith
    ]

    pub cold_left : made'.states ≡ made.states → made'.modes ≡ made.modes → made'.members ≡ made.members → made'.sync ≡ made.sync → AreLeft i old made → AreLeft (i + 1) old made'
    cold_left states-are modes-are members-are sync-is m = record {
      beliefs = record { capacity = m.beliefs.capacity; many = many; placed = placed_still m.beliefs.placed };
      states = states-are ∙ m.states;
      modes = modes-are ∙ m.modes;
      members = members-are ∙ m.members;
      sync = sync-is ∙ m.sync;
      nothing = λ j d less none. elim (cases_eq j i) [
        | inl e ↦ subst (λ (x : ℕ). IsNothing (get_or made'.beliefs.items x d)) (sym e) (nothing_here d)
        | inr ne ↦ subst (λ (b : Belief N). IsNothing b) (sym (stays_there j d m.beliefs.many (omega arith) ne)) (m.nothing j d (omega arith) none)
      ];
      no_row = λ j less none. elim (cases_eq j i) [
        | inl e ↦
            ap (found_at made') e ∙ ap (λ (xs : List (List ℕ)). get_or xs i []) found-is ∙ get_or-set_same made.found i (replicate N 0) [] (omega arith)
        | inr ne ↦ ap (λ (xs : List (List ℕ)). get_or xs j []) found-is ∙ get_or-set_other made.found i j (replicate N 0) [] ne ∙ m.no_row j (omega arith) none
      ];
    }

-- ---- the slot

module _ {N : ℕ} (sc : ScenarioView N) (slot : SyncSlot N) (cap : IsCapacity N) (ok : IsScenario sc) (config-is : slot.config.now ≡ sc.config) (plan-is : slot.plan.now ≡ sc.plan) where
  nodes_are : slot.config.now.nodes ≡ sc.config.nodes
  nodes_are = ap (λ (c : Config N). c.nodes) config-is

  pub is_slot : slot.period < sc.periods → IsSyncSlot slot
  is_slot in-run = record {
    capacity = cap;
    config = subst (IsConfig N) (sym config-is) ok.system.config;
    nodes = ap (λ (x : Plan). x.nodes) plan-is ∙ ok.system.plan_nodes ∙ sym nodes_are;
    period = let e : slot.plan.now.periods ≡ sc.periods = ap (λ (x : Plan). x.periods) plan-is ∙ ok.plan_periods in omega arith;
  }

  module _ (states : List (Option AgreedView)) (k : Keeping N) (begun : AreBegun sc slot.period states k) where
    pub are_ready : length states ≡ N → AreReady slot states k.notes
    are_ready long = record {
      agreed = subst (λ (c : Config N). (i : ℕ) (a : AgreedView) → state_at states i ≡ Some a → IsAgreed N c a) (sym config-is) begun.used.agreed;
      used = λ i on. let u = begun.used.used i on in let e = nodes_are in omega arith;
      long = long;
      room = let e = nodes_are in let f = ok.system.config.few_nodes in let m = begun.shaped.many in omega arith;
      nodes_are = λ i low. begun.shaped.nodes i (let e = nodes_are in omega arith) ∙ sym nodes_are;
      me_is = λ i low. begun.shaped.me i (let e = nodes_are in omega arith);
      kinds = λ i low. begun.shaped.kinds i (let e = nodes_are in omega arith) ∙ ap (λ (c : Config N). kind_count c.version) (sym config-is);
    }

    pub of_run : IsSlotOf slot states k.notes (system_of sc)
    of_run = record {
      accepted = ok.system;
      setting_is = ap (λ (c : Config N). setting_of c) (sym config-is);
      plan_is = sym plan-is;
      states_are = λ i low. begun.states_are i (let e = nodes_are in omega arith);
      carried = λ i low. ap (λ (x : Notes). x.row) (begun.notes i (let e = nodes_are in omega arith));
    }

    -- what all have of the slot
    module _ (full : List ℕ) (full-is : full ≡ awake_in N states) (now : List (Option AgreedView)) (l : Keeping N) (heard : List (List ℕ))
        (ready : AreReady slot now l.notes) (h : AreHeard slot (system_of sc) k.notes now l.notes heard)
        (many : length l.notes ≡ N) (made : Made N) (made' : Made N)
        (modes-are : made.modes ≡ modes_through N full now) (members-are : made.members ≡ members_through N now) (states-are : made.states ≡ now) (sync-are : made.sync ≡ heard)
        (left : AreLeft sc.config.nodes made made') where
      in_slot : (i : ℕ) → i < sc.config.nodes → i < slot.config.now.nodes
      in_slot i low = let e = nodes_are in omega arith

      states_now : made'.states ≡ now
      states_now = left.states ∙ states-are

      goes_through : (i : ℕ) → i < sc.config.nodes → state_at now i ≡ through sc slot.period i
      goes_through i low = h.states_are i (in_slot i low) ∙ ap (λ (c : Config N). goes_with (setting_of c) i (has sc slot.period i) (goes sc slot.period i).state) config-is

      full_used : (i : ℕ) → has_id full i ≡ (nat_lt i sc.config.nodes && is_full sc slot.period i)
      full_used i = ap (λ (xs : List ℕ). has_id xs i) full-is ∙ elim (cases_lt i sc.config.nodes) [
        | inl low ↦
            has-filter (λ j. is_some (state_at states j)) N i (let f = ok.system.config.few_nodes in omega arith)
            ∙ ap is_some (begun.states_are i low) ∙ sym (ap (λ (b : Bool). b && is_full sc slot.period i) (lt-ltb i sc.config.nodes low))
        | inr high ↦ unused i high ∙ sym (ap (λ (b : Bool). b && is_full sc slot.period i) (le-ltb i sc.config.nodes high))
      ]
        where
          unused : (j : ℕ) → sc.config.nodes ≤ j → has_id (ids_where (λ x. is_some (state_at states x)) N) j ≡ false
          unused j high = elim (cases_Bool (has_id (ids_where (λ x. is_some (state_at states x)) N) j)) [
            | inl on ↦ absurd (let u = begun.used.used j (passes_where (λ x. is_some (state_at states x)) N j on) in omega arith)
            | inr off ↦ off
          ]

      sync_now : (i : ℕ) → i < sc.config.nodes → sync_at made' i ≡ synced_by (setting sc slot.period 0) i (has sc slot.period i)
      sync_now i low =
          ap (λ (xs : List (List ℕ)). get_or xs i []) (left.sync ∙ sync-are) ∙ h.heard_are i (in_slot i low)
          ∙ ap (λ (c : Config N). synced_by (setting_of c) i (has sc slot.period i)) config-is

      no_state : (i : ℕ) → i < sc.config.nodes → through sc slot.period i ≡ None → state_at made.states i ≡ None
      no_state i low none = ap (λ (xs : List (Option AgreedView)). state_at xs i) states-are ∙ goes_through i low ∙ none

      going : IsGoing sc slot.period full made'
      going = record {
        used = subst (AreUsed sc.config) (sym states_now) (record {
          agreed = subst (λ (c : Config N). (i : ℕ) (a : AgreedView) → state_at now i ≡ Some a → IsAgreed N c a) config-is ready.agreed;
          used = λ i on. let u = ready.used i on in let e = nodes_are in omega arith;
        });
        states = λ i low. ap (λ (xs : List (Option AgreedView)). state_at xs i) states_now ∙ goes_through i low;
        full_are = full_used;
        modes = left.modes ∙ modes-are ∙ ap (modes_through N full) (sym states_now);
        members = left.members ∙ members-are ∙ ap (members_through N) (sym states_now);
        sync = sync_now;
        many = left.beliefs.many;
        nothing = λ i d low none. left.nothing i d low (no_state i low none);
        no_row = λ i low none. left.no_row i low (no_state i low none);
      }

      shaped_by : (f : Notes → ℕ) → ((x : Notes) (row : List ℕ) → f (record x { row = row }) ≡ f x) → (i : ℕ) → i < sc.config.nodes → f (notes_at l.notes i) ≡ f (notes_at k.notes i)
      shaped_by f same i low = ap f (h.kept i (in_slot i low)) ∙ same (notes_at k.notes i) (notes_at l.notes i).row

      noted_now : (i : ℕ) (a : AgreedView) → i < sc.config.nodes → through sc slot.period i ≡ Some a → notes_at l.notes i ≡ notes_synced sc slot.period i a
      noted_now i a low goes-by =
          h.notes_are i a (in_slot i low) (goes_through i low ∙ goes-by)
          ∙ ap (λ (c : Config N). also_noted N (notes_at k.notes i) (noted_states c a (has sc slot.period i).sync)) config-is
          ∙ ap (λ (x : Notes). also_noted N x (noted_states sc.config a (has sc slot.period i).sync)) (begun.notes i low)
          ∙ sym (synced_is sc slot.period i a)

      pub all_synced : AreSynced sc slot.period full made' l.notes
      all_synced = record {
        going = going;
        shaped = record {
          many = many;
          nodes = λ i low. shaped_by (λ (x : Notes). x.nodes) (λ x row. refl) i low ∙ begun.shaped.nodes i low;
          me = λ i low. shaped_by (λ (x : Notes). x.me) (λ x row. refl) i low ∙ begun.shaped.me i low;
          kinds = λ i low. shaped_by (λ (x : Notes). x.kinds) (λ x row. refl) i low ∙ begun.shaped.kinds i low;
        };
        notes_are = noted_now;
      }
