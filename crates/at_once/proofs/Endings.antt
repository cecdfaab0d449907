-- How a period ends: what was made of it, and what nodes keep.
use Rattle.std.proofs.Common.{ℕ, suc, ℤ, add-one, ◌≡◌, ◌≢◌, ◌<◌, ◌≤◌, ◌+◌, ◌&&◌, Bool, true, false, if◌then◌else◌, List, [], length, length-set, set, get_or, get_or-set_other, get_or-set_same, replicate, Option, None, Some, refl, sym, ap, ap₂, subst, ◌∙◌, inl, inr, arith, lt-ltb}
use Rattle.std.specs.Prelude.{is_some, slice_get, slice_index}
use Rattle.std.proofs.lemmas.Bool.{cases_Bool, cases_eq, cases_lt, false≢true}
use Rattle.std.proofs.lemmas.List.FromFn.{get_or-map-range_with_len}
use Rattle.std.proofs.lemmas.Option.{slice_get-get_or}
use Rattle.node_grid.specs.Capacity.{IsCapacity}
use Rattle.node_grid.specs.NodeSet.{has_id, ids_where}
use Rattle.node_grid.specs.NodeSetLaws.{has-filter}
use Rattle.agreed_state.specs.declared.config.Config.{Config}
use Rattle.error_reports.specs.Notes.{Notes}
use Rattle.agreed_state.specs.Agreed.{AgreedView, agreed_after}
use Rattle.agreed_state.specs.Facts.{none_unless}
use Rattle.protocol.specs.View.{View, cold_view}
use Rattle.protocol.specs.View.Mode.{Full as ViewFull, Joining as ViewJoining}
use Rattle.protocol.specs.Cluster.{view}
use Rattle.protocol.specs.Run.{run, members_in}
use Rattle.node_core.specs.declared.outcome.Mode.{Mode}
use Rattle.node_core.specs.declared.outcome.Mode.TheVariants.{Cold}
use Rattle.node_core.specs.Modes.{mode_of}
use Rattle.node_steps.specs.Stages.{outcome_of}
use Rattle.scenario.specs.Scenario.{ScenarioView, system_of}
use Rattle.shared_states.specs.declared.belief.Belief.{Belief}
use Rattle.shared_states.specs.Sharing.{state_at, AreAgreed}
use Rattle.shown_period.specs.declared.made.Made.{Made}
use Rattle.shown_period.specs.Outcomes.{HasBeliefs, mode_at, mode_with, members_at, belief_at, outcome_at}
use Rattle.shown_period.specs.Whole.{AreMade}
use Rattle.shown_period.specs.WholeLaws.{IsPart, outcome_by_parts}
use Rattle.grouped_nodes.specs.Grouping.{first_of, AreFirsts}
use Rattle.grouped_nodes.specs.Shared.{belief_of}
use Rattle.view_law.specs.Made.{view_made}
use Rattle.view_law.proofs.Keeping.{through_is, cold_is as stays_cold}
use Rattle.at_once.specs.declared.keeping.Keeping.{Keeping}
use Rattle.at_once.specs.Parts.{goes, is_full, through, setting, has, after_in, parts_in}
use Rattle.at_once.specs.Kept.{notes_at, of_node, kept_before, no_longer, AreKept}
use Rattle.at_once.specs.Ended.{IsForgotten, IsUnchanged, AreForgetting}
use Rattle.at_once.specs.Course.{IsNothing, AreReported}
use Rattle.at_once.proofs.Making.{after_is, view_is, cold_is}
use Rattle.at_once.proofs.Beginnings.{none_past}

-- ---- who stayed Cold forgets

module _ {N : ℕ} (awake : List ℕ) (k : Keeping N) where
  pub none_forgets : length k.notes ≡ N → AreForgetting awake k 0 k
  none_forgets many = record {
    many = many;
    cold = λ j low off. absurd (omega arith);
    others = λ j on. record { notes = refl; votes = refl; owns = refl };
    rest = λ j high. record { notes = refl; votes = refl; owns = refl };
  }

  pub awake_keeps : (i : ℕ) (l : Keeping N) → has_id awake i ≡ true → AreForgetting awake k i l → AreForgetting awake k (i + 1) l
  awake_keeps i l on m = record {
    many = m.many;
    cold = λ j low off. elim (cases_eq j i) [
      | inl e ↦ absurd (false≢true (sym off ∙ ap (has_id awake) e ∙ on))
      | inr ne ↦ m.cold j (omega arith) off
    ];
    others = m.others;
    rest = λ j high. m.rest j (omega arith);
  }

  module _ (i : ℕ) (l l' : Keeping N) (low : i < N) (wide : length l.votes ≡ N) (wide_owns : length l.owns ≡ N)
      (notes-are : l'.notes ≡ set l.notes i (no_longer N (notes_at l.notes i)))
      (votes-are : l'.votes ≡ set l.votes i (replicate 8 None)) (owns-are : l'.owns ≡ set l.owns i (replicate 8 None)) where
    away : (j : ℕ) → j ≢ i → IsUnchanged j k l → IsUnchanged j k l'
    away j ne was = record {
      notes = ap (λ (xs : List Notes). notes_at xs j) notes-are ∙ get_or-set_other l.notes i j _ _ ne ∙ was.notes;
      votes = ap (λ (xs : List (List (Option ℤ))). of_node xs j) votes-are ∙ get_or-set_other l.votes i j _ _ ne ∙ was.votes;
      owns = ap (λ (xs : List (List (Option ℤ))). of_node xs j) owns-are ∙ get_or-set_other l.owns i j _ _ ne ∙ was.owns;
    }

    before : (j : ℕ) → j ≢ i → IsForgotten j k l → IsForgotten j k l'
    before j ne was = record {
      notes = ap (λ (xs : List Notes). notes_at xs j) notes-are ∙ get_or-set_other l.notes i j _ _ ne ∙ was.notes;
      votes = ap (λ (xs : List (List (Option ℤ))). of_node xs j) votes-are ∙ get_or-set_other l.votes i j _ _ ne ∙ was.votes;
      owns = ap (λ (xs : List (List (Option ℤ))). of_node xs j) owns-are ∙ get_or-set_other l.owns i j _ _ ne ∙ was.owns;
    }

    here : length l.notes ≡ N → IsUnchanged i k l → IsForgotten i k l'
    here many was = record {
      notes = ap (λ (xs : List Notes). notes_at xs i) notes-are ∙ get_or-set_same l.notes i _ _ (omega arith) ∙ ap (no_longer N) was.notes;
      votes = ap (λ (xs : List (List (Option ℤ))). of_node xs i) votes-are ∙ get_or-set_same l.votes i (replicate 8 None) [] (omega arith);
      owns = ap (λ (xs : List (List (Option ℤ))). of_node xs i) owns-are ∙ get_or-set_same l.owns i (replicate 8 None) [] (omega arith);
    }

    pub cold_forgets : has_id awake i ≡ false → AreForgetting awake k i l → AreForgetting awake k (i + 1) l'
    cold_forgets off m = record {
      many = ap length notes-are ∙ length-set l.notes i _ ∙ m.many;
      cold = λ j less no. elim (cases_eq j i) [
        | inl e ↦ subst (λ (x : ℕ). IsForgotten x k l') (sym e) (here m.many (m.rest i (omega arith)))
        | inr ne ↦ before j ne (m.cold j (omega arith) no)
      ];
      others = λ j on. away j (λ e. false≢true (sym off ∙ ap (has_id awake) (sym e) ∙ on)) (m.others j on);
      rest = λ j high. let ne : j ≢ i = omega arith in away j ne (m.rest j (omega arith));
    }

-- ---- what was made of the period

mode_is : (full : Bool) (a : AgreedView) → mode_of (mode_with full (Some a)) ≡ (if full then ViewFull else ViewJoining)
mode_is true a = refl
mode_is false a = refl

abbrev nothing_believed : (N : ℕ) → Belief N
nothing_believed N = record { done = []; due = record { items = [] }; votes = []; rows = [] }

module _ {N : ℕ} (sc : ScenarioView N) (p : ℕ) (full : List ℕ) (made : Made N) (k : Keeping N) (groups : List ℕ)
    (r : AreReported sc p full made k groups) (room : sc.config.nodes ≤ N) (firsts : AreFirsts N groups) (grouped : made.group ≡ groups) where
  mode_now : (i : ℕ) → i < sc.config.nodes → mode_at made i ≡ mode_with (has_id full i) (through sc p i)
  mode_now i low =
      ap (λ (xs : List Mode). get_or xs i Cold) r.going.modes
      ∙ get_or-map-range_with_len (λ j. mode_with (has_id full j) (state_at made.states j)) 0 N i i Cold (omega arith) (omega arith)
      ∙ ap (mode_with (has_id full i)) (r.going.states i low)

  members_now : (i : ℕ) → i < sc.config.nodes → members_at made i ≡ members_in (through sc p i)
  members_now i low =
      ap (λ (xs : List (List ℕ)). get_or xs i []) r.going.members
      ∙ get_or-map-range_with_len (λ j. members_in (state_at made.states j)) 0 N i i [] (omega arith) (omega arith)
      ∙ ap members_in (r.going.states i low)

  full_now : (i : ℕ) → i < sc.config.nodes → has_id full i ≡ is_full sc p i
  full_now i low = r.going.full_are i ∙ ap (λ (b : Bool). b && is_full sc p i) (lt-ltb i sc.config.nodes low)

  believed : (i : ℕ) → i < sc.config.nodes → belief_at made i ≡ Some (belief_of (nothing_believed N) made.beliefs.items groups i)
  believed i low =
      ap (λ (xs : List ℕ). slice_get made.beliefs.items (slice_index xs i)) grouped
      ∙ slice_get-get_or made.beliefs.items (first_of groups i) (nothing_believed N) (let f = firsts.early i (omega arith) in let w = r.going.many in omega arith)

  module _ (states : List (Option AgreedView)) where
    abbrev pub after : Made N
    after = record made { states = states }

    awake_part : (i : ℕ) (a : AgreedView) → i < sc.config.nodes → through sc p i ≡ Some a → state_at states i ≡ Some (after_in sc p i a)
        → IsPart after i (belief_of (nothing_believed N) made.beliefs.items groups i) (view_made (goes sc p i) a (parts_in sc p i a))
    awake_part i a low goes-by stepped = record {
      mode = ap mode_of (mode_now i low ∙ ap₂ mode_with (full_now i low) goes-by) ∙ mode_is (is_full sc p i) a;
      agreed = stepped;
      members = members_now i low ∙ ap members_in goes-by;
      believes = believed i low;
      done = r.claimed.done i a (nothing_believed N) low goes-by;
      rows = r.rows i a (nothing_believed N) low goes-by;
      due = r.claimed.due i a (nothing_believed N) low goes-by;
      votes = r.voted i a (nothing_believed N) low goes-by;
      found = r.found i a low goes-by;
      sync = r.going.sync i low;
    }

    cold_part : (i : ℕ) → i < sc.config.nodes → through sc p i ≡ None → state_at states i ≡ None
        → IsPart after i (belief_of (nothing_believed N) made.beliefs.items groups i) (cold_view (setting sc p i) i (has sc p i))
    cold_part i low none stepped =
        let own : first_of groups i ≡ i = r.claimed.cold i low none in
        let b : IsNothing (belief_of (nothing_believed N) made.beliefs.items groups i) =
        subst (λ (f : ℕ). IsNothing (get_or made.beliefs.items f (nothing_believed N))) (sym own) (r.going.nothing i (nothing_believed N) low none) in record {
          mode = ap mode_of (mode_now i low ∙ ap (mode_with (has_id full i)) none);
          agreed = stepped;
          members = members_now i low ∙ ap members_in none;
          believes = believed i low;
          done = b.done;
          rows = b.rows;
          due = b.due;
          votes = b.votes;
          found = r.going.no_row i low none;
          sync = r.going.sync i low;
        }

    view_through : (i : ℕ) (a : AgreedView) → through sc p i ≡ Some a → view (run (system_of sc)) i p ≡ view_made (goes sc p i) a (parts_in sc p i a)
    view_through i a goes-by = view_is through_is sc p i a goes-by

    view_cold : (i : ℕ) → through sc p i ≡ None → view (run (system_of sc)) i p ≡ cold_view (setting sc p i) i (has sc p i)
    view_cold i none = cold_is stays_cold sc p i none

    -- the states after the period, of nodes that went through it with a state and of those that didn't
    module _ (stepped : (i : ℕ) (a : AgreedView) → i < sc.config.nodes → through sc p i ≡ Some a → state_at states i ≡ Some (after_in sc p i a))
        (cold : (i : ℕ) → i < sc.config.nodes → through sc p i ≡ None → state_at states i ≡ None) where
      made_at : (i : ℕ) → i < sc.config.nodes → (o : Option AgreedView) → through sc p i ≡ o → outcome_at after i ≡ outcome_of (view (run (system_of sc)) i p)
      made_at i low (Some a) goes-by =
          outcome_by_parts after i _ (view_made (goes sc p i) a (parts_in sc p i a)) (awake_part i a low goes-by (stepped i a low goes-by))
          ∙ ap outcome_of (sym (view_through i a goes-by))
      made_at i low None none =
          outcome_by_parts after i _ (cold_view (setting sc p i) i (has sc p i)) (cold_part i low none (cold i low none))
          ∙ ap outcome_of (sym (view_cold i none))

      pub all_made : AreMade sc p after
      all_made i low = made_at i low (through sc p i) refl

      -- what they keep
      module _ (awake : List ℕ) (l : Keeping N) (awake-are : (i : ℕ) → i < sc.config.nodes → has_id awake i ≡ is_some (through sc p i))
          (forgot : AreForgetting awake k sc.config.nodes l) where
        record KeepsAt (i : ℕ) : Type 0 where
          state_is : state_at states i ≡ (kept_before sc (suc p) i).state
          carried : (notes_at l.notes i).carried ≡ (kept_before sc (suc p) i).carried
          votes : of_node l.votes i ≡ (kept_before sc (suc p) i).votes
          owns : of_node l.owns i ≡ (kept_before sc (suc p) i).owns

        keeps_at : (i : ℕ) → i < sc.config.nodes → (o : Option AgreedView) → through sc p i ≡ o → KeepsAt i
        keeps_at i low (Some a) goes-by =
            let v = view_through i a goes-by in
            let kept = forgot.others i (awake-are i low ∙ ap is_some goes-by) in record {
              state_is = stepped i a low goes-by ∙ ap (λ (w : View). w.kept.state) (sym v);
              carried = ap (λ (x : Notes). x.carried) (kept.notes ∙ r.notes i a low goes-by) ∙ ap (λ (w : View). w.kept.carried) (sym v);
              votes = kept.votes ∙ r.votes i a low goes-by ∙ ap (λ (w : View). w.kept.votes) (sym v);
              owns = kept.owns ∙ r.owns i a low goes-by ∙ ap (λ (w : View). w.kept.owns) (sym v);
            }
        keeps_at i low None none =
            let v = view_cold i none in
            let lost = forgot.cold i low (awake-are i low ∙ ap is_some none) in record {
              state_is = cold i low none ∙ ap (λ (w : View). w.kept.state) (sym v);
              carried = ap (λ (x : Notes). x.carried) lost.notes ∙ ap (λ (w : View). w.kept.carried) (sym v);
              votes = lost.votes ∙ ap (λ (w : View). w.kept.votes) (sym v);
              owns = lost.owns ∙ ap (λ (w : View). w.kept.owns) (sym v);
            }

        same_shape : (f : Notes → ℕ) → ((x : Notes) → f (no_longer N x) ≡ f x) → (j : ℕ) → j < sc.config.nodes → f (notes_at l.notes j) ≡ f (notes_at k.notes j)
        same_shape f same j low = elim (cases_Bool (has_id awake j)) [
          | inl on ↦ ap f (forgot.others j on).notes
          | inr off ↦ ap f (forgot.cold j low off).notes ∙ same (notes_at k.notes j)
        ]

        pub all_kept : AreAgreed sc.config states → length states ≡ N → ((i : ℕ) → sc.config.nodes ≤ i → i < N → state_at states i ≡ None) → AreKept sc (suc p) states l
        all_kept agreed long past = record {
          used = record { agreed = agreed; used = used_now };
          shaped = record {
            many = forgot.many;
            nodes = λ j low. same_shape (λ (x : Notes). x.nodes) (λ x. refl) j low ∙ r.shaped.nodes j low;
            me = λ j low. same_shape (λ (x : Notes). x.me) (λ x. refl) j low ∙ r.shaped.me j low;
            kinds = λ j low. same_shape (λ (x : Notes). x.kinds) (λ x. refl) j low ∙ r.shaped.kinds j low;
          };
          states_are = λ i low. (keeps_at i low (through sc p i) refl).state_is;
          carried = λ i low. (keeps_at i low (through sc p i) refl).carried;
          votes = λ i low. (keeps_at i low (through sc p i) refl).votes;
          owns = λ i low. (keeps_at i low (through sc p i) refl).owns;
        }
          where
            used_now : (i : ℕ) → is_some (state_at states i) ≡ true → i < sc.config.nodes
            used_now i on = elim (cases_lt i sc.config.nodes) [
              | inl low ↦ low
              | inr high ↦ elim (cases_lt i N) [
                | inl within ↦ absurd (false≢true (sym (ap is_some (past i high within)) ∙ on))
                | inr beyond ↦ absurd (false≢true (sym (ap is_some (none_past states i (omega arith))) ∙ on))
              ]
            ]

-- ---- the states are stepped

module _ {N : ℕ} (sc : ScenarioView N) (p : ℕ) (full : List ℕ) (made : Made N) (k : Keeping N) (groups : List ℕ)
    (r : AreReported sc p full made k groups) (room : sc.config.nodes ≤ N) (firsts : AreFirsts N groups) (grouped : made.group ≡ groups)
    (config : Config N) (config-is : config ≡ sc.config) (states : List (Option AgreedView))
    (stepped : (i : ℕ) (a : AgreedView) (d : Belief N) → i < N → state_at made.states i ≡ Some a
    → state_at states i ≡ Some (agreed_after N config p a (belief_of d made.beliefs.items groups i).done (belief_of d made.beliefs.items groups i).rows))
    (cold : (i : ℕ) → i < N → state_at made.states i ≡ None → state_at states i ≡ None) where
  stepped_on : (i : ℕ) (a : AgreedView) → i < sc.config.nodes → through sc p i ≡ Some a → state_at states i ≡ Some (after_in sc p i a)
  stepped_on i a low goes-by =
      stepped i a (nothing_believed N) (omega arith) (r.going.states i low ∙ goes-by)
      ∙ ap Some
      (ap (λ (c : Config N). agreed_after N c p a (belief_of (nothing_believed N) made.beliefs.items groups i).done (belief_of (nothing_believed N) made.beliefs.items groups i).rows) config-is
      ∙ ap₂ (agreed_after N sc.config p a) (r.claimed.done i a (nothing_believed N) low goes-by) (r.rows i a (nothing_believed N) low goes-by)
      ∙ sym (after_is sc p i a))

  cold_still : (i : ℕ) → i < sc.config.nodes → through sc p i ≡ None → state_at states i ≡ None
  cold_still i low none = cold i (omega arith) (r.going.states i low ∙ none)

  unused_still : (i : ℕ) → sc.config.nodes ≤ i → i < N → state_at states i ≡ None
  unused_still i high within = cold i within (none_unless (state_at made.states i) (λ on. let u = r.going.used.used i on in omega arith))

  pub made_whole : AreMade sc p (record made { states = states })
  made_whole = all_made sc p full made k groups r room firsts grouped states stepped_on cold_still

  pub believed_still : IsCapacity N → HasBeliefs (record made { states = states })
  believed_still cap = record {
    capacity = cap;
    many = r.going.many;
    placed = λ i low. let e : slice_index made.group i ≡ first_of groups i = ap (λ (xs : List ℕ). slice_index xs i) grouped in let f = firsts.early i low in omega arith;
  }

  pub kept_on : (awake : List ℕ) (l : Keeping N) → awake ≡ ids_where (λ i. is_some (state_at made.states i)) N → AreForgetting awake k config.nodes l
      → AreAgreed config states → length states ≡ N → AreKept sc (p + 1) states l
  kept_on awake l awake-is forgot agreed long =
      subst (λ (q : ℕ). AreKept sc q states l) (sym (add-one p))
      (all_kept sc p full made k groups r room firsts grouped states stepped_on cold_still awake l
      (λ i low. ap (λ (xs : List ℕ). has_id xs i) awake-is ∙ has-filter (λ j. is_some (state_at made.states j)) N i (omega arith) ∙ ap is_some (r.going.states i low))
      (subst (λ (c : Config N). AreForgetting awake k c.nodes l) config-is forgot) (subst (λ (c : Config N). AreAgreed c states) config-is agreed) long unused_still)
