-- Which rule refuses a record, by its parts and its scenario; and what none refuses is a log.
use Rattle.std.proofs.Common.{ℕ, ◌≡◌, ◌<◌, ◌≤◌, ◌+◌, ◌*◌, List, map, sym, ap, ap₂, subst, ◌∙◌, Option, None, Some}
use Rattle.std.specs.Prelude.{All, nat_lt}
use Rattle.std.specs.Option.{option_or}
use Rattle.std.proofs.lemmas.Bool.{lt-ltb, le-ltb, ltb-true}
use Rattle.node_grid.specs.TruthFacts.{first_none, second_none}
use Rattle.scenario.specs.Facts.{unless_holds, no_place}
use Rattle.serde_json.specs.Data.{Data}
use Rattle.node_grid.specs.Capacity.{IsCapacity}
use Rattle.slot_plan.specs.Slots.{slot_count}
use Rattle.agreed_state.specs.declared.config.Config.{Config}
use Rattle.scenario.specs.Parts.{ScenarioParts}
use Rattle.scenario_reading.specs.Keys.{parts_read}
use Rattle.scenario.specs.Rules.{unless, at_place, refusal}
use Rattle.scenario.specs.Scenario.{ScenarioView, IsScenario}
use Rattle.scenario.specs.Given.{scenario_of}
use Rattle.scenario.specs.Verdict.{Tells}
use Rattle.scenario.specs.Laws.{AcceptedLaw}
use Rattle.scenario_reading.specs.Verdict.{IsAcceptedValue, value_refusal}
use Rattle.scenario_reading.specs.Verdict as scenario
use Rattle.scenario.specs.declared.error.ScenarioError.{ScenarioError}
use Rattle.scenario.specs.declared.error.ScenarioError.TheVariants.{Unreadable, Refused, NoMemory}
use Rattle.node_alone.specs.Log.{Entry, RecordView}
use Rattle.node_alone.specs.Parts.{RecordParts, record_parts}
use Rattle.node_alone.specs.Rules.{Limits, limits_of, entry_of, first_bad_entry, log_refusal, parts_refusal, log_refusal_on, record_refusal, IsAcceptedRecord}
use Rattle.node_alone.specs.Seen.{IsPlaced, Ascends, IsRecord}
use Rattle.node_alone.proofs.Judged.{all_placed, all_ascend}

-- limits that are told by parts of a scenario
pub same_limits : {N : ℕ} (sc : ScenarioView N) (id : ℕ) (config : Config N) (slots periods : ℕ) → config ≡ sc.config → slots ≡ slot_count config.m → periods ≡ sc.periods
    → ◌≡◌ {A = Limits} (record { nodes = config.nodes; slots = slots; periods = periods; id = id }) (limits_of sc id)
same_limits {N} sc id config slots periods e f h =
    ap₂ (λ (s p : ℕ). record { nodes = config.nodes; slots = s; periods = p; id = id }) f h
    ∙ ap (λ (c : Config N). record { nodes = c.nodes; slots = slot_count c.m; periods = sc.periods; id = id }) e

module _ (N id : ℕ) (d : Data) where
  -- rule 15
  pub no_parts : record_parts d ≡ None → record_refusal N id d ≡ Some (15, 0)
  no_parts h = ap (log_refusal_on N id) h

  module _ (parts : RecordParts) (reads : Some parts ≡ record_parts d) where
    -- the scenario's own rules
    own_rules : (o : Option ScenarioParts) (rule place : ℕ) → scenario.refusal_on N o ≡ Some (rule, place) → parts_refusal N id parts.frames o ≡ Some (rule, place)
    own_rules None rule place h = h
    own_rules (Some sc) rule place h = ap (λ r. option_or r (log_refusal (scenario_of N sc) id parts.frames)) h

    pub own_refused : (e : ScenarioError) → Tells (value_refusal N parts.scenario) e → Tells (record_refusal N id d) e
    own_refused Unreadable h = h
    own_refused (Refused rule place) h = ap (log_refusal_on N id) (sym reads) ∙ own_rules (parts_read parts.scenario) rule place h
    own_refused NoMemory h = h

    module _ (s : ScenarioView N) (a : IsAcceptedValue parts.scenario s) where
      -- of an accepted scenario the later rules are left
      later_rules : record_refusal N id d ≡ log_refusal s id parts.frames
      later_rules =
          ap (log_refusal_on N id) (sym reads) ∙ ap (parts_refusal N id parts.frames) a.reads ∙ ap (λ o. option_or o (log_refusal (scenario_of N a.parts) id parts.frames)) a.unrefused
          ∙ ap (λ (v : ScenarioView N). log_refusal v id parts.frames) (sym a.says)

      -- rule 16
      pub no_node : s.config.nodes ≤ id → record_refusal N id d ≡ Some (16, 0)
      no_node h = later_rules ∙ ap (λ b. option_or (unless b 16 0) (at_place 17 (first_bad_entry (limits_of s id) 0 0 0 parts.frames))) (le-ltb id s.config.nodes h)

      module _ (low : id < s.config.nodes) where
        -- rule 17
        entry_rules : record_refusal N id d ≡ at_place 17 (first_bad_entry (limits_of s id) 0 0 0 parts.frames)
        entry_rules = later_rules ∙ ap (λ b. option_or (unless b 16 0) (at_place 17 (first_bad_entry (limits_of s id) 0 0 0 parts.frames))) (lt-ltb id s.config.nodes low)

        pub entry_refused : (l : Limits) (e : ScenarioError) → l ≡ limits_of s id → Tells (at_place 17 (first_bad_entry l 0 0 0 parts.frames)) e → Tells (record_refusal N id d) e
        entry_refused l e same h = subst (λ r. Tells r e) (sym entry_rules) (subst (λ (x : Limits). Tells (at_place 17 (first_bad_entry x 0 0 0 parts.frames)) e) same h)

        module _ (l : Limits) (same : l ≡ limits_of s id) (good : first_bad_entry l 0 0 0 parts.frames ≡ None) (es : List Entry) (are : es ≡ map entry_of parts.frames) where
          good_here : first_bad_entry (limits_of s id) 0 0 0 parts.frames ≡ None
          good_here = ap (λ (x : Limits). first_bad_entry x 0 0 0 parts.frames) (sym same) ∙ good

          pub accepted : IsAcceptedRecord {capacity = N} id d (record { scenario = s; id = id; entries = es })
          accepted = record {
            parts = parts;
            scenario = a.parts;
            reads = sym reads;
            reads_scenario = a.reads;
            unrefused = entry_rules ∙ ap (at_place 17) good_here;
            says = ap₂ (λ (v : ScenarioView N) (xs : List Entry). record { scenario = v; id = id; entries = xs }) a.says are;
          }

          pub is_record : IsScenario s → IsRecord {N = N} (record { scenario = s; id = id; entries = es })
          is_record is = record {
            scenario = is;
            id = low;
            placed = subst (All (IsPlaced s.config.nodes (2 * s.config.m + 4) s.periods id)) (sym are) (all_placed (limits_of s id) 0 0 0 parts.frames good_here);
            ascends = subst Ascends (sym are) (all_ascend (limits_of s id) 0 0 0 parts.frames good_here);
          }

-- what no rule refuses is the log of one of the nodes of a scenario
pub record_is : AcceptedLaw → (N id : ℕ) (d : Data) (r : RecordView N) → IsCapacity N → IsAcceptedRecord id d r → IsRecord r
record_is scenarios N id d r room h =
    let sc : ScenarioView N = scenario_of N h.scenario in
    let frames = h.parts.frames in
    let rules : option_or (refusal N h.scenario) (log_refusal sc id frames) ≡ None =
    sym (ap (parts_refusal N id frames) h.reads_scenario) ∙ sym (ap (log_refusal_on N id) h.reads) ∙ h.unrefused in
    let later = second_none (refusal N h.scenario) (log_refusal sc id frames) rules in
    let no_node = unless (nat_lt id sc.config.nodes) 16 0 in
    let bad_entry = at_place 17 (first_bad_entry (limits_of sc id) 0 0 0 frames) in
    let good : first_bad_entry (limits_of sc id) 0 0 0 frames ≡ None = no_place 17 _ (second_none no_node bad_entry later) in
    subst (λ (x : RecordView N). IsRecord x) (sym h.says) (record {
      scenario = scenarios N h.scenario room (first_none (refusal N h.scenario) (log_refusal sc id frames) rules);
      id = ltb-true id sc.config.nodes (unless_holds (nat_lt id sc.config.nodes) 16 0 (first_none no_node bad_entry later));
      placed = all_placed (limits_of sc id) 0 0 0 frames good;
      ascends = all_ascend (limits_of sc id) 0 0 0 frames good;
    })
