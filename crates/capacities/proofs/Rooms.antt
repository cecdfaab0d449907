-- One scenario, read with room for more nodes and for less, has the same texts.
use Rattle.std.proofs.Common.{ℕ, ◌≡◌, ◌≤◌, ◌+◌, true, false, List, ◌++◌, Option, None, refl, sym, ap, subst, ◌∙◌}
use Rattle.std.proofs.Math.Path.{fun_ext}
use Rattle.std.specs.List.{flat_map}
use Rattle.node_grid.specs.NodeSet.{ids_below}
use Rattle.clock_skew.specs.Clock.{ClockView}
use Rattle.fault_classes.specs.Plan.{Plan}
use Rattle.protocol.specs.Run.{System}
use Rattle.scenario.specs.Parts.{ScenarioParts}
use Rattle.scenario.specs.Numbers.{natural}
use Rattle.scenario.specs.Given.{config_of, plan_in, scenario_of}
use Rattle.scenario.specs.Scenario.{ScenarioView, inputs_of, system_of}
use Rattle.scenario.specs.Rules.{refusal}
use Rattle.cluster_periods.specs.Record.{PeriodView, period_record}
use Rattle.run_text.specs.PeriodText.{end_text}
use Rattle.two_capacities.specs.Wider.{wide_config, system_over}
use Rattle.capacities.specs.Texts.{Shows, replayed, traced, checked, text_of, HaveSameTexts}
use Rattle.capacities.specs.Laws.{MoreRoomLaw, LessRoomLaw}
use Rattle.scenario_capacities.proofs.Scenarios.{nodes_fit, few_nodes, refusal_same, system_longer, clock_wide}
use Rattle.capacities.proofs.Periods.{wide_record, HasRoom, period_wide, has_room}
use Rattle.capacities.proofs.Texts.{head_wide, period_text_wide}

module _ (c k : ℕ) (p : ScenarioParts) (h : refusal c p ≡ None) where
  abbrev less : ScenarioView c
  less = scenario_of c p

  abbrev more : ScenarioView (c + k)
  more = scenario_of (c + k) p

  few : natural p.nodes ≤ c
  few = few_nodes c p (nodes_fit c p h)

  room : (q : ℕ) → HasRoom (period_record (system_of less) less.clock q)
  room q = has_room k (config_of c p) few few (plan_in p) (inputs_of less) less.clock q

  record_longer : (q : ℕ) → period_record (system_of more) more.clock q ≡ wide_record k (period_record (system_of less) less.clock q)
  record_longer q =
      ap (λ (sys : System). period_record sys more.clock q) (system_longer c k p h)
      ∙ ap (λ (clock : Option ClockView). period_record (system_over (wide_config k (config_of c p)) (plan_in p) (inputs_of less)) clock q) (clock_wide c k p h)
      ∙ period_wide k (config_of c p) few few (plan_in p) (inputs_of less) less.clock q

  text_longer : (shown : Shows) → ((plan : Plan) (t : PeriodView) → HasRoom t → shown plan (wide_record k t) ≡ shown plan t) → text_of shown less ≡ text_of shown more
  text_longer shown still = sym (
      ap (λ (f : ℕ → List ℕ). flat_map f (ids_below (natural p.periods)) ++ end_text (natural p.periods))
      (fun_ext (λ q. ap (shown (plan_in p)) (record_longer q) ∙ still (plan_in p) (period_record (system_of less) less.clock q) (room q))))

  same_texts : HaveSameTexts less more
  same_texts = record {
    replay = text_longer replayed (λ plan t h. period_text_wide k t h plan false);
    trace = text_longer traced (λ plan t h. period_text_wide k t h plan true);
    check = text_longer checked (λ plan t h. head_wide k t);
  }

pub more_room_law : MoreRoomLaw
more_room_law d small h =
    let few : natural h.parts.nodes ≤ 8 = few_nodes 8 h.parts (nodes_fit 8 h.parts h.unrefused) in (
      scenario_of 16 h.parts,
      record { parts = h.parts; reads = h.reads; unrefused = refusal_same 8 8 h.parts few ∙ h.unrefused; says = refl },
      subst (λ (sc : ScenarioView 8). HaveSameTexts sc (scenario_of 16 h.parts)) (sym h.says) (same_texts 8 8 h.parts h.unrefused),
    )

pub less_room_law : LessRoomLaw
less_room_law d large h below =
    let few : natural h.parts.nodes ≤ 8 = subst (λ (sc : ScenarioView 16). sc.config.nodes ≤ 8) h.says below in
    let unrefused : refusal 8 h.parts ≡ None = sym (refusal_same 8 8 h.parts few) ∙ h.unrefused in (
      scenario_of 8 h.parts,
      record { parts = h.parts; reads = h.reads; unrefused = unrefused; says = refl },
      subst (λ (sc : ScenarioView 16). HaveSameTexts (scenario_of 8 h.parts) sc) (sym h.says) (same_texts 8 8 h.parts unrefused),
    )
