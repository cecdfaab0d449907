use Rattle.std.proofs.Common.{ℕ, suc, ◌≡◌, ◌≤◌, List, map, length, ℤ, sym, ap, ap₂, subst, ◌∙◌, Some, inl, inr, lit<}
use Rattle.std.specs.Prelude.{option_map}
use Rattle.std.proofs.lemmas.List.FromFn.{length-map-range_with_len}
use Rattle.node_grid.specs.NodeSet.{ids_below}
use Rattle.clock_skew.specs.Clock.{ClockView}
use Rattle.agreed_state.specs.declared.config.Config.{Config}
use Rattle.protocol.specs.Cluster.{view}
use Rattle.protocol.specs.Run.{System, run}
use Rattle.protocol.specs.Clocks.{correction_at, offsets}
use Rattle.node_steps.specs.Outcome.{Outcome}
use Rattle.node_steps.specs.Stages.{outcome_of}
use Rattle.scenario.specs.Scenario.{ScenarioView, system_of}
use Rattle.cluster_periods.specs.Record.{ClockShown, by_node, offsets_in, clock_in}
use Rattle.cluster_record.specs.Shown.{clock_shown}
use Rattle.clock_skew.specs.Reading.{moved}
use Rattle.cluster_record.specs.Clocking.{AreOthers, correction_by}
use Rattle.cluster_record.proofs.Clocking.{AreAtHand, at_hand, others, corrections_are, moved_are}
use Rattle.cluster_record.proofs.clocks.next_clocks.Goals as goal

pub clock-requires : goal.clock-requires
clock-requires g c = elim g.bound-1.eight_or_sixteen [ inl e ↦ rw e (lit< tt, lit< tt) | inr e ↦ rw e (lit< tt, lit< tt) ]

pub config-config-requires : goal.config-config-requires
config-config-requires g c = elim g.bound-1.eight_or_sixteen [ inl e ↦ rw e (lit< tt, lit< tt) | inr e ↦ rw e (lit< tt, lit< tt) ]

pub corrections-correction-requires : goal.corrections-correction-requires
corrections-correction-requires g c =
    let sc : ScenarioView g.row.N = c.args.scenario.now in
    let p : ℕ = c.args.period in
    let k : ClockView = c.in-Some.plan.now in
    let h : AreAtHand sc p k c.config-config.result.now.nodes c.in-Some-before.before.offset =
    at_hand sc p (option_map clock_shown c.args.before) (clock_shown c.in-Some-before.before) k c.config-config.result.now.nodes c.config-config.ensures.scenario g.bound-1.eight_or_sixteen c.requires.in_run c.offsets.ensures (ap (λ (y : Config g.row.N). y.nodes) c.config-config.ensures.config) (ap (option_map clock_shown) c.in-Some-before.is) c.in-Some.ensures.clock c.requires.offsets in (
      lit< tt,
      (
        elim g.bound-1.eight_or_sixteen [ inl e ↦ rw e (lit< tt) | inr e ↦ rw e (lit< tt) ],
        (
          elim g.bound-1.eight_or_sixteen [ inl e ↦ rw e (lit< tt) | inr e ↦ rw e (lit< tt) ],
          (
            h.steady,
            (
              ap length c.requires.records ∙ length-map-range_with_len (λ i. outcome_of (view (run (system_of sc)) i p)) 0 sc.config.nodes ∙ sym (ap (λ (y : Config g.row.N). y.nodes) c.config-config.ensures.config),
              subst AreOthers (sym c.requires.records) (others (system_of sc) k p),
            ),
          ),
        ),
      ),
    )

pub all_moved-offset-requires : goal.all_moved-offset-requires
all_moved-offset-requires g c =
    let sc : ScenarioView g.row.N = c.args.scenario.now in
    let p : ℕ = c.args.period in
    let k : ClockView = c.in-Some.plan.now in
    let h : AreAtHand sc p k c.config-config.result.now.nodes c.in-Some-before.before.offset =
    at_hand sc p (option_map clock_shown c.args.before) (clock_shown c.in-Some-before.before) k c.config-config.result.now.nodes c.config-config.ensures.scenario g.bound-1.eight_or_sixteen c.requires.in_run c.offsets.ensures (ap (λ (y : Config g.row.N). y.nodes) c.config-config.ensures.config) (ap (option_map clock_shown) c.in-Some-before.is) c.in-Some.ensures.clock c.requires.offsets in (lit< tt, (elim g.bound-1.eight_or_sixteen [ inl e ↦ rw e (lit< tt) | inr e ↦ rw e (lit< tt) ], (h.steady, c.corrections-correction.ensures.range)))

pub returns : goal.returns
returns g c =
    let sc : ScenarioView g.row.N = c.args.scenario.now in
    let sys : System = system_of sc in
    let p : ℕ = c.args.period in
    let k : ClockView = c.in-Some.plan.now in
    let h : AreAtHand sc p k c.config-config.result.now.nodes c.in-Some-before.before.offset =
    at_hand sc p (option_map clock_shown c.args.before) (clock_shown c.in-Some-before.before) k c.config-config.result.now.nodes c.config-config.ensures.scenario g.bound-1.eight_or_sixteen c.requires.in_run c.offsets.ensures (ap (λ (y : Config g.row.N). y.nodes) c.config-config.ensures.config) (ap (option_map clock_shown) c.in-Some-before.is) c.in-Some.ensures.clock c.requires.offsets in
    let few : sc.config.nodes ≤ g.row.N = c.config-config.ensures.scenario.system.config.few_nodes in
    let corrected : c.corrections-correction.result ≡ by_node sys (λ i. correction_at (run sys) k (offsets (run sys) k p) p i) =
    c.corrections-correction.ensures.corrections
    ∙ ap (λ (y : Config g.row.N). map (correction_by g.row.N k y.m c.in-Some-before.before.offset p c.args.records.now) (ids_below g.row.N)) c.config-config.ensures.config
    ∙ ap₂ (λ (xs : List ℤ) (rs : List Outcome). map (correction_by g.row.N k sc.config.m xs p rs) (ids_below g.row.N)) h.kept c.requires.records
    ∙ corrections_are sys k few p in
    let later : c.all_moved-offset.result ≡ offsets_in sys k (suc p) =
    c.all_moved-offset.ensures
    ∙ ap (λ (y : Config g.row.N). map (moved k y.nodes c.in-Some-before.before.offset c.corrections-correction.result p) (ids_below g.row.N)) c.config-config.ensures.config
    ∙ ap₂ (λ (xs ys : List ℤ). map (moved k sc.config.nodes xs ys p) (ids_below g.row.N)) h.kept corrected
    ∙ moved_are sys k few p in
    let made : ClockShown → ClockShown = λ x. x in
    ap₂ (λ (xs ys : List ℤ). Some (made (record { correction = xs; offset = ys }))) corrected later ∙ ap (option_map (λ (x : ClockView). clock_in sys x p)) c.in-Some.ensures.clock
