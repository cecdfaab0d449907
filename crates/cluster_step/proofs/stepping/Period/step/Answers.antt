use Rattle.std.proofs.Common.{ℕ, suc, map, ◌≡◌, ◌<◌, ◌≤◌, ◌+◌, inl, inr, lit<, ap, sym, subst, ◌∙◌, arith}
use Rattle.std.specs.Prelude.{All}
use Rattle.slot_plan.specs.Slots.{slot_count}
use Rattle.agreed_state.specs.declared.config.Config.{Config}
use Rattle.agreed_state.specs.ConfigLaws.{few_rounds}
use Rattle.node_steps.specs.Parts.{NodeView}
use Rattle.node_steps.specs.Steps.{frame_of}
use Rattle.node_grid.specs.NodeSet.{ids_below}
use Rattle.protocol.specs.Run.{sent}
use Rattle.scenario.specs.Scenario.{ScenarioView, system_of, IsScenario}
use Rattle.cluster_periods.specs.Slots.{IsReady}
use Rattle.cluster_periods.specs.Periods.{slots_from, begun_all, AreBefore, IsPeriod}
use Rattle.cluster_periods.proofs.Listed.{all_resting, many_nodes}
use Rattle.cluster_step.proofs.Slotting.{slots_none, slots_more, all_short, none_taken, more_taken, shape_taken, all_taken}
use Rattle.cluster_step.proofs.stepping.Period.step.Goals as goal

pub config-requires : goal.config-requires
config-requires g c = elim g.bound-1.eight_or_sixteen [ inl e ↦ rw e (lit< tt, lit< tt) | inr e ↦ rw e (lit< tt, lit< tt) ]

pub slot_count-slots-requires : goal.slot_count-slots-requires
slot_count-slots-requires g c =
    let few : c.args.self.now.scenario.now.config.m ≤ 3 = few_rounds g.row.N c.args.self.now.scenario.now.config c.config.ensures.scenario.system.config in
    omega (arith, few, ap (λ (y : Config g.row.N). y.m) c.config.ensures.config)

pub begin_all-requires : goal.begin_all-requires
begin_all-requires g c = (
  lit< tt,
  (
    elim g.bound-1.eight_or_sixteen [ inl e ↦ rw e (lit< tt) | inr e ↦ rw e (lit< tt) ],
    all_resting c.args.self.now.scenario.now c.config.ensures.scenario c.args.self.now.number c.requires.before.room c.args.nodes.now c.requires.before.before,
  ),
)

pub loop-slot-init : goal.loop-slot-init
loop-slot-init g c = (
  slots_none c.args.self.now.scenario.now.plan c.args.self.now.scenario.now.order c.args.self.now.scenario.now.config.nodes c.args.self.now.number 0 c.begin_all.new.nodes,
  none_taken c.args.self.now.scenario.now c.args.self.now.number c.args.shown.now c.requires.shape,
)

pub step_slot-requires : goal.step_slot-requires
step_slot-requires g c =
    let sc : ScenarioView g.row.N = c.args.self.now.scenario.now in
    let wf : IsScenario sc = c.config.ensures.scenario in
    let p : ℕ = c.args.self.now.number in
    let room : ℕ = c.requires.before.room in
    let is : IsPeriod sc room p c.args.nodes.now = c.periods.ensures g.row.N sc room p c.args.nodes.now wf c.requires.before.greatest c.requires.before.before in
    let low : c.loop-slot.slot < slot_count sc.config.m = omega (arith, c.loop-slot-test.true, c.slot_count-slots.ensures, ap slot_count (ap (λ (y : Config g.row.N). y.m) c.config.ensures.config)) in
    let at : c.loop-slot.nodes ≡ slots_from sc.plan sc.order sc.config.nodes p 0 c.loop-slot.slot (begun_all sc p c.args.nodes.now) = c.loop-slot.invariant.0 ∙ ap (slots_from sc.plan sc.order sc.config.nodes p 0 c.loop-slot.slot) c.begin_all.ensures in
    let shape = shape_taken sc p c.loop-slot.slot c.args.shown.now c.loop-slot.shown c.requires.shape c.loop-slot.invariant.1 in (
      lit< tt,
      (
        elim g.bound-1.eight_or_sixteen [ inl e ↦ rw e (lit< tt) | inr e ↦ rw e (lit< tt) ],
        (
          elim g.bound-1.eight_or_sixteen [ inl e ↦ rw e (lit< tt) | inr e ↦ rw e (lit< tt) ],
          (
            low,
            (
              subst (All (IsReady sc.plan)) (sym at) (is.ready c.loop-slot.slot low),
              (
                record {
                  each = omega (arith, c.loop-slot.auto.nodes, c.begin_all.auto.nodes, many_nodes sc room p c.args.nodes.now c.requires.before.before, shape.nodes);
                  short = all_short sc room c.loop-slot.nodes c.loop-slot.shown wf.system.config g.bound-1.eight_or_sixteen c.requires.before.greatest shape (subst (All (λ (v : NodeView g.row.N). v.arrived.frame_max ≤ room)) (sym at) (is.roomy c.loop-slot.slot low));
                },
                shape,
              ),
            ),
          ),
        ),
      ),
    )

pub loop-slot-preserved : goal.loop-slot-preserved
loop-slot-preserved g c =
    let sc : ScenarioView g.row.N = c.args.self.now.scenario.now in
    let wf : IsScenario sc = c.config.ensures.scenario in
    let p : ℕ = c.args.self.now.number in
    let room : ℕ = c.requires.before.room in
    let is : IsPeriod sc room p c.args.nodes.now = c.periods.ensures g.row.N sc room p c.args.nodes.now wf c.requires.before.greatest c.requires.before.before in
    let low : c.loop-slot.slot < slot_count sc.config.m = omega (arith, c.loop-slot-test.true, c.slot_count-slots.ensures, ap slot_count (ap (λ (y : Config g.row.N). y.m) c.config.ensures.config)) in
    let at : c.loop-slot.nodes ≡ slots_from sc.plan sc.order sc.config.nodes p 0 c.loop-slot.slot (begun_all sc p c.args.nodes.now) = c.loop-slot.invariant.0 ∙ ap (slots_from sc.plan sc.order sc.config.nodes p 0 c.loop-slot.slot) c.begin_all.ensures in (
      slots_more sc.plan sc.order sc.config.nodes p 0 c.loop-slot.slot c.loop-slot.slot c.begin_all.new.nodes c.loop-slot.nodes c.step_slot.new.nodes (omega arith) c.loop-slot.invariant.0 c.step_slot.ensures.nodes,
      more_taken sc p c.loop-slot.slot c.args.shown.now c.loop-slot.shown c.step_slot.new.shown (map frame_of c.loop-slot.nodes) low c.loop-slot.invariant.1 c.step_slot.ensures.shown
          (ap (map frame_of) at ∙ is.frames c.loop-slot.slot low ∙ ap (λ (t : ℕ). map (sent (system_of sc) p t) (ids_below sc.config.nodes)) (let e : 0 + c.loop-slot.slot ≡ c.loop-slot.slot = omega arith in e)),
    )

pub returns-clause-after : goal.returns-clause-after
returns-clause-after g c =
    let sc : ScenarioView g.row.N = c.args.self.now.scenario.now in
    let wf : IsScenario sc = c.config.ensures.scenario in
    let p : ℕ = c.args.self.now.number in
    let room : ℕ = c.requires.before.room in
    let is : IsPeriod sc room p c.args.nodes.now = c.periods.ensures g.row.N sc room p c.args.nodes.now wf c.requires.before.greatest c.requires.before.before in
    let last : c.loop-slot.slot ≡ slot_count sc.config.m = omega (arith, c.loop-slot-test.false, c.loop-slot.auto.slot-end, c.slot_count-slots.ensures, ap slot_count (ap (λ (y : Config g.row.N). y.m) c.config.ensures.config)) in
    let at : c.loop-slot.nodes ≡ slots_from sc.plan sc.order sc.config.nodes p 0 (slot_count sc.config.m) (begun_all sc p c.args.nodes.now) = c.loop-slot.invariant.0 ∙ ap (slots_from sc.plan sc.order sc.config.nodes p 0 c.loop-slot.slot) c.begin_all.ensures
    ∙ ap (λ (t : ℕ). slots_from sc.plan sc.order sc.config.nodes p 0 t (begun_all sc p c.args.nodes.now)) last in
    record {
      room = room;
      greatest = c.requires.before.greatest;
      before = subst (λ (q : ℕ). AreBefore sc room q c.loop-slot.nodes) (let e : suc p ≡ p + 1 = omega arith in e) (subst (AreBefore sc room (suc p)) (sym at) is.after);
    }

pub returns-clause-shown : goal.returns-clause-shown
returns-clause-shown g c =
    let ended : slot_count c.args.self.now.scenario.now.config.m ≤ c.loop-slot.slot = omega (arith, c.loop-slot-test.false, c.slot_count-slots.ensures, ap slot_count (ap (λ (y : Config g.row.N). y.m) c.config.ensures.config)) in
    all_taken c.args.self.now.scenario.now c.args.self.now.number c.loop-slot.slot c.args.shown.now c.loop-slot.shown ended c.loop-slot.invariant.1

pub loop-slot-smaller : goal.loop-slot-smaller
loop-slot-smaller g c = omega (arith, c.loop-slot-test.true)
