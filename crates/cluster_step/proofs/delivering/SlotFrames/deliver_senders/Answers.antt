use Rattle.std.proofs.Common.{ℕ, ◌≡◌, ◌<◌, ◌≤◌, ◌-◌, Vec, Global, List, [], map, length, inl, inr, lit<, ap, sym, subst, ◌∙◌, arith}
use Rattle.std.proofs.lemmas.List.{get_or-map}
use Rattle.std.proofs.lemmas.List.Elements.{All-get_or}
use Rattle.slot_plan.specs.Slots.{slot_count}
use Rattle.fault_classes.specs.Plan.{Plan}
use Rattle.node_steps.specs.Parts.{NodeView}
use Rattle.cluster_periods.specs.Slots.{frame_by, handed_from, by_senders, IsReady}
use Rattle.cluster_record.proofs.Planned.{planned_periods, planned_rounds, planned_nodes}
use Rattle.cluster_step.proofs.Pieces.{none_taken_yet, one_behind, ready_still}
use Rattle.cluster_step.proofs.delivering.SlotFrames.deliver_senders.Goals as goal

pub plan-plan-requires : goal.plan-plan-requires
plan-plan-requires g c = elim g.bound-1.eight_or_sixteen [ inl e ↦ rw e (lit< tt, lit< tt) | inr e ↦ rw e (lit< tt, lit< tt) ]

pub invariant_of-link : goal.invariant_of-link
invariant_of-link g c =
    let plan = c.plan-plan.ensures in
    let periods = planned_periods plan.plan plan.scenario in
    let rounds = planned_rounds plan.plan plan.scenario in
    let nodes = planned_nodes plan.plan plan.scenario in
    record {
      in_plan = subst (λ (k : ℕ). c.args.self.now.period.now.number < k) (sym periods) c.args.self.now.period.now.in_run;
      in_period = subst (λ (m : ℕ). c.args.self.now.slot < slot_count m) (sym rounds) c.args.self.now.in_period;
      in_use = omega (arith, nodes, c.loop-from-test.true, c.requires.senders.1);
    }

pub bounds-self-from : goal.bounds-self-from
bounds-self-from g c = omega (arith, c.loop-from-test.true, c.requires.senders.1, c.args.self.now.each)

pub loop-from-init : goal.loop-from-init
loop-from-init g c = (
  none_taken_yet c.args.self.now.period.now.scenario.now.plan c.args.self.now.period.now.number c.args.self.now.slot (frame_by (map (λ (f : Vec ℕ Global). f.items) c.args.self.now.frames.now)) c.args.node.now c.args.senders.start (c.args.senders.start - c.args.senders.start) (omega arith),
  omega arith,
)

pub deliver-requires : goal.deliver-requires
deliver-requires g c =
    let sc = c.args.self.now.period.now.scenario.now in
    let node : NodeView g.row.N = c.loop-from.node in
    let ready : IsReady sc.plan node = ready_still sc.plan c.args.node.now node _ c.loop-from.invariant.0 c.requires.ready in
    let low : c.loop-from.from < length c.args.self.now.frames.now = omega (arith, c.loop-from-test.true, c.loop-from.auto.from-end, c.requires.senders.1, c.args.self.now.each) in
    let short = All-get_or (λ (f : Vec ℕ Global). length f.items ≤ 90104) c.args.self.now.frames.now c.loop-from.from c.index-self-from.result low c.args.self.now.short in (
      lit< tt,
      (
        elim g.bound-1.eight_or_sixteen [ inl e ↦ rw e (lit< tt) | inr e ↦ rw e (lit< tt) ],
        (subst (λ (q : Plan). IsReady q node) (sym c.plan-plan.ensures.plan) ready, subst (λ (bytes : List ℕ). length bytes ≤ 90104) (sym c.as_slice.ensures.value) short),
      ),
    )

pub loop-from-preserved : goal.loop-from-preserved
loop-from-preserved g c =
    let sc = c.args.self.now.period.now.scenario.now in
    let p : ℕ = c.args.self.now.period.now.number in
    let t : ℕ = c.args.self.now.slot in
    let from : ℕ = c.loop-from.from in
    let frame : ℕ → List ℕ = frame_by (map (λ (f : Vec ℕ Global). f.items) c.args.self.now.frames.now) in
    let so_far = c.loop-from.invariant in
    let low : from < length c.args.self.now.frames.now = omega (arith, c.loop-from-test.true, c.loop-from.auto.from-end, c.requires.senders.1, c.args.self.now.each) in
    let bytes : frame from ≡ c.as_slice.result.now =
    get_or-map (λ (f : Vec ℕ Global). f.items) c.args.self.now.frames.now from c.index-self-from.result [] low ∙ sym c.as_slice.ensures.value in (
      one_behind sc.plan p t frame c.args.node.now c.loop-from.node c.deliver.new.node c.args.senders.start from c.as_slice.result.now so_far.1 bytes so_far.0
          (subst (λ (q : Plan). c.deliver.new.node ≡ handed_from q p t c.as_slice.result.now from c.loop-from.node) c.plan-plan.ensures.plan c.deliver.ensures),
      omega (arith, so_far.1),
    )

pub returns : goal.returns
returns g c =
    let sc = c.args.self.now.period.now.scenario.now in
    let frame : ℕ → List ℕ = frame_by (map (λ (f : Vec ℕ Global). f.items) c.args.self.now.frames.now) in
    let ended : c.loop-from.from ≤ c.args.senders.end = c.loop-from.auto.from-end c.requires.senders.0 in
    let last : c.loop-from.from ≡ c.args.senders.end = omega (arith, ended, c.loop-from-test.false) in
    c.loop-from.invariant.0 ∙ ap (λ (k : ℕ). by_senders sc.plan c.args.self.now.period.now.number c.args.self.now.slot frame c.args.senders.start (k - c.args.senders.start) c.args.node.now) last

pub loop-from-smaller : goal.loop-from-smaller
loop-from-smaller g c = omega (arith, c.loop-from-test.true)

pub offset_bounds-self-from : goal.offset_bounds-self-from
offset_bounds-self-from g c = let few = c.plan-plan.ensures.scenario.system.config.few_nodes in elim g.bound-1.eight_or_sixteen [ inl e ↦ omega (arith, e, few, c.loop-from-test.true, c.requires.senders.1) | inr e ↦ omega (arith, e, few, c.loop-from-test.true, c.requires.senders.1) ]

pub overflow_cast-from : goal.overflow_cast-from
overflow_cast-from g c = let few = c.plan-plan.ensures.scenario.system.config.few_nodes in elim g.bound-1.eight_or_sixteen [ inl e ↦ omega (arith, e, few, c.loop-from-test.true, c.requires.senders.1) | inr e ↦ omega (arith, e, few, c.loop-from-test.true, c.requires.senders.1) ]
