use Rattle.std.proofs.Common.{ℕ, suc, ◌≡◌, ◌+◌, false, ◌&&◌, List, map, length, refl, sym, ap, ap₂, subst, ◌∙◌, arith, inl, inr, lit<}
use Rattle.std.specs.Vec.{with_items}
use Rattle.std.specs.Prelude.{option_map}
use Rattle.std.proofs.lemmas.List.FromFn.{length-map-range_with_len}
use Rattle.node_grid.specs.NodeSet.{ids_below}
use Rattle.fault_classes.specs.Plan.{Plan}
use Rattle.fault_classes.specs.Budget.{IsBudget}
use Rattle.protocol.specs.Cluster.{view}
use Rattle.protocol.specs.Run.{System, run, classes}
use Rattle.protocol.specs.Safe.{members_at}
use Rattle.node_steps.specs.Stages.{outcome_of}
use Rattle.scenario.specs.Scenario.{ScenarioView, system_of, IsScenario}
use Rattle.cluster_periods.specs.Record.{PeriodView, holds, budget_in, within_in, claimed_before, class_shown, period_record}
use Rattle.cluster_record.proofs.Planned.{planned_periods, planned_nodes}
use Rattle.cluster_record.specs.Buffers.{slot_bytes}
use Rattle.cluster_record.specs.Shown.{clock_shown}
use Rattle.cluster_record.specs.Clocking.{offsets_kept}
use Rattle.cluster_record.specs.Filling.{class_or_first}
use Rattle.cluster_periods.proofs.Listed.{all_shut, many_nodes}
use Rattle.cluster_record.proofs.Members.{AreMembers, members_found}
use Rattle.cluster_periods.proofs.Claims.{holds_is, budget_is}
use Rattle.cluster_record.proofs.Showing.{claimed_now, shown_is}
use Rattle.cluster_record.proofs.Taking.{records_are}
use Rattle.cluster_record.proofs.record.PeriodRecord.fill.Goals as goal
use Rattle.cluster_record.proofs.record.PeriodRecord.fill.Goals.{then-self, else-self}

pub take_records-requires : goal.take_records-requires
take_records-requires g c =
    let sc : ScenarioView g.row.N = c.args.scenario.now in
    let p : ℕ = c.args.period in
    let nodes : c.self.inside.nodes ≡ sc.config.nodes = ap (λ (v : PeriodView). v.nodes) c.self.view_is ∙ c.requires.taken.shape.nodes in (
      elim g.bound-1.eight_or_sixteen [ inl e ↦ rw e (lit< tt) | inr e ↦ rw e (lit< tt) ],
      (
        elim g.bound-1.eight_or_sixteen [ inl e ↦ rw e (lit< tt) | inr e ↦ rw e (lit< tt) ],
        (
          all_shut sc c.requires.after.room (p + 1) c.args.nodes.now c.requires.after.before,
          ap length c.as_mut_slice.ensures.value ∙ c.self.invariant.records ∙ nodes ∙ sym (many_nodes sc c.requires.after.room (p + 1) c.args.nodes.now c.requires.after.before),
        ),
      ),
    )

pub plan-plan-requires : goal.plan-plan-requires
plan-plan-requires g c = elim g.bound-1.eight_or_sixteen [ inl e ↦ rw e (lit< tt, lit< tt) | inr e ↦ rw e (lit< tt, lit< tt) ]

pub members_of-members-requires : goal.members_of-members-requires
members_of-members-requires g c = (elim g.bound-1.eight_or_sixteen [ inl e ↦ rw e (lit< tt) | inr e ↦ rw e (lit< tt) ], lit< tt)

pub budget-budget-requires : goal.budget-budget-requires
budget-budget-requires g c =
    let sc : ScenarioView g.row.N = c.args.scenario.now in
    let p : ℕ = c.args.period in
    let wf : IsScenario sc = c.plan-plan.ensures.scenario in
    let nodes : c.self.inside.nodes ≡ sc.config.nodes = ap (λ (v : PeriodView). v.nodes) c.self.view_is ∙ c.requires.taken.shape.nodes in
    let made = records_are sc p c.args.nodes.now c.self.inside.records c.take_records.new.records c.requires.after c.take_records.ensures (c.self.invariant.records ∙ nodes) in
    let members : AreMembers sc c.plan-plan.result.now p c.reference-reference.result c.members_of-members.result = members_found sc wf c.plan-plan.result.now p c.as_slice.result.now c.reference-reference.result c.members_of-members.result
    c.plan-plan.ensures.plan (c.as_slice.ensures.value ∙ made) c.reference-reference.ensures c.members_of-members.ensures in
    let periods : c.plan-plan.result.now.periods ≡ sc.periods = planned_periods c.plan-plan.ensures.plan wf in
    (lit< tt, (lit< tt, (members.low, omega (arith, periods, c.requires.in_run))))

pub classes_of-self-inside-requires : goal.classes_of-self-inside-requires
classes_of-self-inside-requires g c =
    let sc : ScenarioView g.row.N = c.args.scenario.now in
    let nodes : c.self.inside.nodes ≡ sc.config.nodes = ap (λ (v : PeriodView). v.nodes) c.self.view_is ∙ c.requires.taken.shape.nodes in
    let planned : c.plan-plan.result.now.nodes ≡ sc.config.nodes = planned_nodes c.plan-plan.ensures.plan c.plan-plan.ensures.scenario in
    let periods : c.plan-plan.result.now.periods ≡ sc.periods = planned_periods c.plan-plan.ensures.plan c.plan-plan.ensures.scenario in
    (lit< tt, (elim g.bound-1.eight_or_sixteen [ inl e ↦ rw e (lit< tt) | inr e ↦ rw e (lit< tt) ], (omega (arith, nodes, planned), omega (arith, periods, c.requires.in_run))))

pub next_clocks-self-inside-requires : goal.next_clocks-self-inside-requires
next_clocks-self-inside-requires g c =
    let sc : ScenarioView g.row.N = c.args.scenario.now in
    let p : ℕ = c.args.period in
    let nodes : c.self.inside.nodes ≡ sc.config.nodes = ap (λ (v : PeriodView). v.nodes) c.self.view_is ∙ c.requires.taken.shape.nodes in
    let made = records_are sc p c.args.nodes.now c.self.inside.records c.take_records.new.records c.requires.after c.take_records.ensures (c.self.invariant.records ∙ nodes) in (
      elim g.bound-1.eight_or_sixteen [ inl e ↦ rw e (lit< tt) | inr e ↦ rw e (lit< tt) ],
      (
        elim g.bound-1.eight_or_sixteen [ inl e ↦ rw e (lit< tt) | inr e ↦ rw e (lit< tt) ],
        (
          elim g.bound-1.eight_or_sixteen [ inl e ↦ rw e (lit< tt) | inr e ↦ rw e (lit< tt) ],
          (c.requires.in_run, (c.as_slice-2.ensures.value ∙ made, ap (λ (v : PeriodView). offsets_kept v.clock) c.self.view_is ∙ c.requires.taken.clocks)),
        ),
      ),
    )

pub invariant_of-self : goal.invariant_of-self
invariant_of-self g c =
    let sc : ScenarioView g.row.N = c.args.scenario.now in
    let p : ℕ = c.args.period in
    let nodes : c.self.inside.nodes ≡ sc.config.nodes = ap (λ (v : PeriodView). v.nodes) c.self.view_is ∙ c.requires.taken.shape.nodes in
    let made = records_are sc p c.args.nodes.now c.self.inside.records c.take_records.new.records c.requires.after c.take_records.ensures (c.self.invariant.records ∙ nodes) in
    record {
      capacity = c.self.invariant.capacity;
      records = ap length made ∙ length-map-range_with_len (λ i. outcome_of (view (run (system_of sc)) i p)) 0 sc.config.nodes ∙ sym nodes;
      slots = c.self.invariant.slots;
      frames = c.self.invariant.frames;
      room = c.self.invariant.room;
      short = c.self.invariant.short;
    }

pub returns : goal.returns
returns g c =
    let sc : ScenarioView g.row.N = c.args.scenario.now in
    let sys : System = system_of sc in
    let p : ℕ = c.args.period in
    let nodes : c.self.inside.nodes ≡ sc.config.nodes = ap (λ (v : PeriodView). v.nodes) c.self.view_is ∙ c.requires.taken.shape.nodes in
    let m : c.self.inside.m ≡ sc.config.m = ap (λ (v : PeriodView). v.m) c.self.view_is ∙ c.requires.taken.shape.m in
    let retire : c.self.inside.retire ≡ sc.config.policy.retire = ap (λ (v : PeriodView). v.retire) c.self.view_is ∙ c.requires.taken.shape.retire in
    let made = records_are sc p c.args.nodes.now c.self.inside.records c.take_records.new.records c.requires.after c.take_records.ensures (c.self.invariant.records ∙ nodes) in
    let members : AreMembers sc c.plan-plan.result.now p c.reference-reference.result c.members_of-members.result = members_found sc c.plan-plan.ensures.scenario c.plan-plan.result.now p c.as_slice.result.now c.reference-reference.result
    c.members_of-members.result c.plan-plan.ensures.plan (c.as_slice.ensures.value ∙ made) c.reference-reference.ensures c.members_of-members.ensures in
    let counted : IsBudget sys.plan p (members_at (run sys) (classes sys) p) c.budget-budget.result = subst (λ (q : Plan). IsBudget q p (members_at (run sys) (classes sys) p) c.budget-budget.result) c.plan-plan.ensures.plan (subst (λ (ms : List ℕ). IsBudget c.plan-plan.result.now p ms c.budget-budget.result) members.are c.budget-budget.ensures) in
    let budget : c.budget-budget.result ≡ budget_in sys p = budget_is sys p c.budget-budget.result counted in
    let within : c.holds-self-inside.result ≡ within_in sys p = holds_is c.budget-budget.result c.self.inside.m c.holds-self-inside.result c.holds-self-inside.ensures.0 c.holds-self-inside.ensures.1 ∙ ap₂ holds budget m in
    let both : c.if-self.self ≡ (c.self.inside.claim && c.holds-self-inside.result) = elim c.if-self.branch [
      | then-self w ↦ w.self-is ∙ sym (ap (λ b. b && c.holds-self-inside.result) w.if-self.true)
      | else-self w ↦ let e : (c.self.inside.claim && c.holds-self-inside.result) ≡ false = ap (λ b. b && c.holds-self-inside.result) w.if-self.false in cc
    ] in
    let claimed : c.self.inside.claim ≡ claimed_before sys p = ap (λ (v : PeriodView). v.claim) c.self.view_is ∙ c.requires.taken.claimed in
    let claim : c.if-self.self ≡ claimed_before sys (suc p) = claimed_now sys p c.self.inside.claim c.holds-self-inside.result c.if-self.self claimed within both in
    let class : c.classes_of-self-inside.result ≡ map (class_shown sys p) (ids_below g.row.N) = c.classes_of-self-inside.ensures ∙ ap₂ (λ (q : Plan) (n : ℕ). map (class_or_first q n p) (ids_below g.row.N)) c.plan-plan.ensures.plan nodes in
    let r : PeriodView = record {
      period = p;
      nodes = c.self.inside.nodes;
      m = c.self.inside.m;
      retire = c.self.inside.retire;
      reference = c.reference-reference.result;
      members = c.members_of-members.result;
      budget = c.budget-budget.result;
      within = c.holds-self-inside.result;
      claim = c.if-self.self;
      classes = c.classes_of-self-inside.result;
      records = (with_items c.self.inside.records c.take_records.new.records).items;
      sent = map slot_bytes c.self.inside.sent.items;
      clock = option_map clock_shown c.next_clocks-self-inside.result;
    } in
    shown_is sys sc.clock p r refl nodes m retire members.refers members.are budget within claim class made c.next_clocks-self-inside.ensures
    ∙ ap (λ (fs : List (List (List ℕ))). record (period_record sys sc.clock p) { sent = fs }) (ap (λ (v : PeriodView). v.sent) c.self.view_is)

pub holds-self-inside-requires : goal.holds-self-inside-requires
holds-self-inside-requires g c = tt

pub reference-reference-requires : goal.reference-reference-requires
reference-reference-requires g c = (lit< tt, omega (arith, planned_periods c.plan-plan.ensures.plan c.plan-plan.ensures.scenario, c.requires.in_run))
