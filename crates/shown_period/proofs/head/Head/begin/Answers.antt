use Rattle.std.proofs.Common.{ℕ, ◌≡◌, false, ◌&&◌, List, map, refl, sym, ap, ap₂, subst, ◌∙◌, arith, inl, inr, lit<}
use Rattle.node_grid.specs.NodeSet.{ids_below}
use Rattle.fault_classes.specs.Plan.{Plan}
use Rattle.fault_classes.specs.Budget.{IsBudget}
use Rattle.protocol.specs.Run.{System, run, classes}
use Rattle.protocol.specs.Safe.{members_at}
use Rattle.scenario.specs.Scenario.{ScenarioView, system_of, IsScenario}
use Rattle.cluster_periods.specs.Record.{holds, budget_in, within_in, class_shown}
use Rattle.cluster_periods.proofs.Claims.{holds_is, budget_is}
use Rattle.cluster_record.specs.Filling.{class_or_first}
use Rattle.cluster_record.proofs.Planned.{planned_periods, planned_nodes}
use Rattle.cluster_record.proofs.Members.{AreMembers}
use Rattle.cluster_record.proofs.Showing.{claimed_now}
use Rattle.shown_period.proofs.Finding.{members_found}
use Rattle.shown_period.proofs.head.Head.begin.Goals as goal
use Rattle.shown_period.proofs.head.Head.begin.Goals.{then-self, else-self}

pub budget-budget-requires : goal.budget-budget-requires
budget-budget-requires g c =
    let sc : ScenarioView g.row.N = c.args.scenario.now in
    let wf : IsScenario sc = c.plan-plan.ensures.scenario in
    let members : AreMembers sc c.plan-plan.result.now c.args.period c.reference-reference.result c.members_of-members.result = members_found sc wf c.plan-plan.result.now c.args.period c.args.states.now c.reference-reference.result c.members_of-members.result
    c.plan-plan.ensures.plan c.requires.states c.reference-reference.ensures c.members_of-members.ensures in
    let periods : c.plan-plan.result.now.periods ≡ sc.periods = planned_periods c.plan-plan.ensures.plan wf in
    (lit< tt, (lit< tt, (members.low, omega (arith, periods, c.requires.in_run))))

pub classes_of-self-requires : goal.classes_of-self-requires
classes_of-self-requires g c =
    let sc : ScenarioView g.row.N = c.args.scenario.now in
    let nodes : c.args.self.now.nodes ≡ sc.config.nodes = c.requires.before.shape.nodes in
    let planned : c.plan-plan.result.now.nodes ≡ sc.config.nodes = planned_nodes c.plan-plan.ensures.plan c.plan-plan.ensures.scenario in
    let periods : c.plan-plan.result.now.periods ≡ sc.periods = planned_periods c.plan-plan.ensures.plan c.plan-plan.ensures.scenario in
    (lit< tt, (elim g.bound-1.eight_or_sixteen [ inl e ↦ rw e (lit< tt) | inr e ↦ rw e (lit< tt) ], (omega (arith, nodes, planned), omega (arith, periods, c.requires.in_run))))

pub reference-reference-requires : goal.reference-reference-requires
reference-reference-requires g c = (lit< tt, omega (arith, planned_periods c.plan-plan.ensures.plan c.plan-plan.ensures.scenario, c.requires.in_run))

pub returns : goal.returns
returns g c =
    let sc : ScenarioView g.row.N = c.args.scenario.now in
    let sys : System = system_of sc in
    let p : ℕ = c.args.period in
    let nodes : c.args.self.now.nodes ≡ sc.config.nodes = c.requires.before.shape.nodes in
    let m : c.args.self.now.m ≡ sc.config.m = c.requires.before.shape.m in
    let members : AreMembers sc c.plan-plan.result.now p c.reference-reference.result c.members_of-members.result = members_found sc c.plan-plan.ensures.scenario c.plan-plan.result.now p c.args.states.now c.reference-reference.result
    c.members_of-members.result c.plan-plan.ensures.plan c.requires.states c.reference-reference.ensures c.members_of-members.ensures in
    let counted : IsBudget sys.plan p (members_at (run sys) (classes sys) p) c.budget-budget.result = subst (λ (q : Plan). IsBudget q p (members_at (run sys) (classes sys) p) c.budget-budget.result) c.plan-plan.ensures.plan (subst (λ (ms : List ℕ). IsBudget c.plan-plan.result.now p ms c.budget-budget.result) members.are c.budget-budget.ensures) in
    let budget : c.budget-budget.result ≡ budget_in sys p = budget_is sys p c.budget-budget.result counted in
    let within : c.holds-self.result ≡ within_in sys p = holds_is c.budget-budget.result c.args.self.now.m c.holds-self.result c.holds-self.ensures.0 c.holds-self.ensures.1 ∙ ap₂ holds budget m in
    let both : c.if-self.self ≡ (c.args.self.now.claim && c.holds-self.result) = elim c.if-self.branch [
      | then-self w ↦ w.self-is ∙ sym (ap (λ b. b && c.holds-self.result) w.if-self.true)
      | else-self w ↦ let e : (c.args.self.now.claim && c.holds-self.result) ≡ false = ap (λ b. b && c.holds-self.result) w.if-self.false in cc
    ] in
    let class : c.classes_of-self.result ≡ map (class_shown sys p) (ids_below g.row.N) = c.classes_of-self.ensures ∙ ap₂ (λ (q : Plan) (n : ℕ). map (class_or_first q n p) (ids_below g.row.N)) c.plan-plan.ensures.plan nodes in record {
      shape = record { nodes = nodes; m = m; retire = c.requires.before.shape.retire; tasks = c.requires.before.shape.tasks };
      period = refl;
      in_run = c.requires.in_run;
      reference = members.refers;
      members = members.are;
      budget = budget;
      within = within;
      claimed = claimed_now sys p c.args.self.now.claim c.holds-self.result c.if-self.self c.requires.before.claimed within both;
      classes_shown = class;
      clocks = c.requires.before.clocks;
    }
