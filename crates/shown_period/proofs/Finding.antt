-- The members with which a period begins, by the states with which the nodes do.
use Rattle.std.proofs.Common.{ℕ, ◌≡◌, ◌<◌, List, Option, None, Some, refl, sym, ap, subst, ◌∙◌}
use Rattle.std.specs.Prelude.{All}
use Rattle.fault_classes.specs.Plan.{Plan, reference_of}
use Rattle.agreed_state.specs.Agreed.{AgreedView}
use Rattle.protocol.specs.Cluster.{begins}
use Rattle.protocol.specs.Run.{System, members_in, run, classes}
use Rattle.protocol.specs.Safe.{reference, members_from, members_at}
use Rattle.scenario.specs.Scenario.{ScenarioView, system_of, IsScenario}
use Rattle.cluster_record.proofs.Members.{AreMembers, reference_is, reference_low, members_low}
use Rattle.cluster_record.proofs.Planned.{planned_nodes}
use Rattle.shared_states.specs.Sharing.{state_at}
use Rattle.shown_period.specs.Heads.{members_shown, AreBegun}

members_begun : (sys : System) (p : ℕ) (states : List (Option AgreedView)) → ((i : ℕ) → i < sys.setting.config.nodes → state_at states i ≡ (begins (run sys) i p).state)
    → (o : Option ℕ) → reference (run sys) (classes sys) p ≡ o → members_shown states o ≡ members_from (run sys) p o
members_begun sys p states h None e = refl
members_begun sys p states h (Some r) e = ap members_in (h r (reference_low sys p r e))

-- what is found of the members by the plan's reference node are the members of the period, and nodes of the plan
pub members_found : {N : ℕ} (sc : ScenarioView N) → IsScenario sc → (plan : Plan) (p : ℕ) (states : List (Option AgreedView)) (o : Option ℕ) (members : List ℕ) → plan ≡ sc.plan
    → AreBegun sc p states → o ≡ reference_of plan p → members ≡ members_shown states o → AreMembers sc plan p o members
members_found {N} sc is plan p states o members planned begun found shown =
    let refers : o ≡ reference (run (system_of sc)) (classes (system_of sc)) p = found ∙ reference_is sc is plan p planned in
    let are : members ≡ members_at (run (system_of sc)) (classes (system_of sc)) p =
    shown ∙ ap (members_shown states) refers ∙ members_begun (system_of sc) p states begun (reference (run (system_of sc)) (classes (system_of sc)) p) refl in
    let many : sc.config.nodes ≡ plan.nodes = sym (planned_nodes planned is) in
    record {
      refers = refers;
      are = are;
      low = subst (λ (n : ℕ). All (λ q. q < n) members) many (subst (All (λ q. q < sc.config.nodes)) (sym are) (members_low sc is p));
    }
