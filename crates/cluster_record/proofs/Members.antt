-- The members that a node's record shows of the start of its period, and how many they can be.
use Rattle.std.proofs.Common.{ℕ, zero, suc, ◌≡◌, ◌<◌, ◌+◌, Bool, true, false, if◌then◌else◌, List, [], map, refl, ap, ap₂, ◌∙◌, arith, Option, None, Some, sym, subst}
use Rattle.std.specs.Prelude.{All, slice_get}
use Rattle.std.specs.List.{range_with_len, find}
use Rattle.std.proofs.lemmas.Option.{same_Some}
use Rattle.std.proofs.lemmas.List.Elements.{All-nil}
use Rattle.node_grid.specs.NodeSet.{ids_below}
use Rattle.node_grid.specs.NodeSetLaws.{All-ids}
use Rattle.node_grid.specs.Class.{is_nonfaulty}
use Rattle.fault_classes.specs.Plan.{Plan, class_of, reference_of}
use Rattle.agreed_state.specs.declared.config.Inputs.{Inputs}
use Rattle.agreed_state.specs.Agreed.{AgreedView, IsAgreed}
use Rattle.protocol.specs.View.{Setting, Kept, Received, adopted_by, through, joined, view_from}
use Rattle.protocol.specs.Cluster.{Cluster, begins, view}
use Rattle.protocol.specs.Run.{System, members_in, run, classes}
use Rattle.protocol.specs.Safe.{reference, members_from, members_at}
use denote.Enum.Bare.{sameb}
use Rattle.node_core.specs.contracts.outcome.Mode.{the_type}
use Rattle.node_core.specs.declared.outcome.Mode.{Mode}
use Rattle.node_core.specs.declared.outcome.Mode.TheVariants.{Full, Joining, Cold}
use Rattle.node_core.specs.Modes.{mode_of}
use Rattle.node_steps.specs.Outcome.{Outcome}
use Rattle.node_steps.specs.Stages.{outcome_of}
use Rattle.scenario.specs.Scenario.{ScenarioView, system_of, IsScenario}
use Rattle.cluster_periods.proofs.Nodes.{valid_begins}
use Rattle.cluster_periods.specs.RecordLaws.{recorded}
use Rattle.cluster_record.proofs.Planned.{planned_nodes}
use Rattle.cluster_record.specs.Filling.{members_by, began_with, members_shown}

joined_with : (s : Setting) (i p : ℕ) (g : Inputs) (k : Kept) (x : Received) (o : Option AgreedView) → members_by (joined s i p g k x o).mode (members_in (joined s i p g k x o).before) ≡ []
unfolding through
joined_with s i p g k x None = refl
joined_with s i p g k x (Some a) = refl

view_with : (s : Setting) (i p : ℕ) (g : Inputs) (k : Kept) (x : Received) (o : Option AgreedView) → members_by (view_from s i p g k x o).mode (members_in (view_from s i p g k x o).before) ≡ members_in o
unfolding through
view_with s i p g k x (Some a) = refl
view_with s i p g k x None = joined_with s i p g k x (adopted_by s i x.sync)

-- a record shows the members with which its node began
began : (cl : Cluster) (i p : ℕ) → began_with (Some (outcome_of (view cl i p))) ≡ members_in (begins cl i p).state
began cl i p = view_with cl.setting i p (cl.inputs i p) (begins cl i p) (cl.received i p) (begins cl i p).state

found_step : (b : Bool) (a n r : ℕ) (rest : Option ℕ) → (rest ≡ Some r → r < a + 1 + n) → (if b then Some a else rest) ≡ Some r → r < a + suc n
found_step true a n r rest later h = let same : a ≡ r = same_Some a r h in omega arith
found_step false a n r rest later h = let low : r < a + 1 + n = later h in omega arith

-- what is found among the nodes is one of them
found_below : (f : ℕ → Bool) (n a r : ℕ) → find f (range_with_len a n) ≡ Some r → r < a + n
found_below f zero a r e = cc
found_below f (suc n) a r e = found_step (f a) a n r (find f (range_with_len (a + 1) n)) (found_below f n (a + 1) r) e

-- the record of the reference node shows the members of the period
pub members_are : (sys : System) (p : ℕ) (o : Option ℕ) → reference (run sys) (classes sys) p ≡ o
    → members_shown (map (λ i. outcome_of (view (run sys) i p)) (ids_below sys.setting.config.nodes)) o ≡ members_from (run sys) p o
members_are sys p None e = refl
members_are sys p (Some r) e =
    let low : r < 0 + sys.setting.config.nodes = found_below (λ i. is_nonfaulty (classes sys p i)) sys.setting.config.nodes 0 r e in
    ap began_with (recorded (λ i. outcome_of (view (run sys) i p)) sys.setting.config.nodes r (omega (arith, low))) ∙ began (run sys) r p

pub reference_low : (sys : System) (p r : ℕ) → reference (run sys) (classes sys) p ≡ Some r → r < sys.setting.config.nodes
reference_low sys p r e = let low : r < 0 + sys.setting.config.nodes = found_below (λ i. is_nonfaulty (classes sys p i)) sys.setting.config.nodes 0 r e in omega (arith, low)

-- members are nodes
pub members_low : {N : ℕ} (sc : ScenarioView N) → IsScenario sc → (p : ℕ) → All (λ q. q < sc.config.nodes) (members_at (run (system_of sc)) (classes (system_of sc)) p)
members_low {N} sc is p = go (reference (run (system_of sc)) (classes (system_of sc)) p) where
  of_state : (o : Option AgreedView) → ((a : AgreedView) → o ≡ Some a → IsAgreed N sc.config a) → All (λ q. q < sc.config.nodes) (members_in o)
  of_state None valid = All-nil (λ q. q < sc.config.nodes)
  of_state (Some a) valid = All-ids sc.config.nodes a.standing.members (valid a refl).standing.set

  go : (o : Option ℕ) → All (λ q. q < sc.config.nodes) (members_from (run (system_of sc)) p o)
  go None = All-nil (λ q. q < sc.config.nodes)
  go (Some r) = of_state (begins (run (system_of sc)) r p).state (valid_begins sc is.system.capacity is.system.config r p)

-- what the plan says of the reference node is what the protocol says
pub reference_is : {N : ℕ} (sc : ScenarioView N) → IsScenario sc → (plan : Plan) (p : ℕ) → plan ≡ sc.plan → reference_of plan p ≡ reference (run (system_of sc)) (classes (system_of sc)) p
reference_is sc is plan p e =
    ap (λ (q : Plan). reference_of q p) e ∙ ap (λ (n : ℕ). find (λ j. is_nonfaulty (class_of sc.plan p j)) (ids_below n)) is.system.plan_nodes

pub members_there : (sys : System) (p : ℕ) (records : List Outcome) (o : Option ℕ) (members : List ℕ) → records ≡ map (λ i. outcome_of (view (run sys) i p)) (ids_below sys.setting.config.nodes) → o ≡ reference (run sys) (classes sys) p
    → members ≡ members_shown records o → members ≡ members_at (run sys) (classes sys) p
members_there sys p records o members recorded refers is =
    is ∙ ap₂ members_shown recorded refers ∙ members_are sys p (reference (run sys) (classes sys) p) refl

-- what is found of the members by the plan's reference node are the members of the period, and nodes of the plan
pub record AreMembers {N : ℕ} (sc : ScenarioView N) (plan : Plan) (p : ℕ) (o : Option ℕ) (members : List ℕ) : Type 0 where
  pub refers : o ≡ reference (run (system_of sc)) (classes (system_of sc)) p
  pub are : members ≡ members_at (run (system_of sc)) (classes (system_of sc)) p
  pub low : All (λ q. q < plan.nodes) members

pub members_found : {N : ℕ} (sc : ScenarioView N) → IsScenario sc → (plan : Plan) (p : ℕ) (records : List Outcome) (o : Option ℕ) (members : List ℕ) → plan ≡ sc.plan
    → records ≡ map (λ i. outcome_of (view (run (system_of sc)) i p)) (ids_below sc.config.nodes) → o ≡ reference_of plan p → members ≡ members_shown records o → AreMembers sc plan p o members
members_found {N} sc is plan p records o members planned recorded found shown =
    let refers : o ≡ reference (run (system_of sc)) (classes (system_of sc)) p = found ∙ reference_is sc is plan p planned in
    let are : members ≡ members_at (run (system_of sc)) (classes (system_of sc)) p = members_there (system_of sc) p records o members recorded refers shown in
    let many : sc.config.nodes ≡ plan.nodes = sym (planned_nodes planned is) in
    record {
      refers = refers;
      are = are;
      low = subst (λ (n : ℕ). All (λ q. q < n) members) many (subst (All (λ q. q < sc.config.nodes)) (sym are) (members_low sc is p));
    }

-- where there is no record of the reference node, and where there is
pub shown_without : (records : List Outcome) (reference : Option ℕ) (r : ℕ) → reference ≡ Some r → slice_get records r ≡ None → members_shown records reference ≡ []
shown_without records reference r e past = ap (members_shown records) e ∙ ap began_with past

pub shown_with : (records : List Outcome) (reference : Option ℕ) (r : ℕ) (o : Outcome) → reference ≡ Some r → slice_get records r ≡ Some o → members_shown records reference ≡ members_by o.mode o.members
shown_with records reference r o e at = ap (members_shown records) e ∙ ap began_with at

-- a node that is Full had members, and another one none
pub of_full : (mode : Mode) (members : List ℕ) → sameb the_type mode Full ≡ true → members ≡ members_by (mode_of mode) members
of_full Full members e = refl
of_full Joining members e = cc
of_full Cold members e = cc

pub of_another : (mode : Mode) (members : List ℕ) → sameb the_type mode Full ≡ false → members_by (mode_of mode) members ≡ []
of_another Full members e = cc
of_another Joining members e = refl
of_another Cold members e = refl
