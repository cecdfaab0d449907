-- What holds of each storm.
use Rattle.std.specs.Prelude.{ℕ, ◌≡◌, ◌≢◌, ◌<◌, ◌≤◌, None, Some, length}
use Rattle.node_grid.specs.declared.class.Class.{Class}
use Rattle.node_grid.specs.declared.class.Class.TheVariants.{N}
use Rattle.agreed_state.specs.Agreed.{AgreedView}
use Rattle.protocol.specs.Cluster.{begins, view}
use Rattle.protocol.specs.Run.{System, run, classes}
use Rattle.protocol.specs.Accepted.{IsAccepted}
use Rattle.protocol.specs.Safe.{reference, Claim, IsInnocent, Safe}
use Rattle.scenario.specs.Given.{scenario_of}
use Rattle.scenario.specs.Rules.{refusal}
use Rattle.scenario.specs.Scenario.{system_of}
use Rattle.storm.specs.Parts.{storm_parts}

-- the run of a number's storm
abbrev pub storm_system : ℕ → System
storm_system seed = system_of (scenario_of 8 (storm_parts seed))

-- all nodes but one of 5 to 7 are of class N
pub record HasOneFaulty (class_of : ℕ → Class) : Type 0 where
  pub node : ℕ
  pub low : 5 ≤ node
  pub high : node ≤ 7
  pub others : (j : ℕ) → j < 8 → j ≢ node → class_of j ≡ N

-- of a period: at most one node is faulty; it is claimed, and safe; node 0 is its reference node; and nodes 0 to 4 are members with
-- count 0 in the reference node's states before and after it
pub record IsWeathered (sys : System) (p : ℕ) : Type 0 where
  pub one_faulty : HasOneFaulty (classes sys p)
  pub claimed : Claim (run sys) (classes sys) p
  pub safe : Safe (run sys) (classes sys) p
  pub reference_node : reference (run sys) (classes sys) p ≡ Some 0
  pub before : AgreedView
  pub begins_with : (begins (run sys) 0 p).state ≡ Some before
  pub spared_before : (j : ℕ) → j < 5 → IsInnocent before.standing j
  pub after : AgreedView
  pub ends_with : (view (run sys) 0 p).kept.state ≡ Some after
  pub spared_after : (j : ℕ) → j < 5 → IsInnocent after.standing j

-- it is accepted, has at most 448 lines and 64 restarts, and each of its periods is weathered
pub record Weathers (sys : System) : Type 0 where
  pub accepted : IsAccepted sys
  pub few_lines : length sys.plan.lines ≤ 448
  pub restarts : length sys.plan.restarts ≡ 64
  pub periods : (p : ℕ) → IsWeathered sys p

abbrev pub StormLaw : Type 0
StormLaw = (seed : ℕ) → Weathers (storm_system seed)

-- no rule refuses the parts of a storm
abbrev pub UnrefusedLaw : Type 0
UnrefusedLaw = (seed : ℕ) → refusal 8 (storm_parts seed) ≡ None
