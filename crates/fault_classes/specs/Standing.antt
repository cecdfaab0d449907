-- How the nodes stand in each period, as a table.
use Rattle.std.specs.Prelude.{◌≡◌, ℕ, ◌<◌, List, length}
use Rattle.std.specs.List.{slice_index_or}
use Rattle.node_grid.specs.NodeSet.{ids_where}
use Rattle.node_grid.specs.declared.class.Class.{Class}
use Rattle.fault_classes.specs.declared.standing.Standing.{Standing}
use Rattle.fault_classes.specs.Plan.{Plan, is_clean, class_of, reference_of}

pub record IsStanding {n : ℕ} (plan : Plan) (p : ℕ) (standing : Standing n) : Type 0 where
  pub unharmed : standing.clean ≡ ids_where (is_clean plan p) plan.nodes
  pub classed : (j : ℕ) (d : Class) → j < plan.nodes → slice_index_or standing.classes j d ≡ class_of plan p j
  pub least : standing.reference ≡ reference_of plan p

pub record AreStandings {n : ℕ} (plan : Plan) (standings : List (Standing n)) : Type 0 where
  pub long : length standings ≡ plan.periods
  pub each : (p : ℕ) (d : Standing n) → p < plan.periods → IsStanding plan p (slice_index_or standings p d)
