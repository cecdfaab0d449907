-- What the index of a plan keeps beside the plan.
use Rattle.std.specs.Prelude.{◌≡◌, ℕ, ◌^◌, ◌<◌, ◌≤◌, ◌⊎◌, [], List, length, None, Some}
use Rattle.std.specs.List.{slice_index_or, list_any}
use Rattle.fault_classes.specs.declared.line.Restart.{Restart}
use Rattle.node_grid.specs.NodeSet.{ids_where}
use Rattle.slot_plan.specs.Slots.{slot_count}
use Rattle.fault_classes.specs.Line.{Line}
use Rattle.fault_classes.specs.Plan.{Plan, plan_of, is_restart_of}
use Rattle.fault_classes.specs.Rules.{refusal_of, first_bad_line, first_overlap, first_bad_restart}
use Rattle.fault_classes.specs.declared.error.PlanError.{PlanError}
use Rattle.fault_classes.specs.declared.error.PlanError.TheVariants.{NoMemory}
use Rattle.fault_classes.specs.Cells.{IsShape}
use Rattle.fault_classes.specs.declared.touches.Touches.{Touches}
use Rattle.fault_classes.specs.Touches.{AreTouches}

-- no rule refuses the lines and the restarts, and these are their touches
abbrev pub AreAccepted : {n : ℕ} → ℕ → ℕ → ℕ → List Line → List Restart → Touches n → Type 0
AreAccepted nodes slots periods lines restarts touches =
    AreTouches nodes slots periods lines touches × (first_bad_line nodes slots periods 0 lines ≡ None) × (first_overlap [] lines ≡ None)
    × (first_bad_restart nodes periods None 0 restarts ≡ None) × (length lines ≤ 4096)

-- want of memory, or what refuses a plan of the lines and the restarts, of so many relay rounds that it has so many slots
abbrev pub IsRefusedBy : ℕ → ℕ → ℕ → List Line → List Restart → PlanError → Type 0
IsRefusedBy nodes slots periods lines restarts e = (e ≡ NoMemory) ⊎ ((m : ℕ) → slot_count m ≡ slots → refusal_of (plan_of nodes m periods lines restarts) ≡ Some e)

-- for each period the set of the nodes that restart
pub record IsRestarting (n periods : ℕ) (restarts : List Restart) (sets : List (List ℕ)) : Type 0 where
  pub long : length sets ≡ periods
  pub members : (p : ℕ) → p < periods → slice_index_or sets p [] ≡ ids_where (λ i. list_any (is_restart_of i p) restarts) n

pub record IsIndex (n : ℕ) (plan : Plan) (slots : ℕ) (sets : List (List ℕ)) (touches : Touches n) : Type 0 where
  pub shape : IsShape n plan.nodes slots plan.periods
  pub all_slots : slots ≡ slot_count plan.rounds
  pub accepted : refusal_of plan ≡ None
  pub few : length plan.lines ≤ 4096
  pub few_restarts : length plan.restarts < 2 ^ 32
  pub restarting : IsRestarting n plan.periods plan.restarts sets
  pub touched : AreTouches plan.nodes slots plan.periods plan.lines touches
