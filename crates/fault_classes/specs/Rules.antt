-- Which lists of lines and restarts make a plan, and how all others are refused.
use Rattle.std.specs.Prelude.{◌≡◌, ℕ, ◌+◌, ◌-◌, ◌<◌, ◌≤◌, Bool, true, not, ◌&&◌, ◌||◌, ◌==◌, nat_lt, nat_le, List, [], ◌∷◌, ◌++◌, length, Option, None, Some, if◌then◌else◌}
use Rattle.std.specs.List.{list_all, list_any}
use Rattle.std.specs.Option.{option_map, option_or}
use Rattle.node_grid.specs.Capacity.{IsCapacity}
use Rattle.node_grid.specs.NodeSet.{has_id}
use Rattle.fault_classes.specs.declared.line.Restart.{Restart}
use Rattle.fault_classes.specs.declared.size.PlanSize.{PlanSize}
use Rattle.fault_classes.specs.declared.error.PlanError.{PlanError}
use Rattle.fault_classes.specs.declared.error.PlanError.TheVariants as error
use Rattle.fault_classes.specs.Change.{Change}
use Rattle.fault_classes.specs.Change.Change.{Drop, Cut, Twice, Time, Set, Raw}
use Rattle.fault_classes.specs.Line.{Line, shares}
use Rattle.slot_plan.specs.Slots.{slot_count}
use Rattle.slot_plan.specs.Ticks.{is_off_time}
use Rattle.fault_classes.specs.Plan.{Plan}

abbrev pub is_within : ℕ → ℕ → ℕ → Bool
is_within low high x = nat_le low x && nat_le x high

abbrev pub is_change : Change → Bool
is_change Drop = true
is_change (Cut k) = is_within 1 4096 k
is_change Twice = true
is_change (Time t) = is_off_time t
is_change (Set at bytes) = nat_le at 4095 && is_within 1 4096 (length bytes)
is_change (Raw bytes) = nat_le (length bytes) 4096

-- it has some, and only below the limit
abbrev pub are_below : ℕ → List ℕ → Bool
are_below limit xs = nat_lt 0 (length xs) && list_all (λ x. nat_lt x limit) xs

-- a line of a plan for so many nodes, slots and periods
abbrev pub is_line : ℕ → ℕ → ℕ → Line → Bool
is_line nodes slots periods l =
    nat_lt l.from nodes && (are_below nodes l.to && (not (has_id l.to l.from) && (nat_le l.first l.last && (nat_lt l.last periods && (are_below slots l.slots && is_change l.change)))))

-- the place of the first line that is out of range, where so many lines come before
abbrev pub first_bad_line : ℕ → ℕ → ℕ → ℕ → List Line → Option ℕ
first_bad_line nodes slots periods k [] = None
first_bad_line nodes slots periods k (l ∷ ls) = if is_line nodes slots periods l then first_bad_line nodes slots periods (k + 1) ls else Some k

-- the place of the first line that shares with a line before it, where these lines stand before
abbrev pub first_overlap : List Line → List Line → Option ℕ
first_overlap before [] = None
first_overlap before (l ∷ ls) = if list_any (shares l) before then Some (length before) else first_overlap (before ++ l ∷ []) ls

abbrev pub is_restart : ℕ → ℕ → Restart → Bool
is_restart nodes periods r = nat_lt r.node nodes && is_within 1 (periods - 1) r.period

-- restarts come in the order of their periods, and in a period in that of their nodes
abbrev pub comes_after : Option Restart → Restart → Bool
comes_after None r = true
comes_after (Some q) r = nat_lt q.period r.period || (q.period == r.period && nat_lt q.node r.node)

-- the place of the first restart that is out of range or doesn't come after the one before it, where so many come before
abbrev pub first_bad_restart : ℕ → ℕ → Option Restart → ℕ → List Restart → Option ℕ
first_bad_restart nodes periods before k [] = None
first_bad_restart nodes periods before k (r ∷ rs) =
    if is_restart nodes periods r && comes_after before r then first_bad_restart nodes periods (Some r) (k + 1) rs else Some k

-- the rules in their order: each is tried at all its places before the next one
abbrev pub refusal_of : Plan → Option PlanError
refusal_of plan =
    option_or (option_map error.Range (first_bad_line plan.nodes (slot_count plan.rounds) plan.periods 0 plan.lines))
    (option_or (option_map error.Overlap (first_overlap [] plan.lines))
    (option_or (option_map error.Restart (first_bad_restart plan.nodes plan.periods None 0 plan.restarts))
    (if nat_lt 4096 (length plan.lines) then Some error.TooMany else None)))

-- the size of a plan for at most n nodes
pub record IsSize (n : ℕ) (size : PlanSize) : Type 0 where
  pub capacity : IsCapacity n
  pub some_nodes : 3 ≤ size.nodes
  pub few_nodes : size.nodes ≤ n
  pub rounds : size.rounds < size.nodes
  pub few_rounds : size.rounds ≤ 3
  pub some_periods : 1 ≤ size.periods
  pub few_periods : size.periods ≤ 1024

-- a plan for at most n nodes that no rule refuses
pub record IsPlan (n : ℕ) (plan : Plan) : Type 0 where
  pub capacity : IsCapacity n
  pub some_nodes : 3 ≤ plan.nodes
  pub few_nodes : plan.nodes ≤ n
  pub rounds : plan.rounds < plan.nodes
  pub few_rounds : plan.rounds ≤ 3
  pub some_periods : 1 ≤ plan.periods
  pub few_periods : plan.periods ≤ 1024
  pub accepted : refusal_of plan ≡ None
