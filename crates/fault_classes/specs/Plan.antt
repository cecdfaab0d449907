-- What the lines and restarts of a plan make of each node in each period.
use Rattle.std.specs.Prelude.{ℕ, zero, suc, Bool, true, not, ◌&&◌, ◌||◌, ◌==◌, nat_lt, List, Option, if◌then◌else◌}
use Rattle.std.specs.List.{find, list_all, list_any}
use Rattle.node_grid.specs.NodeSet.{ids_below}
use Rattle.node_grid.specs.Count.{count}
use Rattle.node_grid.specs.Class.{is_nonfaulty}
use Rattle.slot_plan.specs.Slots.{slot_count}
use Rattle.node_grid.specs.declared.class.Class.{Class}
use Rattle.node_grid.specs.declared.class.Class.TheVariants.{N, J, B, S, A}
use Rattle.fault_classes.specs.declared.line.Restart.{Restart}
use Rattle.fault_classes.specs.Change.{Change, is_untouched, is_manifest, same_effect}
use Rattle.fault_classes.specs.Line.{Line, effect_at}

pub record Plan : Type 0 where
  pub nodes : ℕ
  pub rounds : ℕ  -- relay rounds, m
  pub periods : ℕ
  pub lines : List Line
  pub restarts : List Restart

abbrev pub plan_of : ℕ → ℕ → ℕ → List Line → List Restart → Plan
plan_of nodes rounds periods lines restarts = record { nodes = nodes; rounds = rounds; periods = periods; lines = lines; restarts = restarts }

abbrev pub nodes_of : Plan → List ℕ
nodes_of plan = ids_below plan.nodes

abbrev pub slots_of : Plan → List ℕ
slots_of plan = ids_below (slot_count plan.rounds)

abbrev pub is_restart_of : ℕ → ℕ → Restart → Bool
is_restart_of i p r = r.node == i && r.period == p

abbrev pub restarts_at : Plan → ℕ → ℕ → Bool
restarts_at plan i p = list_any (is_restart_of i p) plan.restarts

-- whether what befalls each frame that node j sends in slot s of period p is so
abbrev pub each_in_slot : Plan → (Option Change → Bool) → ℕ → ℕ → ℕ → Bool
each_in_slot plan is p j s = list_all (λ i. i == j || is (effect_at plan.lines p s j i)) (nodes_of plan)

-- the same of each frame that it sends in the period
abbrev pub each_frame : Plan → (Option Change → Bool) → ℕ → ℕ → Bool
each_frame plan is p j = list_all (each_in_slot plan is p j) (slots_of plan)

-- no line touches a frame of node j
abbrev pub is_clean : Plan → ℕ → ℕ → Bool
is_clean plan p j = each_frame plan is_untouched p j

-- the same befalls the frames of node j to all other nodes in slot s
abbrev pub is_symmetric_at : Plan → ℕ → ℕ → ℕ → Bool
is_symmetric_at plan p j s = list_all (λ i. list_all (λ h. i == j || (h == j || same_effect (effect_at plan.lines p s j i) (effect_at plan.lines p s j h))) (nodes_of plan)) (nodes_of plan)

abbrev pub is_symmetric_in : Plan → ℕ → ℕ → Bool
is_symmetric_in plan p j = list_all (is_symmetric_at plan p j) (slots_of plan)

-- sound and not restarting, given which nodes were sound in the period before
abbrev pub steady : Plan → ℕ → (ℕ → Bool) → ℕ → Bool
steady plan p before j = nat_lt j plan.nodes && (not (restarts_at plan j p) && (is_clean plan p j && before j))

-- the good nodes outnumber the others whose frame in slot 0 doesn't show to node i that it is faulty
abbrev pub recovers_in : Plan → ℕ → (ℕ → Bool) → ℕ → Bool
recovers_in plan p good i =
    nat_lt (count (λ j. not (j == i) && (not (good j) && not (is_manifest (effect_at plan.lines p 0 j i)))) (nodes_of plan)) (count good (nodes_of plan))

-- sound and restarting
abbrev pub joins_in : Plan → ℕ → (ℕ → Bool) → ℕ → Bool
joins_in plan p before j = nat_lt j plan.nodes && (restarts_at plan j p && (is_clean plan p j && recovers_in plan p (steady plan p before) j))

-- whether node j was sound in the period before p, or there is none
unfoldable pub sound_before : Plan → ℕ → ℕ → Bool
sound_before plan zero j = true
sound_before plan (suc p) j = steady plan p (sound_before plan p) j || joins_in plan p (sound_before plan p) j

abbrev pub is_sound_in : Plan → ℕ → ℕ → Bool
is_sound_in plan p j = sound_before plan (suc p) j

abbrev pub classify : Bool → Bool → Bool → Bool → Bool → Class
classify below good joining benign symmetric = if below then (if good then N else (if joining then J else (if benign then B else (if symmetric then S else A)))) else A

-- the class of node j in period p
unfoldable pub class_of : Plan → ℕ → ℕ → Class
class_of plan p j =
    classify (nat_lt j plan.nodes) (steady plan p (sound_before plan p) j) (joins_in plan p (sound_before plan p) j) (each_frame plan is_manifest p j) (is_symmetric_in plan p j)

-- the least node of class N
abbrev pub reference_of : Plan → ℕ → Option ℕ
reference_of plan p = find (λ j. is_nonfaulty (class_of plan p j)) (nodes_of plan)
