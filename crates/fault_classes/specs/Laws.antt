-- What the class of a node tells of its frames.
use Rattle.std.specs.Prelude.{◌≡◌, ◌≢◌, ℕ, suc, ◌<◌, Bool, true, false, not, ◌&&◌, ◌==◌, ◌↔◌, List, None}
use Rattle.node_grid.specs.declared.class.Class.TheVariants.{N, J, B, S}
use Rattle.node_grid.specs.Class.{is_nonfaulty, is_sound, IsWithin}
use Rattle.node_grid.specs.Count.{count}
use Rattle.fault_classes.specs.declared.budget.Budget.{Budget}
use Rattle.fault_classes.specs.Change.{is_manifest}
use Rattle.fault_classes.specs.Line.{effect_at}
use Rattle.slot_plan.specs.Slots.{slot_count}
use Rattle.fault_classes.specs.Plan.{Plan, nodes_of, restarts_at, class_of}
use Rattle.fault_classes.specs.Budget.{IsBudget, Holds}

-- no line touches the frames of a sound node
abbrev pub CleanLaw : Type 0
CleanLaw = (plan : Plan) (p s j i : ℕ) → is_sound (class_of plan p j) ≡ true → s < slot_count plan.rounds → i < plan.nodes → i ≢ j → effect_at plan.lines p s j i ≡ None

-- each frame of a benign node is manifestly faulty
abbrev pub BenignLaw : Type 0
BenignLaw = (plan : Plan) (p s j i : ℕ) → class_of plan p j ≡ B → s < slot_count plan.rounds → i < plan.nodes → i ≢ j → is_manifest (effect_at plan.lines p s j i) ≡ true

-- the same befalls all frames of a symmetric node in a slot
abbrev pub SymmetricLaw : Type 0
SymmetricLaw = (plan : Plan) (p s j i h : ℕ) → class_of plan p j ≡ S → s < slot_count plan.rounds → i < plan.nodes → h < plan.nodes → i ≢ j → h ≢ j
    → effect_at plan.lines p s j i ≡ effect_at plan.lines p s j h

-- the nodes that node i may take for good in slot 0 though they aren't
abbrev pub is_stray : Plan → ℕ → ℕ → ℕ → Bool
is_stray plan p i j = not (j == i) && (not (is_nonfaulty (class_of plan p j)) && not (is_manifest (effect_at plan.lines p 0 j i)))

-- where a node joins, the nodes of class N outnumber those
abbrev pub RecoveryLaw : Type 0
RecoveryLaw = (plan : Plan) (p i : ℕ) → class_of plan p i ≡ J → count (is_stray plan p i) (nodes_of plan) < count (λ j. is_nonfaulty (class_of plan p j)) (nodes_of plan)

-- a node of class N doesn't restart, and was sound before; a node of class J restarts
abbrev pub SoundnessLaw : Type 0
SoundnessLaw = ((plan : Plan) (p j : ℕ) → class_of plan p j ≡ N → restarts_at plan j p ≡ false)
    × ((plan : Plan) (p j : ℕ) → class_of plan (suc p) j ≡ N → is_sound (class_of plan p j) ≡ true)
    × ((plan : Plan) (p j : ℕ) → class_of plan p j ≡ J → restarts_at plan j p ≡ true)

-- the counts of a period hold exactly where its members are within the budget
abbrev pub BudgetLaw : Type 0
BudgetLaw = (plan : Plan) (p : ℕ) (members : List ℕ) (b : Budget) (m : ℕ) → IsBudget plan p members b → (Holds b m ↔ IsWithin (class_of plan p) members m)
