-- The schedule: completion, leaving, the frame's end and the pick. Each new copy is a case for itself.
use Rattle.std.specs.Prelude.{ℕ, ◌+◌, ◌%◌, Bool, false, not, ◌&&◌, ◌==◌, nat_lt, nat_le, List, length, Option, None, Some, is_none, if◌then◌else◌, slice_index_or}
use Rattle.std.specs.List.{find, list_all}
use Rattle.node_grid.specs.Kinds.{no_claim}
use Rattle.node_grid.specs.NodeSet.{ids_below, has_id}
use Rattle.node_grid.specs.Count.{count}
use Rattle.omh_paths.specs.declared.wrapped.Wrapped.{Wrapped}
use Rattle.omh_paths.specs.declared.wrapped.Wrapped.TheVariants.{Plain, Fault}
use Rattle.task_graph.specs.Graph.{GraphView, task_at}
use Rattle.list_scheduler.specs.declared.copies.CopyState.{CopyState}
use Rattle.list_scheduler.specs.declared.copies.CopyState.TheVariants.{Idle, Running, Passed, Failed}
use Rattle.list_scheduler.specs.declared.schedule.Verdict.{Verdict}
use Rattle.list_scheduler.specs.Copies.{CopyTable, copy_at, table, is_passed, is_idle, works}

-- ---- claims and completion

-- the settled claim of node q, by a list with one for each node; an error is a Fault
abbrev pub claim_of : List (Wrapped ℕ) → ℕ → Wrapped ℕ
claim_of settled q = slice_index_or settled q (Fault 0)

-- whether a settled claim claims a task, and whether it claims task t
abbrev pub claims_task : Wrapped ℕ → Bool
claims_task (Fault k) = false
claims_task (Plain t) = not (t == no_claim)

abbrev pub claims : Wrapped ℕ → ℕ → Bool
claims (Fault k) t = false
claims (Plain c) t = c == t

abbrev pub no_verdict : Verdict
no_verdict = record { claim = false; overrun = false }

-- the verdict on a member that works at this for that claim
abbrev pub verdict_at : GraphView → Option (ℕ × ℕ) → Wrapped ℕ → Verdict
verdict_at graph None c = record { claim = claims_task c; overrun = false }
verdict_at graph (Some w) c =
    if claims c w.0
    then record { claim = nat_lt w.1 (task_at graph.tasks w.0).min; overrun = false }
    else record { claim = claims_task c; overrun = nat_le (task_at graph.tasks w.0).max w.1 }

-- the verdict on each node
abbrev pub verdict : GraphView → List ℕ → CopyTable → List (Wrapped ℕ) → ℕ → Verdict
verdict graph members copies settled q =
    if has_id members q then verdict_at graph (works copies q) (claim_of settled q) else no_verdict

-- the copy of task t, of a node that works at e for it
abbrev pub worked_on : GraphView → ℕ → ℕ → Wrapped ℕ → CopyState
worked_on graph t e c =
    if claims c t
    then (if nat_lt e (task_at graph.tasks t).min then Running (e + 1) else Passed)
    else (if nat_lt e (task_at graph.tasks t).max then Running (e + 1) else Failed)

-- the copy of task t, of a member that works at this
abbrev pub completed_at : GraphView → ℕ → CopyState → Option (ℕ × ℕ) → Wrapped ℕ → CopyState
completed_at graph t copy None c = copy
completed_at graph t copy (Some w) c = if t == w.0 then worked_on graph t w.1 c else copy

abbrev pub completed : GraphView → List ℕ → CopyTable → List (Wrapped ℕ) → ℕ → ℕ → CopyState
completed graph members copies settled t q =
    if has_id members q then completed_at graph t (copy_at copies t q) (works copies q) (claim_of settled q) else copy_at copies t q

-- ---- leaving and the frame's end

abbrev pub left_copy : CopyState → CopyState
left_copy (Running e) = Failed
left_copy copy = copy

-- where one node leaves
abbrev pub left_by : ℕ → CopyTable → ℕ → ℕ → CopyState
left_by node copies t q = if q == node then left_copy (copy_at copies t q) else copy_at copies t q

-- where all nodes leave that aren't members
abbrev pub left : List ℕ → CopyTable → ℕ → ℕ → CopyState
left members copies t q = if has_id members q then copy_at copies t q else left_copy (copy_at copies t q)

abbrev pub all_idle : ℕ → ℕ → CopyState
all_idle t q = Idle

-- after period p, with frames of so many periods
abbrev pub frame_ended : ℕ → ℕ → CopyTable → ℕ → ℕ → CopyState
frame_ended frame p copies t q = if (p + 1) % frame == 0 then Idle else copy_at copies t q

-- ---- the pick

-- whether at least `need` copies of task t passed, those of nodes that aren't members too
abbrev pub finished : GraphView → CopyTable → ℕ → Bool
finished graph copies t = nat_le (task_at graph.tasks t).need (count (λ q. is_passed (copy_at copies t q)) (ids_below graph.nodes))

-- whether node q may start task t
abbrev pub is_eligible : GraphView → CopyTable → ℕ → ℕ → Bool
is_eligible graph copies q t =
    has_id (task_at graph.tasks t).nodes q && is_idle (copy_at copies t q) && list_all (finished graph copies) (task_at graph.tasks t).after

-- the least task that node q may start
abbrev pub pick_of : GraphView → CopyTable → ℕ → Option ℕ
pick_of graph copies q = find (is_eligible graph copies q) (ids_below (length graph.tasks))

-- whether this is the number
abbrev pub is_it : Option ℕ → ℕ → Bool
is_it None t = false
is_it (Some x) t = x == t

-- whether node q starts task t: it is a member that works at nothing, and t is its pick
abbrev pub picks : GraphView → List ℕ → CopyTable → ℕ → ℕ → Bool
picks graph members copies t q = has_id members q && is_none (works copies q) && is_it (pick_of graph copies q) t

abbrev pub picked : GraphView → List ℕ → CopyTable → ℕ → ℕ → CopyState
picked graph members copies t q = if picks graph members copies t q then Running 1 else copy_at copies t q

-- ---- a whole period

-- what completion leaves
unfoldable pub copies_completed : ℕ → GraphView → List ℕ → CopyTable → List (Wrapped ℕ) → CopyTable
copies_completed capacity graph members copies settled = table capacity (completed graph members copies settled)

-- a period's step, by the members before it and after it
unfoldable pub copies_after : ℕ → GraphView → ℕ → ℕ → List ℕ → List ℕ → CopyTable → List (Wrapped ℕ) → CopyTable
copies_after capacity graph frame p before after copies settled =
    let done = table capacity (completed graph before copies settled) in
    let gone = table capacity (left after done) in
    let over = table capacity (frame_ended frame p gone) in
    table capacity (picked graph after over)

-- the copies of the first agreed state
unfoldable pub first_copies : ℕ → GraphView → List ℕ → CopyTable
first_copies capacity graph members = table capacity (picked graph members (table capacity all_idle))
