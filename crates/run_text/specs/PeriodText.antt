-- The printed text of a period: its line, and the lines of each node; and the lines of an end and of a refusal.
use Rattle.std.specs.Prelude.{ℕ, List, [], ◌++◌, Option, None, Some, codes, decimal, slice_get, slice_index_or}
use Rattle.std.specs.List.{flat_map}
use Rattle.node_grid.specs.NodeSet.{ids_below}
use Rattle.node_grid.specs.declared.class.Class.TheVariants.{N}
use Rattle.fault_classes.specs.declared.budget.Budget.{Budget}
use Rattle.node_steps.specs.Outcome.{Outcome}
use Rattle.cluster_periods.specs.Record.{PeriodView}
use Rattle.run_text.specs.Text.{set_text, yes_no, class_text}
use Rattle.run_text.specs.NodeText.{node_text}

-- how many members there are, and of which classes
abbrev pub budget_text : Budget → List ℕ
budget_text t = codes " n " ++ decimal t.n ++ codes " a " ++ decimal t.a ++ codes " s " ++ decimal t.s ++ codes " b " ++ decimal t.b

-- the period line
abbrev pub head_text : PeriodView → List ℕ
head_text t =
    codes "period " ++ decimal t.period ++ codes " members " ++ set_text t.members ++ budget_text t.budget
    ++ codes " budget " ++ yes_no t.within ++ codes " claim " ++ yes_no t.claim ++ codes "\n"

-- the lines of node i, where it has a record
abbrev pub recorded_text : PeriodView → ℕ → Option Outcome → List ℕ
recorded_text t i None = []
recorded_text t i (Some r) = node_text t.nodes t.retire i (class_text (slice_index_or t.classes i N)) r

-- the lines of all nodes
abbrev pub nodes_text : PeriodView → List ℕ
nodes_text t = flat_map (λ i. recorded_text t i (slice_get t.records i)) (ids_below t.nodes)

-- the last line of a run
abbrev pub end_text : ℕ → List ℕ
end_text periods = codes "end " ++ decimal periods ++ codes "\n"

-- the line of a scenario that is refused by a rule at a place
abbrev pub refused_text : ℕ → ℕ → List ℕ
refused_text rule place = codes "refused " ++ decimal rule ++ codes " " ++ decimal place ++ codes "\n"

-- what `write_alone` writes: the period's number and the lines of one node
abbrev pub alone_text : ℕ → ℕ → ℕ → ℕ → Outcome → List ℕ
alone_text period id nodes retire r = codes "period " ++ decimal period ++ codes "\n" ++ node_text nodes retire id (codes "-") r
