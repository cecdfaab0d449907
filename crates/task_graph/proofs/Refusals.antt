-- Tasks make a graph, or there is one reason why not.
use Rattle.std.proofs.Common.{◌≡◌, ℕ, List, ap, inl, inr, arith}
use Rattle.std.proofs.lemmas.Bool.{cases_lt}
use Rattle.task_graph.specs.declared.graph.GraphError.{GraphError}
use Rattle.task_graph.specs.declared.graph.GraphError.TheVariants.{Range, Cycle}
use Rattle.task_graph.specs.Graph.{TaskView, IsOut, IsCyclic, IsLeast, IsTasks}
use Rattle.task_graph.specs.Refusal.{IsRefusal}

least_one : (P : ℕ → Type 0) (t u : ℕ) → IsLeast P t → IsLeast P u → t ≡ u
least_one P t u p q = elim (cases_lt t u) [
  | inl l ↦ absurd (q.least t l p.holds)
  | inr l ↦ elim (cases_lt u t) [
    | inl m ↦ absurd (p.least u m q.holds)
    | inr m ↦ omega arith
  ]
]

pub one_refusal : (nodes : ℕ) (tasks : List TaskView) (d e : GraphError) → IsRefusal nodes tasks d → IsRefusal nodes tasks e → d ≡ e
one_refusal nodes tasks (Range t) (Range u) p q = ap Range (least_one (IsOut nodes tasks) t u p q)
one_refusal nodes tasks (Range t) (Cycle u) p q = absurd (q.0 t p.holds)
one_refusal nodes tasks (Cycle t) (Range u) p q = absurd (p.0 u q.holds)
one_refusal nodes tasks (Cycle t) (Cycle u) p q = ap Cycle (least_one (IsCyclic tasks) t u p.1 q.1)

pub refused_not : (nodes : ℕ) (tasks : List TaskView) (e : GraphError) → IsRefusal nodes tasks e → ¬ IsTasks nodes tasks
refused_not nodes tasks (Range t) r are = are.in_range t r.holds
refused_not nodes tasks (Cycle t) r are = are.acyclic t r.1.holds
