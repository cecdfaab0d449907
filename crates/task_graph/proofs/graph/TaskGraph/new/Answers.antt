use Rattle.std.proofs.Common.{◌≡◌, ℕ, true, false, Ok, Err, Result, List, ap, subst, refl}
use Rattle.task_graph.specs.declared.graph.GraphError.TheVariants.{Cycle}
use Rattle.task_graph.specs.Graph.{TaskView, IsOut, IsCyclic, IsLeast, IsTasks}
use Rattle.task_graph.specs.Refusal.{IsRefusal}
use Rattle.task_graph.proofs.Refusals.{one_refusal, refused_not}
use Rattle.task_graph.proofs.graph.TaskGraph.new.Goals as goal

no_way : false ≡ true → ⊥
no_way h = cc

no_error : {T E : Type 0} (r : Result T E) (x : T) (e : E) → r ≡ Ok x → r ≡ Err e → ⊥
no_error r x e is other = cc

same_error : {T E : Type 0} (r : Result T E) (d e : E) → r ≡ Err d → r ≡ Err e → d ≡ e
same_error r d e is other = cc

pub returns-in-Some-first_cyclic-clause-accepted :
    goal.returns-in-Some-first_cyclic-clause-accepted
returns-in-Some-first_cyclic-clause-accepted g c =
    let none : (u : ℕ) → ¬ IsOut c.args.nodes c.args.tasks.items u = rw c.deref.ensures.value at c.in_default.ensures in
    let first : IsLeast (IsCyclic c.args.tasks.items) c.in-Some-first_cyclic.t = rw c.deref-2.ensures.value at c.in-Some-first_cyclic.ensures in
    (λ h. absurd (no_way h), λ are. absurd (refused_not c.args.nodes c.args.tasks.items (Cycle c.in-Some-first_cyclic.t) (none, first) are))

pub returns-in-Some-first_cyclic-clause-refused : goal.returns-in-Some-first_cyclic-clause-refused
returns-in-Some-first_cyclic-clause-refused g c e =
    let none : (u : ℕ) → ¬ IsOut c.args.nodes c.args.tasks.items u = rw c.deref.ensures.value at c.in_default.ensures in
    let first : IsLeast (IsCyclic c.args.tasks.items) c.in-Some-first_cyclic.t = rw c.deref-2.ensures.value at c.in-Some-first_cyclic.ensures in (
      λ h. subst (IsRefusal c.args.nodes c.args.tasks.items) (same_error _ (Cycle c.in-Some-first_cyclic.t) e refl h) (none, first),
      λ r. ap Err (one_refusal c.args.nodes c.args.tasks.items (Cycle c.in-Some-first_cyclic.t) e (none, first) r),
    )

pub invariant_of-result : goal.invariant_of-result
invariant_of-result g c = record {
  some_nodes = c.requires.some;
  few_nodes = c.requires.few;
  tasks = record { in_range = rw c.deref.ensures.value at c.in_default.ensures; acyclic = subst (λ (tasks : List TaskView). (t : ℕ) → ¬ IsCyclic tasks t) c.deref-2.ensures.value c.in_default-first_cyclic.ensures };
}

pub returns-clause-accepted : goal.returns-clause-accepted
returns-clause-accepted g c = (
  λ h. record { in_range = rw c.deref.ensures.value at c.in_default.ensures; acyclic = subst (λ (tasks : List TaskView). (t : ℕ) → ¬ IsCyclic tasks t) c.deref-2.ensures.value c.in_default-first_cyclic.ensures },
  λ are. refl,
)

pub returns-clause-refused : goal.returns-clause-refused
returns-clause-refused g c e =
    let are : IsTasks c.args.nodes c.args.tasks.items = (returns-clause-accepted g c).0 refl in
    (λ h. absurd (no_error _ _ e refl h), λ r. absurd (refused_not c.args.nodes c.args.tasks.items e r are))
