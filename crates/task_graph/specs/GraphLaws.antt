-- What is known of a graph: its tasks are in range and few, and a task comes after itself exactly where a test says so.
use Rattle.std.proofs.Common.{◌≡◌, ℕ, zero, suc, ◌<◌, ◌≤◌, true, false, List, [], ◌∷◌, ◌++◌, length, ap, inl, inr, arith, subst}
use Rattle.std.specs.Prelude.{nat_lt}
use Rattle.std.proofs.lemmas.Bool.{cases_Bool, cases_lt, and_parts, both_ways, or_left, or_right, or_cases, ltb-true, leb-true, and_from}
use Rattle.std.proofs.lemmas.List.{get_or_past}
use Rattle.node_grid.specs.NodeSet.{has_id}
use Rattle.node_grid.specs.ListLaws.{all_at}
use Rattle.task_graph.specs.Graph.{TaskView, no_task, task_at, is_ascending, all_below, is_in_range, IsOut, IsChain, ComesAfter, IsCyclic}
use Rattle.task_graph.specs.Reach.{reaches, is_cyclic}

-- a task that is in range
pub record IsRanged (nodes count t : ℕ) (task : TaskView) : Type 0 where
  pub place : t < 32
  pub ascending : is_ascending task.after ≡ true
  pub below : all_below count task.after ≡ true
  pub before : (u : ℕ) → has_id task.after u ≡ true → u < count
  pub some : 0 < length task.nodes
  pub allowed : (q : ℕ) → has_id task.nodes q ≡ true → q < nodes
  pub need : 0 < task.need
  pub enough : task.need ≤ length task.nodes
  pub least : 0 < task.min
  pub ordered : task.min ≤ task.max
  pub most : task.max ≤ 1024

pub ranged : (nodes count t : ℕ) (task : TaskView) → is_in_range nodes count t task ≡ true → IsRanged nodes count t task
ranged nodes count t task h =
    let a = and_parts _ _ h in
    let b = and_parts _ _ a.0 in
    let c = and_parts _ _ b.0 in
    let d = and_parts _ _ c.0 in
    let e = and_parts _ _ d.0 in
    let f = and_parts _ _ e.0 in
    let g = and_parts _ _ f.0 in
    let i = and_parts _ _ g.0 in
    let j = and_parts _ _ i.0 in
    record {
      place = ltb-true _ _ j.0;
      ascending = j.1;
      below = i.1;
      before = λ u on. ltb-true _ _ (all_at (λ x. nat_lt x count) task.after u i.1 on);
      some = ltb-true _ _ g.1;
      allowed = λ q on. ltb-true _ _ (all_at (λ x. nat_lt x nodes) task.nodes q f.1 on);
      need = leb-true _ _ e.1;
      enough = leb-true _ _ d.1;
      least = leb-true _ _ c.1;
      ordered = leb-true _ _ b.1;
      most = leb-true _ _ a.1;
    }

-- ---- what each graph's tasks meet

pub task_ranged : (nodes : ℕ) (tasks : List TaskView) → ((t : ℕ) → ¬ IsOut nodes tasks t) → (t : ℕ) → t < length tasks → IsRanged nodes (length tasks) t (task_at tasks t)
task_ranged nodes tasks none t h = elim (cases_Bool (is_in_range nodes (length tasks) t (task_at tasks t))) [
  | inl within ↦ ranged nodes (length tasks) t (task_at tasks t) within
  | inr out ↦ absurd (none t (h, out))
]

pub few_tasks : (nodes : ℕ) (tasks : List TaskView) → ((t : ℕ) → ¬ IsOut nodes tasks t) → length tasks ≤ 32
few_tasks nodes tasks none = elim (cases_lt 32 (length tasks)) [
  | inl more ↦ let p = (task_ranged nodes tasks none 32 more).place in absurd (omega arith)
  | inr few ↦ few
]

-- from the number of tasks on there is no task
pub task_past : (tasks : List TaskView) (t : ℕ) → length tasks ≤ t → task_at tasks t ≡ no_task
task_past tasks t h = get_or_past tasks t no_task h

-- what has predecessors is a task
pub follows_within : (tasks : List TaskView) (t u : ℕ) → has_id (task_at tasks t).after u ≡ true → t < length tasks
follows_within tasks t u on = elim (cases_lt t (length tasks)) [
  | inl h ↦ h
  | inr h ↦ let e : has_id (task_at tasks t).after u ≡ false = ap (λ (x : TaskView). has_id x.after u) (task_past tasks t h) in absurd (both_ways _ e on)
]

-- no node is allowed for what is no task
pub allowed_within : (tasks : List TaskView) (t q : ℕ) → has_id (task_at tasks t).nodes q ≡ true → t < length tasks
allowed_within tasks t q on = elim (cases_lt t (length tasks)) [
  | inl h ↦ h
  | inr h ↦ let e : has_id (task_at tasks t).nodes q ≡ false = ap (λ (x : TaskView). has_id x.nodes q) (task_past tasks t h) in absurd (both_ways _ e on)
]

-- ---- a test for chains, after Floyd and Warshall

-- two chains with a common end make one
chain_joined : (tasks : List TaskView) (t : ℕ) (xs : List ℕ) (v : ℕ) (ys : List ℕ) (u : ℕ)
    → IsChain tasks (t ∷ xs ++ v ∷ []) → IsChain tasks (v ∷ ys ++ u ∷ []) → IsChain tasks (t ∷ (xs ++ v ∷ ys) ++ u ∷ [])
chain_joined tasks t [] v ys u a b = (a.0, b)
chain_joined tasks t (x ∷ xs) v ys u a b = (a.0, chain_joined tasks x xs v ys u a.1 b)

pub chain_of_reach : (tasks : List TaskView) (k t u : ℕ) → reaches tasks k t u ≡ true → ComesAfter tasks t u
chain_of_reach tasks zero t u h = ([], (h, tt))
chain_of_reach tasks (suc k) t u h = elim (or_cases _ _ h) [
  | inl before ↦ chain_of_reach tasks k t u before
  | inr through ↦
      let p = and_parts _ _ through in
      let a = chain_of_reach tasks k t k p.0 in
      let b = chain_of_reach tasks k k u p.1 in
      (a.0 ++ k ∷ b.0, chain_joined tasks t a.0 k b.0 u a.1 b.1)
]

reach_more : (tasks : List TaskView) (k t u : ℕ) → reaches tasks k t u ≡ true → reaches tasks (suc k) t u ≡ true
reach_more tasks k t u h = or_left _ _ h

reach_from_edge : (tasks : List TaskView) (k t u : ℕ) → has_id (task_at tasks t).after u ≡ true → reaches tasks k t u ≡ true
reach_from_edge tasks zero t u h = h
reach_from_edge tasks (suc k) t u h = reach_more tasks k t u (reach_from_edge tasks k t u h)

-- where a chain may pass through v, it does
reach_through : (tasks : List TaskView) (k t v u : ℕ) → v < k → reaches tasks k t v ≡ true → reaches tasks k v u ≡ true → reaches tasks k t u ≡ true
reach_through tasks zero t v u l a b = absurd (omega arith)
reach_through tasks (suc k) t v u l a b = elim (cases_lt v k) [
  | inl below ↦ elim (or_cases _ _ a) [
    | inl a1 ↦ elim (or_cases _ _ b) [
      | inl b1 ↦ or_left _ _ (reach_through tasks k t v u below a1 b1)
      | inr b2 ↦ let q = and_parts _ _ b2 in or_right _ _ (and_from _ _ (reach_through tasks k t v k below a1 q.0) q.1)
    ]
    | inr a2 ↦ let p = and_parts _ _ a2 in elim (or_cases _ _ b) [
      | inl b1 ↦ or_right _ _ (and_from _ _ p.0 (reach_through tasks k k v u below p.1 b1))
      | inr b2 ↦ or_right _ _ (and_from _ _ p.0 (and_parts _ _ b2).1)
    ]
  ]
  | inr above ↦
      let e : v ≡ k = omega arith in
      let a' : reaches tasks k t k ≡ true = first (subst (λ (x : ℕ). reaches tasks (suc k) t x ≡ true) e a) in
      let b' : reaches tasks k k u ≡ true = second (subst (λ (x : ℕ). reaches tasks (suc k) x u ≡ true) e b) in
      or_right _ _ (and_from _ _ a' b')
]
  where
    first : reaches tasks (suc k) t k ≡ true → reaches tasks k t k ≡ true
    first h = elim (or_cases _ _ h) [ inl x ↦ x | inr x ↦ (and_parts _ _ x).0 ]

    second : reaches tasks (suc k) k u ≡ true → reaches tasks k k u ≡ true
    second h = elim (or_cases _ _ h) [ inl x ↦ x | inr x ↦ (and_parts _ _ x).1 ]

pub reach_of_chain : (tasks : List TaskView) (t u : ℕ) (between : List ℕ) → IsChain tasks (t ∷ between ++ u ∷ []) → reaches tasks (length tasks) t u ≡ true
reach_of_chain tasks t u [] chain = reach_from_edge tasks (length tasks) t u chain.0
reach_of_chain tasks t u (x ∷ xs) chain =
    reach_through tasks (length tasks) t x u (within xs chain.1) (reach_from_edge tasks (length tasks) t x chain.0) (reach_of_chain tasks x u xs chain.1)
  where
    within : (ys : List ℕ) → IsChain tasks (x ∷ ys ++ u ∷ []) → x < length tasks
    within [] c = follows_within tasks x u c.0
    within (y ∷ ys) c = follows_within tasks x y c.0

-- what comes after itself is a task
pub cyclic_within : (tasks : List TaskView) (t : ℕ) → IsCyclic tasks t → t < length tasks
cyclic_within tasks t c = by_first c.0 c.1
  where
    by_first : (between : List ℕ) → IsChain tasks (t ∷ between ++ t ∷ []) → t < length tasks
    by_first [] chain = follows_within tasks t t chain.0
    by_first (x ∷ xs) chain = follows_within tasks t x chain.0

-- the test is right both ways
pub is_cyclic-finds : (tasks : List TaskView) (t : ℕ) → IsCyclic tasks t → is_cyclic tasks t ≡ true
is_cyclic-finds tasks t c = reach_of_chain tasks t t c.0 c.1

pub is_cyclic-tells : (tasks : List TaskView) (t : ℕ) → is_cyclic tasks t ≡ true → IsCyclic tasks t
is_cyclic-tells tasks t h = chain_of_reach tasks (length tasks) t t h
