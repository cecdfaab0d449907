-- The pick goes task by task: who starts a task, and that this changes nobody's other picks.
use Rattle.std.proofs.Common.{◌≡◌, ℕ, zero, suc, ◌+◌, ◌<◌, ◌≤◌, Bool, true, false, not, ◌&&◌, List, [], ◌∷◌, length, get_or, take, None, Some, refl, sym, ap, ap₂, ◌∙◌, inl, inr, arith, eq-eqb, ne_eqb}
use Rattle.std.specs.Prelude.{◌==◌, nat_lt, nat_le, is_none, if◌then◌else◌}
use Rattle.std.specs.List.{find, list_all, range_with_len}
use Rattle.std.proofs.lemmas.Bool.{cases_Bool, cases_eq, cases_lt, cond-true, cond-false, and_parts, or_left, or_right, lt-ltb, le-ltb}
use Rattle.std.proofs.lemmas.List.Folds.{list_all_more}
use Rattle.node_grid.specs.NodeSet.{ids_below, ids_where, has_id, minus_of, IsIdSet}
use Rattle.node_grid.specs.SetFacts.{count_members}
use Rattle.task_graph.specs.Graph.{GraphView, task_at, IsGraph}
use Rattle.task_graph.specs.GraphLaws.{task_ranged, few_tasks}
use Rattle.list_scheduler.specs.declared.copies.CopyState.{CopyState}
use Rattle.list_scheduler.specs.declared.copies.CopyState.TheVariants.{Idle, Running, Passed, Failed}
use Rattle.list_scheduler.specs.Copies.{CopyTable, copy_at, table, IsTable, is_passed, is_idle, works}
use Rattle.list_scheduler.specs.CopyLaws.{at_table, table_same, range_below}
use Rattle.list_scheduler.specs.Schedule.{finished, is_eligible, pick_of, is_it, picks, picked}
use Rattle.list_scheduler.specs.ScheduleLaws.{picks_is}
use Rattle.list_scheduler.specs.ByTask.{is_open, started}
use Rattle.list_scheduler.proofs.Found.{found, found_all}
use Rattle.node_grid.specs.ListLaws.{has_at}
use Rattle.node_grid.specs.NodeSetLaws.{filter_range, filter_none, filter_filter, has-filter}

-- ---- lists with the same answers

list_all_same : (f g : ℕ → Bool) (xs : List ℕ) → ((x : ℕ) → has_id xs x ≡ true → f x ≡ g x) → list_all f xs ≡ list_all g xs
list_all_same f g [] h = refl
list_all_same f g (x ∷ xs) h = ap₂ ◌&&◌ (h x (or_left _ _ (eq-eqb x x refl))) (list_all_same f g xs (λ y on. h y (or_right _ _ on)))

-- ---- what stays

passed_stays : (graph : GraphView) (ys : List ℕ) (old : CopyTable) (t q : ℕ) → is_passed (picked graph ys old t q) ≡ is_passed (copy_at old t q)
passed_stays graph ys old t q = elim (cases_Bool (picks graph ys old t q)) [
  | inl on ↦
      let p = picks_is graph ys old t q on in
      let idle : is_idle (copy_at old t q) ≡ true = (and_parts _ _ (and_parts _ _ p.eligible).0).1 in
      ap is_passed (cond-true (picks graph ys old t q) _ _ on) ∙ sym (idle_not_passed (copy_at old t q) idle)
  | inr off ↦ ap is_passed (cond-false (picks graph ys old t q) _ _ off)
]
  where
    idle_not_passed : (c : CopyState) → is_idle c ≡ true → is_passed c ≡ false
    idle_not_passed Idle h = refl
    idle_not_passed (Running e) h = refl
    idle_not_passed Passed h = cc
    idle_not_passed Failed h = refl

-- ---- the pick goes task by task

-- what is picked of the tasks below i is started
abbrev pub picked_below : ℕ → GraphView → List ℕ → CopyTable → ℕ → ℕ → CopyState
picked_below i graph nodes old t q = if nat_lt t i then picked graph nodes old t q else copy_at old t q

-- whether a node has no pick among the tasks below i
abbrev pub is_free : ℕ → GraphView → List ℕ → CopyTable → ℕ → Bool
is_free i graph nodes old q = has_id nodes q && is_none (find (is_eligible graph old q) (ids_below i))

pub picked_below-none : (n : ℕ) (graph : GraphView) (nodes : List ℕ) (old : CopyTable) → IsTable n old → old ≡ table n (picked_below 0 graph nodes old)
picked_below-none n graph nodes old shape = shape ∙ table_same n (copy_at old) (picked_below 0 graph nodes old) (λ t q ht hq. sym (cond-false (nat_lt t 0) _ _ (le-ltb _ _ (omega arith))))

pub free-none : (n : ℕ) (graph : GraphView) (nodes : List ℕ) (old : CopyTable) → IsIdSet n nodes → nodes ≡ ids_where (is_free 0 graph nodes old) n
free-none n graph nodes old set = set ∙ filter_range (λ k. has_id nodes k) (is_free 0 graph nodes old) 0 n (λ k l u. sym (and_yes (has_id nodes k)))
  where
    and_yes : (b : Bool) → (b && true) ≡ b
    and_yes true = refl
    and_yes false = refl

-- the copies of task i are as they were
here : (n i q : ℕ) (graph : GraphView) (nodes : List ℕ) (old c : CopyTable) → c ≡ table n (picked_below i graph nodes old) → i < 32 → q < n → copy_at c i q ≡ copy_at old i q
here n i q graph nodes old c is hi hq = ap (λ (x : CopyTable). copy_at x i q) is ∙ at_table n _ i q hi hq ∙ cond-false (nat_lt i i) _ _ (le-ltb _ _ (omega arith))

passed_below : (i : ℕ) (graph : GraphView) (nodes : List ℕ) (old : CopyTable) (t q : ℕ) → is_passed (picked_below i graph nodes old t q) ≡ is_passed (copy_at old t q)
passed_below i graph nodes old t q = by (nat_lt t i) refl
  where
    by : (b : Bool) → nat_lt t i ≡ b → is_passed (picked_below i graph nodes old t q) ≡ is_passed (copy_at old t q)
    by true h = ap is_passed (cond-true (nat_lt t i) _ _ h) ∙ passed_stays graph nodes old t q
    by false h = ap is_passed (cond-false (nat_lt t i) _ _ h)

finished_same : (n i : ℕ) (graph : GraphView) (nodes : List ℕ) (old c : CopyTable) → IsGraph n graph → c ≡ table n (picked_below i graph nodes old) → (t : ℕ) → t < 32 → finished graph c t ≡ finished graph old t
finished_same n i graph nodes old c is_graph is t ht =
    ap (nat_le (task_at graph.tasks t).need) (count_members (λ q. is_passed (copy_at c t q)) (λ q. is_passed (copy_at old t q)) (ids_below graph.nodes) (λ q on.
    let l = range_below 0 graph.nodes q on in
    let few = is_graph.few_nodes in
    ap is_passed (ap (λ (x : CopyTable). copy_at x t q) is ∙ at_table n (picked_below i graph nodes old) t q ht (omega arith)) ∙ passed_below i graph nodes old t q))

eligible_same : (n i q : ℕ) (graph : GraphView) (nodes : List ℕ) (old c : CopyTable) → IsGraph n graph → c ≡ table n (picked_below i graph nodes old) → i < length graph.tasks → q < n
    → is_eligible graph c q i ≡ is_eligible graph old q i
eligible_same n i q graph nodes old c is_graph is hi hq =
    let few = few_tasks graph.nodes graph.tasks is_graph.tasks.in_range in
    let r = task_ranged graph.nodes graph.tasks is_graph.tasks.in_range i hi in
    ap₂ (λ (a b : Bool). has_id (task_at graph.tasks i).nodes q && a && b)
    (ap is_idle (here n i q graph nodes old c is (omega arith) hq))
    (list_all_same (finished graph c) (finished graph old) (task_at graph.tasks i).after (λ u on. let l = r.before u on in finished_same n i graph nodes old c is_graph is u (omega arith)))

-- who starts task i
abbrev starts_now : ℕ → GraphView → List ℕ → CopyTable → ℕ → Bool
starts_now i graph nodes old q = is_free i graph nodes old q && is_eligible graph old q i

starters_are : (n i : ℕ) (graph : GraphView) (nodes free starters : List ℕ) (old c : CopyTable) → IsGraph n graph → c ≡ table n (picked_below i graph nodes old) → i < length graph.tasks
    → free ≡ ids_where (is_free i graph nodes old) n → starters ≡ ids_where (λ q. has_id free q && is_eligible graph c q i) n → starters ≡ ids_where (starts_now i graph nodes old) n
starters_are n i graph nodes free starters old c is_graph is hi free_is starters_is =
    starters_is ∙ filter_range (λ q. has_id free q && is_eligible graph c q i) (starts_now i graph nodes old) 0 n (λ q l u.
    let hq : q < n = omega arith in
    ap₂ ◌&&◌ (ap (λ (s : List ℕ). has_id s q) free_is ∙ has-filter (is_free i graph nodes old) n q hq) (eligible_same n i q graph nodes old c is_graph is hi hq))

-- ---- the least eligible task

it_is : (f : ℕ → Bool) (a n i t : ℕ) → a + i ≡ t → i < n → is_it (find f (range_with_len a n)) t ≡ (is_none (find f (range_with_len a i)) && f t)
it_is f a zero i t e l = absurd (omega arith)
it_is f a (suc n) zero t e l = let d : a ≡ t = omega arith in rw (sym d) (by (f a) refl)
  where
    above : (b m : ℕ) → a < b → is_it (find f (range_with_len b m)) a ≡ false
    above b zero k = refl
    above b (suc m) k = elim (f b) as (λ c. is_it (if c then Some b else find f (range_with_len (b + 1) m)) a ≡ false) [
      | true ↦ ne_eqb b a (λ d. absurd (omega arith))
      | false ↦ above (b + 1) m (omega arith)
    ]

    by : (c : Bool) → f a ≡ c → is_it (if f a then Some a else find f (range_with_len (a + 1) n)) a ≡ f a
    by true h = rw h (eq-eqb a a refl)
    by false h = rw h (above (a + 1) n (omega arith))
it_is f a (suc n) (suc i) t e l =
    elim (f a) as (λ c. is_it (if c then Some a else find f (range_with_len (a + 1) n)) t ≡ (is_none (if c then Some a else find f (range_with_len (a + 1) i)) && f t)) [
      | true ↦ ne_eqb a t (λ d. absurd (omega arith))
      | false ↦ it_is f (a + 1) n i t (omega arith) (omega arith)
    ]

none_more : (f : ℕ → Bool) (a i t : ℕ) → a + i ≡ t → is_none (find f (range_with_len a (i + 1))) ≡ (is_none (find f (range_with_len a i)) && not (f t))
none_more f a zero t e = let d : a ≡ t = omega arith in rw (sym d) (elim (f a) as (λ c. is_none (if c then Some a else None) ≡ not c) [ true ↦ refl | false ↦ refl ])
none_more f a (suc i) t e =
    let d : suc i + 1 ≡ suc (i + 1) = omega arith in
    rw d (elim (f a) as (λ c. is_none (if c then Some a else find f (range_with_len (a + 1) (i + 1))) ≡ (is_none (if c then Some a else find f (range_with_len (a + 1) i)) && not (f t))) [
      | true ↦ refl
      | false ↦ none_more f (a + 1) i t (omega arith)
    ])

it_is_past : (f : ℕ → Bool) (a n t : ℕ) → a + n ≤ t → is_it (find f (range_with_len a n)) t ≡ false
it_is_past f a zero t l = refl
it_is_past f a (suc n) t l =
    elim (f a) as (λ c. is_it (if c then Some a else find f (range_with_len (a + 1) n)) t ≡ false) [
      | true ↦ ne_eqb a t (λ d. absurd (omega arith))
      | false ↦ it_is_past f (a + 1) n t (omega arith)
    ]

picks_now : (graph : GraphView) (nodes : List ℕ) (old : CopyTable) (i q : ℕ) → (has_id nodes q ≡ true → works old q ≡ None) → i < length graph.tasks → picks graph nodes old i q ≡ starts_now i graph nodes old q
picks_now graph nodes old i q free hi =
    by (has_id nodes q) refl
  where
    least : is_it (find (is_eligible graph old q) (ids_below (length graph.tasks))) i ≡ (is_none (find (is_eligible graph old q) (ids_below i)) && is_eligible graph old q i)
    least = it_is (is_eligible graph old q) 0 (length graph.tasks) i i (omega arith) hi

    by : (b : Bool) → has_id nodes q ≡ b → picks graph nodes old i q ≡ starts_now i graph nodes old q
    by true h = rw (h, free h) least
    by false h = rw h refl

pub picked_below-more : (n i : ℕ) (graph : GraphView) (nodes free starters : List ℕ) (old c new : CopyTable) → IsGraph n graph → ((q : ℕ) → has_id nodes q ≡ true → works old q ≡ None)
    → c ≡ table n (picked_below i graph nodes old) → i < length graph.tasks → free ≡ ids_where (is_free i graph nodes old) n → starters ≡ ids_where (λ q. has_id free q && is_eligible graph c q i) n
    → new ≡ table n (started i starters c) → new ≡ table n (picked_below (i + 1) graph nodes old)
picked_below-more n i graph nodes free starters old c new is_graph rest is hi free_is starters_is step = step ∙ table_same n _ _ (λ t q ht hq. elim (cases_eq t i) [
  | inl same ↦
      let on : has_id starters q ≡ picks graph nodes old i q =
      ap (λ (s : List ℕ). has_id s q) (starters_are n i graph nodes free starters old c is_graph is hi free_is starters_is) ∙ has-filter (starts_now i graph nodes old) n q hq ∙ sym (picks_now graph nodes old i q (rest q) hi) in
      let was : copy_at c i q ≡ copy_at old i q = here n i q graph nodes old c is (omega arith) hq in
      let itself : (i == i) ≡ true = eq-eqb i i refl in
      rw same (rw itself (ap₂ (λ (b : Bool) (x : CopyState). if b then Running 1 else x) on was) ∙ sym (cond-true (nat_lt i (i + 1)) _ _ (lt-ltb _ _ (omega arith))))
  | inr other ↦
      let apart : (t == i) ≡ false = ne_eqb t i other in
      cond-false ((t == i) && has_id starters q) _ _ (rw apart refl) ∙ ap (λ (x : CopyTable). copy_at x t q) is ∙ at_table n _ t q ht hq
      ∙ ap (λ (b : Bool). if b then picked graph nodes old t q else copy_at old t q) (below t other)
])
  where
    below : (t : ℕ) → (t ≡ i → ⊥) → nat_lt t i ≡ nat_lt t (i + 1)
    below t ne = elim (cases_lt t i) [
      | inl low ↦ lt-ltb t i low ∙ sym (lt-ltb t (i + 1) (omega arith))
      | inr high ↦ let above : i < t = omega arith in le-ltb t i high ∙ sym (le-ltb t (i + 1) (omega arith))
    ]

pub free-more : (n i : ℕ) (graph : GraphView) (nodes free starters new : List ℕ) (old c : CopyTable) → IsGraph n graph → c ≡ table n (picked_below i graph nodes old) → i < length graph.tasks
    → free ≡ ids_where (is_free i graph nodes old) n → starters ≡ ids_where (λ q. has_id free q && is_eligible graph c q i) n → new ≡ minus_of free starters
    → new ≡ ids_where (is_free (i + 1) graph nodes old) n
free-more n i graph nodes free starters new old c is_graph is hi free_is starters_is step =
    let starters_now = starters_are n i graph nodes free starters old c is_graph is hi free_is starters_is in
    step ∙ ap₂ minus_of free_is starters_now
    ∙ filter_filter (is_free i graph nodes old) (λ k. not (has_id (ids_where (starts_now i graph nodes old) n) k)) (ids_below n)
    ∙ filter_range _ (is_free (i + 1) graph nodes old) 0 n (λ q l u.
    let hq : q < n = omega arith in
    ap (λ (b : Bool). is_free i graph nodes old q && not b) (has-filter (starts_now i graph nodes old) n q hq)
    ∙ rest (has_id nodes q) (is_none (find (is_eligible graph old q) (ids_below i))) (is_eligible graph old q i)
    ∙ ap (λ (b : Bool). has_id nodes q && b) (sym (none_more (is_eligible graph old q) 0 i i (omega arith))))
  where
    rest : (a m f : Bool) → (a && m && not (a && m && f)) ≡ (a && (m && not f))
    rest true true true = refl
    rest true true false = refl
    rest true false true = refl
    rest true false false = refl
    rest false m f = refl

pub picked_below-all : (n i : ℕ) (graph : GraphView) (nodes : List ℕ) (old c : CopyTable) → length graph.tasks ≤ i → c ≡ table n (picked_below i graph nodes old) → c ≡ table n (picked graph nodes old)
picked_below-all n i graph nodes old c end is = is ∙ table_same n _ _ (λ t q ht hq. elim (cases_lt t i) [
  | inl low ↦ cond-true (nat_lt t i) _ _ (lt-ltb t i low)
  | inr high ↦
      let none : is_it (pick_of graph old q) t ≡ false = it_is_past (is_eligible graph old q) 0 (length graph.tasks) t (omega arith) in
      cond-false (nat_lt t i) _ _ (le-ltb t i high) ∙ sym (cond-false (picks graph nodes old t q) _ _ (ap (λ (b : Bool). has_id nodes q && is_none (works old q) && b) none ∙ and_no (has_id nodes q && is_none (works old q))))
])
  where
    and_no : (b : Bool) → (b && false) ≡ false
    and_no true = refl
    and_no false = refl

-- ---- nodes at work have no pick

-- the pick of nodes of which those at work are taken out
pub picked_resting : (n : ℕ) (graph : GraphView) (members free : List ℕ) (old : CopyTable) → ((q : ℕ) → q < n → has_id free q ≡ (has_id members q && is_none (works old q)))
    → table n (picked graph free old) ≡ table n (picked graph members old)
picked_resting n graph members free old same = table_same n _ _ (λ t q ht hq.
    ap (λ (b : Bool). if b then Running 1 else copy_at old t q) (ap (λ (b : Bool). b && is_none (works old q) && is_it (pick_of graph old q) t) (same q hq) ∙ twice (has_id members q) (is_none (works old q)) (is_it (pick_of graph old q) t)))
  where
    twice : (a b c : Bool) → (a && b && b && c) ≡ (a && b && c)
    twice true true c = refl
    twice true false c = refl
    twice false b c = refl

-- ---- who may start a task

pub starters_none : (n t : ℕ) (graph : GraphView) (free found : List ℕ) (old : CopyTable) → found ≡ ids_where (λ q. has_id free q && is_open graph old q t) n → found ≡ []
    → found ≡ ids_where (λ q. has_id free q && is_eligible graph old q t) n
starters_none n t graph free found old is none = none ∙ sym (filter_none _ 0 n (λ q l u.
    let off : (has_id free q && is_open graph old q t) ≡ false = sym (has-filter (λ k. has_id free k && is_open graph old k t) n q (omega arith)) ∙ ap (λ (s : List ℕ). has_id s q) (sym is ∙ none) in
    regroup (has_id free q) (is_open graph old q t) (list_all (finished graph old) (task_at graph.tasks t).after) off))
  where
    regroup : (a b c : Bool) → (a && b) ≡ false → (a && (b && c)) ≡ false
    regroup true b c h = rw h refl
    regroup false b c h = refl

pub starters_told : (n t : ℕ) (graph : GraphView) (free : List ℕ) (old : CopyTable) → list_all (finished graph old) (task_at graph.tasks t).after ≡ true
    → ids_where (λ q. has_id free q && is_open graph old q t) n ≡ ids_where (λ q. has_id free q && is_eligible graph old q t) n
starters_told n t graph free old ready = filter_range _ _ 0 n (λ q l u. ap (λ (b : Bool). has_id free q && b) (sym (ap (λ (b : Bool). is_open graph old q t && b) ready ∙ and_yes (is_open graph old q t))))
  where
    and_yes : (b : Bool) → (b && true) ≡ b
    and_yes true = refl
    and_yes false = refl

pub starters_unready : (n t : ℕ) (graph : GraphView) (free : List ℕ) (old : CopyTable) → list_all (finished graph old) (task_at graph.tasks t).after ≡ false
    → [] ≡ ids_where (λ q. has_id free q && is_eligible graph old q t) n
starters_unready n t graph free old unready = sym (filter_none _ 0 n (λ q l u. ap (λ (b : Bool). has_id free q && (is_open graph old q t && b)) unready ∙ no (has_id free q) (is_open graph old q t)))
  where
    no : (a b : Bool) → (a && (b && false)) ≡ false
    no true true = refl
    no true false = refl
    no false b = refl

-- those of the free nodes that are allowed, found among those that are
pub open_found : (n t : ℕ) (graph : GraphView) (free : List ℕ) (old : CopyTable) → found n (λ q. has_id free q && is_idle (copy_at old t q)) (task_at graph.tasks t).nodes
    ≡ ids_where (λ q. has_id free q && is_open graph old q t) n
open_found n t graph free old = found_all n (λ q. has_id free q && is_idle (copy_at old t q)) (λ q. has_id free q && is_open graph old q t) (task_at graph.tasks t).nodes (λ q hq.
    swap (has_id (task_at graph.tasks t).nodes q) (has_id free q) (is_idle (copy_at old t q)))
  where
    swap : (a b c : Bool) → (a && (b && c)) ≡ (b && (a && c))
    swap true true c = refl
    swap true false c = refl
    swap false true c = refl
    swap false false c = refl

-- ---- counting passed copies node by node

-- ---- predecessors

pub all_more : (f : ℕ → Bool) (xs : List ℕ) (i : ℕ) → i < length xs → list_all f (take i xs) ≡ true → f (get_or xs i 0) ≡ true → list_all f (take (i + 1) xs) ≡ true
all_more f xs i l before here = list_all_more f xs i 0 l ∙ ap₂ ◌&&◌ before here

-- a predecessor is a task
pub before_listed : (n : ℕ) (graph : GraphView) (t i : ℕ) → IsGraph n graph → t < length graph.tasks → i < length (task_at graph.tasks t).after → get_or (task_at graph.tasks t).after i 0 < length graph.tasks
before_listed n graph t i is h l = let r = task_ranged graph.nodes graph.tasks is.tasks.in_range t h in r.before _ (has_at (task_at graph.tasks t).after i l)

pub all_taken : (f : ℕ → Bool) (xs : List ℕ) (i : ℕ) → length xs ≤ i → list_all f (take i xs) ≡ true → list_all f xs ≡ true
all_taken f xs i l h = sym (ap (list_all f) (taken xs i l)) ∙ h
  where
    taken : (ys : List ℕ) (j : ℕ) → length ys ≤ j → take j ys ≡ ys
    taken [] zero m = refl
    taken [] (suc j) m = refl
    taken (y ∷ ys) zero m = absurd (omega arith)
    taken (y ∷ ys) (suc j) m = ap (λ (zs : List ℕ). y ∷ zs) (taken ys j (omega arith))
