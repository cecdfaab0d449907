-- A period's copies are completed, and fail outside the members, task by task.
use Rattle.std.proofs.Common.{◌≡◌, ℕ, zero, suc, ◌+◌, ◌<◌, ◌≤◌, Bool, true, false, ◌&&◌, ◌||◌, List, [], ◌∷◌, ◌++◌, length, Option, None, Some, refl, sym, ap, ◌∙◌, inl, inr, arith, eqb-true, eq-eqb, ne_eqb}
use Rattle.std.specs.Prelude.{◌==◌, nat_lt, is_some, if◌then◌else◌}
use Rattle.std.specs.List.{range_with_len}
use Rattle.std.proofs.lemmas.Bool.{cases_Bool, cases_eq, cases_lt, cond-true, cond-false, and_from, lt-ltb, le-ltb}
use Rattle.node_grid.specs.NodeSet.{has_id, ids_below}
use Rattle.omh_paths.specs.declared.wrapped.Wrapped.{Wrapped}
use Rattle.task_graph.specs.Graph.{GraphView, task_at}
use Rattle.task_graph.specs.Facts.{allowed_past}
use Rattle.list_scheduler.specs.declared.copies.CopyState.{CopyState}
use Rattle.list_scheduler.specs.declared.copies.CopyState.TheVariants.{Idle, Running, Passed, Failed}
use Rattle.list_scheduler.specs.Copies.{CopyTable, copy_at, table, IsTable, with_copy, running, at_work, works_among, works, IsCopies}
use Rattle.list_scheduler.specs.CopyLaws.{at_table, in_table, table_same, put_copy, works_runs, nothing_runs}
use Rattle.list_scheduler.specs.Schedule.{claim_of, worked_on, completed_at, completed, left_copy, left}
use Rattle.list_scheduler.specs.ByTask.{claimed, moved_state, moved, moved_task}
use Rattle.list_scheduler.proofs.Members.{has_this, has_other}

-- ---- a row's copies, node by node

-- the copies of a task on these nodes as f says, all others as they were
abbrev pub among : ℕ → List ℕ → (ℕ → ℕ → CopyState) → CopyTable → ℕ → ℕ → CopyState
among task ys f old t q = if (t == task) && has_id ys q then f t q else copy_at old t q

pub among_none : (n task : ℕ) (f : ℕ → ℕ → CopyState) (old : CopyTable) → IsTable n old → old ≡ table n (among task [] f old)
among_none n task f old shape = shape ∙ table_same n (copy_at old) (among task [] f old) (λ t q ht hq. sym (cond-false ((t == task) && has_id [] q) _ _ (and_no (t == task))))
  where
    and_no : (b : Bool) → (b && false) ≡ false
    and_no true = refl
    and_no false = refl

-- the copy of a node that wasn't yielded
pub among_fresh : (n task node : ℕ) (ys : List ℕ) (f : ℕ → ℕ → CopyState) (old c : CopyTable) → c ≡ table n (among task ys f old) → task < 32 → node < n → has_id ys node ≡ false → copy_at c task node ≡ copy_at old task node
among_fresh n task node ys f old c is ht hq fresh =
    ap (λ (x : CopyTable). copy_at x task node) is ∙ at_table n (among task ys f old) task node ht hq
    ∙ cond-false ((task == task) && has_id ys node) _ _ (rw (eq-eqb task task refl, fresh) refl)

pub among_more : (n task node : ℕ) (ys : List ℕ) (f : ℕ → ℕ → CopyState) (old c new : CopyTable) (s : CopyState) → c ≡ table n (among task ys f old) → s ≡ f task node → new ≡ table n (with_copy c task node s)
    → new ≡ table n (among task (ys ++ node ∷ []) f old)
among_more n task node ys f old c new s is says step = step ∙ put_copy n c (among task ys f old) (among task (ys ++ node ∷ []) f old) task node s is
    (λ t q ht hq d e. rw (d, e) (cond-true ((task == task) && has_id (ys ++ node ∷ []) node) _ _ (and_from _ _ (eq-eqb task task refl) (has_this ys node)) ∙ sym says))
    (λ t q ht hq ne. elim (cases_Bool (t == task)) [
      | inl on ↦
          let other : (node == q) ≡ false = ne_eqb node q (λ d. ne (eqb-true t task on) (sym d)) in
          ap (λ (b : Bool). if (t == task) && b then f t q else copy_at old t q) (has_other ys node q other)
      | inr off ↦ rw off refl
    ])

-- ---- one copy

pub moved_still : (graph : GraphView) (t : ℕ) (was stays : Bool) (c : Wrapped ℕ) (copy : CopyState) → ((e : ℕ) → copy ≡ Running e → ⊥) → moved_state graph t was stays c copy ≡ copy
moved_still graph t was stays c (Running e) h = absurd (h e refl)
moved_still graph t true true c Idle h = refl
moved_still graph t true false c Idle h = refl
moved_still graph t false true c Idle h = refl
moved_still graph t false false c Idle h = refl
moved_still graph t true true c Passed h = refl
moved_still graph t true false c Passed h = refl
moved_still graph t false true c Passed h = refl
moved_still graph t false false c Passed h = refl
moved_still graph t true true c Failed h = refl
moved_still graph t true false c Failed h = refl
moved_still graph t false true c Failed h = refl
moved_still graph t false false c Failed h = refl

pub moved_idle : (graph : GraphView) (before after : List ℕ) (copies : CopyTable) (settled : List (Wrapped ℕ)) (t q : ℕ) → copy_at copies t q ≡ Idle → moved graph before after copies settled t q ≡ Idle
moved_idle graph before after copies settled t q idle = moved_still graph t (has_id before q) (has_id after q) (claim_of settled q) (copy_at copies t q) (λ e h. absurd (let z : Running e ≡ Idle = sym h ∙ idle in let y : ⊥ = cc in y)) ∙ idle

pub rests : (c : CopyState) → ((e : ℕ) → c ≡ Running e → ⊥) → is_some (running c) ≡ false
rests Idle h = refl
rests (Running e) h = absurd (h e refl)
rests Passed h = refl
rests Failed h = refl

pub same_copy : (n : ℕ) (c : CopyTable) (task node : ℕ) (s : CopyState) → IsTable n c → s ≡ copy_at c task node → c ≡ table n (with_copy c task node s)
same_copy n c task node s shape same = shape ∙ sym (put_copy n c (copy_at c) (copy_at c) task node s shape (λ t q ht hq d e. rw (d, e) (sym same)) (λ t q ht hq ne. refl))

-- what a copy's move leaves, told by the copies before all moves
pub moved_told : (graph : GraphView) (before after : List ℕ) (old c : CopyTable) (settled : List (Wrapped ℕ)) (t node : ℕ) (was stays : Bool) (claim : Wrapped ℕ)
    → was ≡ has_id before node → stays ≡ has_id after node → claim ≡ claim_of settled node → copy_at c t node ≡ copy_at old t node
    → moved_state graph t was stays claim (copy_at c t node) ≡ moved graph before after old settled t node
moved_told graph before after old c settled t node was stays claim a b d e = rw (a, b, d, e) refl

-- where all nodes are yielded that the task allows, all copies of the task are moved
pub among_all : (n t : ℕ) (graph : GraphView) (before after : List ℕ) (old c : CopyTable) (settled : List (Wrapped ℕ)) → ((q : ℕ) → has_id (task_at graph.tasks t).nodes q ≡ false → copy_at old t q ≡ Idle)
    → c ≡ table n (among t (task_at graph.tasks t).nodes (moved graph before after old settled) old) → c ≡ table n (moved_task t graph before after old settled)
among_all n t graph before after old c settled idle is = is ∙ table_same n _ _ (λ u q hu hq. elim (cases_Bool (u == t)) [
  | inl on ↦
      let e : u ≡ t = eqb-true u t on in
      rw on (rw e (elim (cases_Bool (has_id (task_at graph.tasks t).nodes q)) [
        | inl on2 ↦ cond-true (has_id (task_at graph.tasks t).nodes q) _ _ on2
        | inr off ↦ cond-false (has_id (task_at graph.tasks t).nodes q) _ _ off ∙ idle q off ∙ sym (moved_idle graph before after old settled t q (idle q off))
      ]))
  | inr off ↦ rw off refl
])

-- and no other node runs the task
pub runs_only : (t q : ℕ) (graph : GraphView) (before after : List ℕ) (old : CopyTable) (settled : List (Wrapped ℕ)) → ((r : ℕ) → has_id (task_at graph.tasks t).nodes r ≡ false → copy_at old t r ≡ Idle)
    → (has_id (task_at graph.tasks t).nodes q && is_some (running (moved graph before after old settled t q))) ≡ is_some (running (moved graph before after old settled t q))
runs_only t q graph before after old settled idle = elim (cases_Bool (has_id (task_at graph.tasks t).nodes q)) [
  | inl on ↦ rw on refl
  | inr off ↦ rw off (sym (ap (λ (x : CopyState). is_some (running x)) (moved_idle graph before after old settled t q (idle q off))))
]

-- ---- completion copy by copy, where at most one copy runs on a node

-- a copy that doesn't run isn't the one that its node works at
apart : (copies : CopyTable) (t q : ℕ) (w : ℕ × ℕ) (x : CopyState) → copy_at copies t q ≡ x → ((e : ℕ) → x ≡ Running e → ⊥) → copy_at copies w.0 q ≡ Running w.1 → (t == w.0) ≡ false
apart copies t q w x at still runs = ne_eqb t w.0 (λ d. still w.1 (sym at ∙ ap (λ (u : ℕ). copy_at copies u q) d ∙ runs))

claimed_at : (graph : GraphView) (copies : CopyTable) (t q : ℕ) (c : Wrapped ℕ) → IsCopies graph copies → t < 32 → (x : CopyState) → copy_at copies t q ≡ x → (o : Option (ℕ × ℕ)) → works copies q ≡ o
    → completed_at graph t x o c ≡ claimed graph t c x
claimed_at graph copies t q c is ht (Running e) at None none = absurd (nothing_runs copies q t e none ht at)
claimed_at graph copies t q c is ht (Running e) at (Some w) some =
    let r = works_runs copies q w some in
    let same : t ≡ w.0 = is.one t w.0 q e w.1 at r.0 in
    let z : Running w.1 ≡ Running e = sym (ap (λ (x : ℕ). copy_at copies x q) same ∙ r.0) ∙ at in
    let k : w.1 ≡ e = inside w.1 e z in
    cond-true (t == w.0) _ _ (eq-eqb t w.0 same) ∙ ap (λ (x : ℕ). worked_on graph t x c) k
  where
    inside : (a b : ℕ) → Running a ≡ Running b → a ≡ b
    inside a b h = cc
claimed_at graph copies t q c is ht Idle at None none = refl
claimed_at graph copies t q c is ht Idle at (Some w) some = cond-false (t == w.0) _ _ (apart copies t q w Idle at (λ e h. absurd (let y : ⊥ = cc in y)) (works_runs copies q w some).0)
claimed_at graph copies t q c is ht Passed at None none = refl
claimed_at graph copies t q c is ht Passed at (Some w) some = cond-false (t == w.0) _ _ (apart copies t q w Passed at (λ e h. absurd (let y : ⊥ = cc in y)) (works_runs copies q w some).0)
claimed_at graph copies t q c is ht Failed at None none = refl
claimed_at graph copies t q c is ht Failed at (Some w) some = cond-false (t == w.0) _ _ (apart copies t q w Failed at (λ e h. absurd (let y : ⊥ = cc in y)) (works_runs copies q w some).0)

pub moved_gone : (n : ℕ) (graph : GraphView) (before after : List ℕ) (copies : CopyTable) (settled : List (Wrapped ℕ)) → IsCopies graph copies
    → table n (moved graph before after copies settled) ≡ table n (left after (table n (completed graph before copies settled)))
moved_gone n graph before after copies settled is = table_same n _ _ (λ t q ht hq.
    let done : copy_at (table n (completed graph before copies settled)) t q ≡ (if has_id before q then claimed graph t (claim_of settled q) (copy_at copies t q) else copy_at copies t q) =
    at_table n (completed graph before copies settled) t q ht hq
    ∙ ap (λ (x : CopyState). if has_id before q then x else copy_at copies t q) (claimed_at graph copies t q (claim_of settled q) is ht (copy_at copies t q) refl (works copies q) refl) in
    ap (λ (x : CopyState). if has_id after q then x else left_copy x) (sym done))

-- ---- task by task

-- the copies of tasks below i are moved
abbrev pub moved_below : ℕ → GraphView → List ℕ → List ℕ → CopyTable → List (Wrapped ℕ) → ℕ → ℕ → CopyState
moved_below i graph before after old settled t q = if nat_lt t i then moved graph before after old settled t q else copy_at old t q

pub moved_below-none : (n : ℕ) (graph : GraphView) (before after : List ℕ) (old : CopyTable) (settled : List (Wrapped ℕ)) → IsTable n old → old ≡ table n (moved_below 0 graph before after old settled)
moved_below-none n graph before after old settled shape =
    shape ∙ table_same n (copy_at old) (moved_below 0 graph before after old settled) (λ t q ht hq. sym (cond-false (nat_lt t 0) _ _ (le-ltb _ _ (omega arith))))

-- the copies of task i are as they were
pub moved_below-here : (n i q : ℕ) (graph : GraphView) (before after : List ℕ) (old c : CopyTable) (settled : List (Wrapped ℕ)) → c ≡ table n (moved_below i graph before after old settled) → i < 32 → q < n
    → copy_at c i q ≡ copy_at old i q
moved_below-here n i q graph before after old c settled is hi hq =
    ap (λ (x : CopyTable). copy_at x i q) is ∙ at_table n _ i q hi hq ∙ cond-false (nat_lt i i) _ _ (le-ltb _ _ (omega arith))

pub moved_below-idle : (n i q : ℕ) (graph : GraphView) (before after : List ℕ) (old c : CopyTable) (settled : List (Wrapped ℕ)) → IsCopies graph old → c ≡ table n (moved_below i graph before after old settled)
    → has_id (task_at graph.tasks i).nodes q ≡ false → copy_at c i q ≡ Idle
moved_below-idle n i q graph before after old c settled copies is off =
    ap (λ (x : CopyTable). copy_at x i q) is ∙ elim (in_table n (moved_below i graph before after old settled) i q) [
      | inl p ↦ p.0 ∙ cond-false (nat_lt i i) _ _ (le-ltb _ _ (omega arith)) ∙ copies.allowed i q off
      | inr idle ↦ idle
    ]

-- so that they are moved as all others
pub moves_here : (n i q : ℕ) (graph : GraphView) (before after : List ℕ) (old c : CopyTable) (settled : List (Wrapped ℕ)) → c ≡ table n (moved_below i graph before after old settled) → i < 32 → q < n
    → moved graph before after c settled i q ≡ copy_at (table n (moved graph before after old settled)) i q
moves_here n i q graph before after old c settled is hi hq =
    ap (λ (x : CopyState). moved_state graph i (has_id before q) (has_id after q) (claim_of settled q) x) (moved_below-here n i q graph before after old c settled is hi hq)
    ∙ sym (at_table n (moved graph before after old settled) i q hi hq)

pub moved_below-more : (n i : ℕ) (graph : GraphView) (before after : List ℕ) (old c new : CopyTable) (settled : List (Wrapped ℕ)) → c ≡ table n (moved_below i graph before after old settled) → i < 32
    → new ≡ table n (moved_task i graph before after c settled) → new ≡ table n (moved_below (i + 1) graph before after old settled)
moved_below-more n i graph before after old c new settled is hi step = step ∙ table_same n _ _ (λ t q ht hq. elim (cases_eq t i) [
  | inl same ↦
      let here : copy_at c i q ≡ copy_at old i q = moved_below-here n i q graph before after old c settled is hi hq in
      cond-true (t == i) _ _ (eq-eqb t i same)
      ∙ rw same (ap (λ (x : CopyState). moved_state graph i (has_id before q) (has_id after q) (claim_of settled q) x) here)
      ∙ sym (cond-true (nat_lt t (i + 1)) _ _ (lt-ltb _ _ (omega arith)))
  | inr other ↦
      cond-false (t == i) _ _ (ne_eqb t i other) ∙ ap (λ (x : CopyTable). copy_at x t q) is ∙ at_table n _ t q ht hq
      ∙ ap (λ (b : Bool). if b then moved graph before after old settled t q else copy_at old t q) (below t other)
])
  where
    below : (t : ℕ) → (t ≡ i → ⊥) → nat_lt t i ≡ nat_lt t (i + 1)
    below t ne = elim (cases_lt t i) [
      | inl low ↦ lt-ltb t i low ∙ sym (lt-ltb t (i + 1) (omega arith))
      | inr high ↦ let above : i < t = omega arith in le-ltb t i high ∙ sym (le-ltb t (i + 1) (omega arith))
    ]

pub moved_below-all : (n i : ℕ) (graph : GraphView) (before after : List ℕ) (old c : CopyTable) (settled : List (Wrapped ℕ)) → IsCopies graph old → length graph.tasks ≤ i
    → c ≡ table n (moved_below i graph before after old settled) → c ≡ table n (moved graph before after old settled)
moved_below-all n i graph before after old c settled copies end is = is ∙ table_same n _ _ (λ t q ht hq. elim (cases_lt t i) [
  | inl low ↦ cond-true (nat_lt t i) _ _ (lt-ltb t i low)
  | inr high ↦
      let idle : copy_at old t q ≡ Idle = copies.allowed t q (allowed_past graph t q (omega arith)) in
      cond-false (nat_lt t i) _ _ (le-ltb t i high) ∙ idle ∙ sym (moved_idle graph before after old settled t q idle)
])

-- ---- who works, task by task

one_works : (c : CopyTable) (q a : ℕ) (o : Option ℕ) → is_some (at_work a o None) ≡ (false || is_some o)
one_works c q a None = refl
one_works c q a (Some e) = refl

first_works : (a : ℕ) (o : Option ℕ) (w v : Option (ℕ × ℕ)) (b : Bool) → is_some w ≡ (is_some v || b) → is_some (at_work a o w) ≡ (is_some (at_work a o v) || b)
first_works a None w v b h = h
first_works a (Some e) w v b h = refl

works_among-more : (c : CopyTable) (q a i k : ℕ) → a + i ≡ k → is_some (works_among c q (range_with_len a (i + 1))) ≡ (is_some (works_among c q (range_with_len a i)) || is_some (running (copy_at c k q)))
works_among-more c q a zero k e = let d : a ≡ k = omega arith in one_works c q a (running (copy_at c a q)) ∙ ap (λ (x : ℕ). false || is_some (running (copy_at c x q))) d
works_among-more c q a (suc i) k e = let d : suc i + 1 ≡ suc (i + 1) = omega arith in rw d (first_works a (running (copy_at c a q)) _ _ _ (works_among-more c q (a + 1) i k (omega arith)))

pub works_below-more : (c : CopyTable) (q i : ℕ) → is_some (works_among c q (ids_below (i + 1))) ≡ (is_some (works_among c q (ids_below i)) || is_some (running (copy_at c i q)))
works_below-more c q i = works_among-more c q 0 i i (omega arith)

none_among : (c : CopyTable) (q a m : ℕ) → ((u : ℕ) → a ≤ u → running (copy_at c u q) ≡ None) → works_among c q (range_with_len a m) ≡ None
none_among c q a zero none = refl
none_among c q a (suc m) none = ap (λ (o : Option ℕ). at_work a o (works_among c q (range_with_len (a + 1) m))) (none a (omega arith)) ∙ none_among c q (a + 1) m (λ u l. none u (omega arith))

works_front : (c : CopyTable) (q a i m : ℕ) → i ≤ m → ((u : ℕ) → a + i ≤ u → running (copy_at c u q) ≡ None) → works_among c q (range_with_len a m) ≡ works_among c q (range_with_len a i)
works_front c q a zero m l none = none_among c q a m (λ u k. none u (omega arith))
works_front c q a (suc i) zero l none = absurd (omega arith)
works_front c q a (suc i) (suc m) l none = ap (at_work a (running (copy_at c a q))) (works_front c q (a + 1) i m (omega arith) (λ u k. none u (omega arith)))

-- behind the tasks nothing works
pub works_tasks : (graph : GraphView) (c : CopyTable) (q i : ℕ) → IsCopies graph c → length graph.tasks ≤ i → i ≤ 32 → works_among c q (ids_below i) ≡ works c q
unfolding works
works_tasks graph c q i is end few = sym (works_front c q 0 i 32 few (λ u h. ap running (is.allowed u q (allowed_past graph u q (omega arith)))))
