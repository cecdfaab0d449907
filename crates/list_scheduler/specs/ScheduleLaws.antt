-- What each part of the schedule keeps of any copies, and that a member that claims as it runs has no verdict.
use Rattle.std.proofs.Common.{◌≡◌, ℕ, ◌+◌, ◌<◌, ◌≤◌, Bool, true, false, not, List, length, Option, None, Some, refl, sym, ap, ap₂, ◌∙◌, inl, inr, arith, eqb-true, eq-eqb, ne_eqb, ltb-true, le-ltb}
use Rattle.std.specs.Prelude.{◌==◌, ◌%◌, nat_lt, nat_le, if◌then◌else◌}
use Rattle.std.proofs.lemmas.Bool.{cases_Bool, cond-true, cond-false, and_parts, both_ways, leb-true, leb-false, lt-leb}
use Rattle.node_grid.specs.Kinds.{no_claim}
use Rattle.node_grid.specs.NodeSet.{ids_below, has_id}
use Rattle.node_grid.specs.ListFacts.{find_passes}
use Rattle.node_grid.specs.TruthFacts.{none_is}
use Rattle.omh_paths.specs.declared.wrapped.Wrapped.{Wrapped}
use Rattle.omh_paths.specs.declared.wrapped.Wrapped.TheVariants.{Plain}
use Rattle.task_graph.specs.Graph.{GraphView, task_at, IsGraph}
use Rattle.task_graph.specs.GraphLaws.{task_ranged, few_tasks, allowed_within}
use Rattle.list_scheduler.specs.declared.copies.CopyState.{CopyState}
use Rattle.list_scheduler.specs.declared.copies.CopyState.TheVariants.{Idle, Running, Passed, Failed}
use Rattle.list_scheduler.specs.declared.schedule.Verdict.{Verdict}
use Rattle.list_scheduler.specs.Copies.{CopyTable, copy_at, table, IsTable, works, IsCopies, MembersRun}
use Rattle.list_scheduler.specs.CopyLaws.{in_table, IsTable-table, works_runs, nothing_runs}
use Rattle.list_scheduler.specs.Schedule.{claims, no_verdict, verdict_at, worked_on, completed_at, completed, left_copy, left, all_idle, frame_ended, is_eligible, pick_of, is_it, picks, picked, first_copies}

-- ---- the tasks' bounds, as each graph has them

pub record IsOrdered (graph : GraphView) : Type 0 where
  pub few : length graph.tasks ≤ 32
  pub ordered : (t : ℕ) → t < length graph.tasks → (0 < (task_at graph.tasks t).min) × ((task_at graph.tasks t).min ≤ (task_at graph.tasks t).max)

pub graph_ordered : (n : ℕ) (graph : GraphView) → IsGraph n graph → IsOrdered graph
graph_ordered n graph is = record {
  few = few_tasks graph.nodes graph.tasks is.tasks.in_range;
  ordered = λ t h. let r = task_ranged graph.nodes graph.tasks is.tasks.in_range t h in (r.least, r.ordered);
}

-- what runs is a task of the graph
pub runs_listed : (graph : GraphView) (copies : CopyTable) (t q e : ℕ) → IsCopies graph copies → copy_at copies t q ≡ Running e → t < length graph.tasks
runs_listed graph copies t q e is h = elim (cases_Bool (has_id (task_at graph.tasks t).nodes q)) [
  | inl on ↦ allowed_within graph.tasks t q on
  | inr off ↦ let z : Running e ≡ Idle = sym h ∙ is.allowed t q off in absurd (let y : ⊥ = cc in y)
]

-- ---- tables of copies as an agreed state may have them

running_in : (n : ℕ) (f : ℕ → ℕ → CopyState) (t q e : ℕ) → copy_at (table n f) t q ≡ Running e → f t q ≡ Running e
running_in n f t q e h = elim (in_table n f t q) [
  | inl p ↦ sym p.0 ∙ h
  | inr i ↦ let z : Running e ≡ Idle = sym h ∙ i in absurd (let y : ⊥ = cc in y)
]

pub table_copies : (n : ℕ) (graph : GraphView) (f : ℕ → ℕ → CopyState) → ((t q : ℕ) → has_id (task_at graph.tasks t).nodes q ≡ false → f t q ≡ Idle)
    → ((t q e : ℕ) → f t q ≡ Running e → (0 < e) × (e ≤ (task_at graph.tasks t).max))
    → ((t u q e g : ℕ) → f t q ≡ Running e → f u q ≡ Running g → t ≡ u)
    → IsCopies graph (table n f)
table_copies n graph f allowed early one = record {
  allowed = λ t q off. elim (in_table n f t q) [ inl p ↦ p.0 ∙ allowed t q off | inr i ↦ i ];
  early = λ t q e h. early t q e (running_in n f t q e h);
  one = λ t u q e g h k. one t u q e g (running_in n f t q e h) (running_in n f u q g k);
}

pub table_members : (n : ℕ) (members : List ℕ) (f : ℕ → ℕ → CopyState) → ((t q e : ℕ) → f t q ≡ Running e → has_id members q ≡ true) → MembersRun members (table n f)
table_members n members f h t q e k = h t q e (running_in n f t q e k)

-- ---- completion

running_one : (x e : ℕ) → Running x ≡ Running e → x ≡ e
running_one x e h = cc

-- a copy that runs after completion ran before it
record Came (graph : GraphView) (c : CopyState) (t e : ℕ) : Type 0 where
  at : ℕ
  was : c ≡ Running at
  bounds : (0 < e) × (e ≤ (task_at graph.tasks t).max)

came_on : (graph : GraphView) (t x e : ℕ) (c : Wrapped ℕ) → IsOrdered graph → t < length graph.tasks → worked_on graph t x c ≡ Running e → (0 < e) × (e ≤ (task_at graph.tasks t).max)
came_on graph t x e c ordered ht h =
    let o = ordered.ordered t ht in
    elim (cases_Bool (claims c t)) [
      | inl says ↦ elim (cases_Bool (nat_lt x (task_at graph.tasks t).min)) [
        | inl soon ↦
            let d : x + 1 ≡ e = running_one _ _ (sym (cond-true (claims c t) _ _ says ∙ cond-true (nat_lt x (task_at graph.tasks t).min) _ _ soon) ∙ h) in
            let l : x < (task_at graph.tasks t).min = ltb-true _ _ soon in
            let m : (task_at graph.tasks t).min ≤ (task_at graph.tasks t).max = o.1 in
            (omega arith, omega arith)
        | inr late ↦ let d : Passed ≡ Running e = sym (cond-true (claims c t) _ _ says ∙ cond-false (nat_lt x (task_at graph.tasks t).min) _ _ late) ∙ h in absurd (let z : ⊥ = cc in z)
      ]
      | inr silent ↦ elim (cases_Bool (nat_lt x (task_at graph.tasks t).max)) [
        | inl soon ↦
            let d : x + 1 ≡ e = running_one _ _ (sym (cond-false (claims c t) _ _ silent ∙ cond-true (nat_lt x (task_at graph.tasks t).max) _ _ soon) ∙ h) in
            let l : x < (task_at graph.tasks t).max = ltb-true _ _ soon in
            (omega arith, omega arith)
        | inr late ↦ let d : Failed ≡ Running e = sym (cond-false (claims c t) _ _ silent ∙ cond-false (nat_lt x (task_at graph.tasks t).max) _ _ late) ∙ h in absurd (let z : ⊥ = cc in z)
      ]
    ]

came_at : (graph : GraphView) (copies : CopyTable) (t q e : ℕ) (c : Wrapped ℕ) → IsOrdered graph → IsCopies graph copies
    → (o : Option (ℕ × ℕ)) → works copies q ≡ o → completed_at graph t (copy_at copies t q) o c ≡ Running e → Came graph (copy_at copies t q) t e
came_at graph copies t q e c ordered is None at h = record { at = e; was = h; bounds = is.early t q e h }
came_at graph copies t q e c ordered is (Some w) at h =
    let r = works_runs copies q w at in
    elim (cases_Bool (t == w.0)) [
      | inl this ↦
          let d : t ≡ w.0 = eqb-true _ _ this in
          let was : copy_at copies t q ≡ Running w.1 = ap (λ (x : ℕ). copy_at copies x q) d ∙ r.0 in
          let k : worked_on graph t w.1 c ≡ Running e = sym (cond-true (t == w.0) _ _ this) ∙ h in
          record { at = w.1; was = was; bounds = came_on graph t w.1 e c ordered (runs_listed graph copies t q w.1 is was) k }
      | inr another ↦ let k : copy_at copies t q ≡ Running e = sym (cond-false (t == w.0) _ _ another) ∙ h in record { at = e; was = k; bounds = is.early t q e k }
    ]

came : (graph : GraphView) (members : List ℕ) (copies : CopyTable) (settled : List (Wrapped ℕ)) (t q e : ℕ) → IsOrdered graph → IsCopies graph copies
    → completed graph members copies settled t q ≡ Running e → Came graph (copy_at copies t q) t e
came graph members copies settled t q e ordered is h = elim (cases_Bool (has_id members q)) [
  | inl on ↦ came_at graph copies t q e _ ordered is (works copies q) refl (sym (cond-true (has_id members q) _ _ on) ∙ h)
  | inr off ↦ let k : copy_at copies t q ≡ Running e = sym (cond-false (has_id members q) _ _ off) ∙ h in record { at = e; was = k; bounds = is.early t q e k }
]

still_idle : (graph : GraphView) (copies : CopyTable) (t q : ℕ) (c : Wrapped ℕ) → copy_at copies t q ≡ Idle → (o : Option (ℕ × ℕ)) → works copies q ≡ o
    → completed_at graph t (copy_at copies t q) o c ≡ Idle
still_idle graph copies t q c idle None at = idle
still_idle graph copies t q c idle (Some w) at =
    let r = works_runs copies q w at in
    elim (cases_Bool (t == w.0)) [
      | inl this ↦ let d : Running w.1 ≡ Idle = sym (ap (λ (x : ℕ). copy_at copies x q) (eqb-true _ _ this) ∙ r.0) ∙ idle in absurd (let z : ⊥ = cc in z)
      | inr another ↦ cond-false (t == w.0) _ _ another ∙ idle
    ]

pub completed_kept : (n : ℕ) (graph : GraphView) (members : List ℕ) (copies : CopyTable) (settled : List (Wrapped ℕ)) → IsOrdered graph → IsCopies graph copies
    → IsCopies graph (table n (completed graph members copies settled))
completed_kept n graph members copies settled ordered is = table_copies n graph (completed graph members copies settled)
    (λ t q off. elim (cases_Bool (has_id members q)) [
      | inl on ↦ cond-true (has_id members q) _ _ on ∙ still_idle graph copies t q _ (is.allowed t q off) (works copies q) refl
      | inr none ↦ cond-false (has_id members q) _ _ none ∙ is.allowed t q off
    ])
    (λ t q e h. (came graph members copies settled t q e ordered is h).bounds)
    (λ t u q e g h k. let r = came graph members copies settled t q e ordered is h in let s = came graph members copies settled u q g ordered is k in is.one t u q r.at s.at r.was s.was)

-- ---- leaving

pub left_still : (c : CopyState) (e : ℕ) → left_copy c ≡ Running e → ⊥
left_still Idle e h = cc
left_still (Running x) e h = cc
left_still Passed e h = cc
left_still Failed e h = cc

left_stays : (after : List ℕ) (copies : CopyTable) (t q e : ℕ) → left after copies t q ≡ Running e → (has_id after q ≡ true) × (copy_at copies t q ≡ Running e)
left_stays after copies t q e h = elim (cases_Bool (has_id after q)) [
  | inl on ↦ (on, sym (cond-true (has_id after q) _ _ on) ∙ h)
  | inr off ↦ absurd (left_still (copy_at copies t q) e (sym (cond-false (has_id after q) _ _ off) ∙ h))
]

pub left_kept : (n : ℕ) (graph : GraphView) (after : List ℕ) (copies : CopyTable) → IsCopies graph copies → IsCopies graph (table n (left after copies))
left_kept n graph after copies is = table_copies n graph (left after copies)
    (λ t q off. elim (cases_Bool (has_id after q)) [
      | inl on ↦ cond-true (has_id after q) _ _ on ∙ is.allowed t q off
      | inr none ↦ cond-false (has_id after q) _ _ none ∙ ap left_copy (is.allowed t q off)
    ])
    (λ t q e h. is.early t q e (left_stays after copies t q e h).1)
    (λ t u q e g h k. is.one t u q e g (left_stays after copies t q e h).1 (left_stays after copies u q g k).1)

-- from then on only members' copies run, whoever ran before
pub left_members : (n : ℕ) (after : List ℕ) (copies : CopyTable) → MembersRun after (table n (left after copies))
left_members n after copies = table_members n after (left after copies) (λ t q e h. (left_stays after copies t q e h).0)

-- ---- the frame's end

pub idle_kept : (n : ℕ) (graph : GraphView) → IsCopies graph (table n all_idle)
idle_kept n graph = table_copies n graph all_idle (λ t q off. refl) (λ t q e h. absurd (let z : ⊥ = cc in z)) (λ t u q e g h k. absurd (let z : ⊥ = cc in z))

pub idle_members : (n : ℕ) (members : List ℕ) → MembersRun members (table n all_idle)
idle_members n members = table_members n members all_idle (λ t q e h. absurd (let z : ⊥ = cc in z))

ended_stays : (frame p : ℕ) (copies : CopyTable) (t q e : ℕ) → frame_ended frame p copies t q ≡ Running e → copy_at copies t q ≡ Running e
ended_stays frame p copies t q e h = elim (cases_Bool ((p + 1) % frame == 0)) [
  | inl on ↦ let d : Idle ≡ Running e = sym (cond-true ((p + 1) % frame == 0) _ _ on) ∙ h in absurd (let z : ⊥ = cc in z)
  | inr off ↦ sym (cond-false ((p + 1) % frame == 0) _ _ off) ∙ h
]

pub ended_kept : (n : ℕ) (graph : GraphView) (frame p : ℕ) (copies : CopyTable) → IsCopies graph copies → IsCopies graph (table n (frame_ended frame p copies))
ended_kept n graph frame p copies is = table_copies n graph (frame_ended frame p copies)
    (λ t q off. elim (cases_Bool ((p + 1) % frame == 0)) [
      | inl on ↦ cond-true ((p + 1) % frame == 0) _ _ on
      | inr none ↦ cond-false ((p + 1) % frame == 0) _ _ none ∙ is.allowed t q off
    ])
    (λ t q e h. is.early t q e (ended_stays frame p copies t q e h))
    (λ t u q e g h k. is.one t u q e g (ended_stays frame p copies t q e h) (ended_stays frame p copies u q g k))

pub ended_members : (n frame p : ℕ) (members : List ℕ) (copies : CopyTable) → MembersRun members copies → MembersRun members (table n (frame_ended frame p copies))
ended_members n frame p members copies run = table_members n members (frame_ended frame p copies) (λ t q e h. run t q e (ended_stays frame p copies t q e h))

-- ---- the pick

is_it_is : (o : Option ℕ) (t : ℕ) → is_it o t ≡ true → o ≡ Some t
is_it_is None t h = cc
is_it_is (Some x) t h = ap Some (eqb-true x t h)

-- what is known of a node's pick
pub record Picks (graph : GraphView) (members : List ℕ) (copies : CopyTable) (t q : ℕ) : Type 0 where
  pub member : has_id members q ≡ true
  pub free : works copies q ≡ None
  pub least : pick_of graph copies q ≡ Some t
  pub eligible : is_eligible graph copies q t ≡ true

pub picks_is : (graph : GraphView) (members : List ℕ) (copies : CopyTable) (t q : ℕ) → picks graph members copies t q ≡ true → Picks graph members copies t q
picks_is graph members copies t q h =
    let a = and_parts _ _ h in
    let b = and_parts _ _ a.0 in
    let e = is_it_is _ t a.1 in
    record { member = b.0; free = none_is _ b.1; least = e; eligible = find_passes (is_eligible graph copies q) (ids_below (length graph.tasks)) t e }

eligible_allowed : (graph : GraphView) (copies : CopyTable) (q t : ℕ) → is_eligible graph copies q t ≡ true → has_id (task_at graph.tasks t).nodes q ≡ true
eligible_allowed graph copies q t h = (and_parts _ _ (and_parts _ _ h).0).0

-- a copy that runs after the pick: it was picked, or it ran before
data Ran (graph : GraphView) (members : List ℕ) (copies : CopyTable) (t q e : ℕ) : Type 0 where
  New : Picks graph members copies t q → e ≡ 1 → Ran graph members copies t q e
  Old : copy_at copies t q ≡ Running e → Ran graph members copies t q e

ran : (graph : GraphView) (members : List ℕ) (copies : CopyTable) (t q e : ℕ) → picked graph members copies t q ≡ Running e → Ran graph members copies t q e
ran graph members copies t q e h = elim (cases_Bool (picks graph members copies t q)) [
  | inl on ↦
      let d : 1 ≡ e = running_one _ _ (sym (cond-true (picks graph members copies t q) _ _ on) ∙ h) in
      New (picks_is graph members copies t q on) (sym d)
  | inr off ↦ Old (sym (cond-false (picks graph members copies t q) _ _ off) ∙ h)
]

pub picked_kept : (n : ℕ) (graph : GraphView) (members : List ℕ) (copies : CopyTable) → IsOrdered graph → IsCopies graph copies → IsCopies graph (table n (picked graph members copies))
picked_kept n graph members copies ordered is = table_copies n graph (picked graph members copies)
    (λ t q off. cond-false (picks graph members copies t q) _ _ (not_picked t q off (picks graph members copies t q) refl) ∙ is.allowed t q off)
    (λ t q e h. early t q e (ran graph members copies t q e h))
    (λ t u q e g h k. both t u q e g (ran graph members copies t q e h) (ran graph members copies u q g k))
  where
    not_picked : (t q : ℕ) → has_id (task_at graph.tasks t).nodes q ≡ false → (b : Bool) → picks graph members copies t q ≡ b → picks graph members copies t q ≡ false
    not_picked t q off false e = e
    not_picked t q off true e =
        let p = picks_is graph members copies t q e in
        absurd (both_ways _ off (eligible_allowed graph copies q t p.eligible))

    early : (t q e : ℕ) → Ran graph members copies t q e → (0 < e) × (e ≤ (task_at graph.tasks t).max)
    early t q e (New p one) =
        let o = ordered.ordered t (allowed_within graph.tasks t q (eligible_allowed graph copies q t p.eligible)) in
        let l = o.0 in
        let m = o.1 in
        (omega arith, omega arith)
    early t q e (Old was) = is.early t q e was

    listed : (t q e : ℕ) → copy_at copies t q ≡ Running e → t < 32
    listed t q e was = let l = runs_listed graph copies t q e is was in let f = ordered.few in omega arith

    both : (t u q e g : ℕ) → Ran graph members copies t q e → Ran graph members copies u q g → t ≡ u
    both t u q e g (New p one) (New r one2) = let z : Some t ≡ Some u = sym p.least ∙ r.least in cc
    both t u q e g (New p one) (Old was) = absurd (nothing_runs copies q u g p.free (listed u q g was) was)
    both t u q e g (Old was) (New r one) = absurd (nothing_runs copies q t e r.free (listed t q e was) was)
    both t u q e g (Old was) (Old was2) = is.one t u q e g was was2

pub picked_members : (n : ℕ) (graph : GraphView) (members : List ℕ) (copies : CopyTable) → MembersRun members copies → MembersRun members (table n (picked graph members copies))
picked_members n graph members copies run = table_members n members (picked graph members copies) (λ t q e h. by_ran t q e (ran graph members copies t q e h))
  where
    by_ran : (t q e : ℕ) → Ran graph members copies t q e → has_id members q ≡ true
    by_ran t q e (New p one) = p.member
    by_ran t q e (Old was) = run t q e was

-- ---- the copies of the first state

pub first_kept : (n : ℕ) (graph : GraphView) (members : List ℕ) → IsOrdered graph → IsCopies graph (first_copies n graph members)
unfolding first_copies
first_kept n graph members ordered = picked_kept n graph members (table n all_idle) ordered (idle_kept n graph)

pub first_members : (n : ℕ) (graph : GraphView) (members : List ℕ) → MembersRun members (first_copies n graph members)
unfolding first_copies
first_members n graph members = picked_members n graph members (table n all_idle) (idle_members n members)

pub first_shape : (n : ℕ) (graph : GraphView) (members : List ℕ) → IsTable n (first_copies n graph members)
unfolding first_copies
first_shape n graph members = IsTable-table n _

-- ---- no verdict on a member that claims as it runs

-- of a node at work: what the graph and the copies say, where its run time lies within the task's bounds
pub record AtWork (graph : GraphView) (run_time : ℕ → ℕ) (w : ℕ × ℕ) : Type 0 where
  pub few : w.0 < 255
  pub least : (task_at graph.tasks w.0).min ≤ run_time w.0
  pub most : run_time w.0 ≤ (task_at graph.tasks w.0).max
  pub early : w.1 ≤ (task_at graph.tasks w.0).max

verdict_of : Bool → Bool → Verdict
verdict_of a b = record { claim = a; overrun = b }

-- it claims its task from its run time on
pub full_claim : (graph : GraphView) (run_time : ℕ → ℕ) (w : ℕ × ℕ) → AtWork graph run_time w → (c : ℕ) → c ≡ (if nat_le (run_time w.0) w.1 then w.0 else no_claim) → verdict_at graph (Some w) (Plain c) ≡ no_verdict
unfolding verdict_of
full_claim graph run_time w at c is = elim (cases_Bool (nat_le (run_time w.0) w.1)) [
  | inl late ↦
      let e : c ≡ w.0 = is ∙ cond-true (nat_le (run_time w.0) w.1) _ _ late in
      let l = leb-true _ _ late in
      let m = at.least in
      cond-true (c == w.0) _ _ (eq-eqb c w.0 e) ∙ ap (λ b. verdict_of b false) (le-ltb _ _ (omega arith))
  | inr soon ↦
      let e : c ≡ 255 = is ∙ cond-false (nat_le (run_time w.0) w.1) _ _ soon in
      let l = leb-false _ _ soon in
      let m = at.most in
      let f = at.few in
      let high : w.1 < (task_at graph.tasks w.0).max = omega arith in
      cond-false (c == w.0) _ _ (ne_eqb c w.0 (λ d. absurd (omega arith))) ∙ ap₂ verdict_of (ap not (eq-eqb c 255 e)) (lt-leb _ _ high)
]
