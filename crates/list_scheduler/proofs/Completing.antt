-- Completion goes member by member.
use Rattle.std.proofs.Common.{◌≡◌, ℕ, ◌<◌, Bool, false, ◌≤◌, List, [], ◌∷◌, ◌++◌, length, set, Option, None, Some, refl, sym, ap, ap₂, ◌∙◌, inl, inr, arith, eqb-true, eq-eqb, ne_eqb}
use Rattle.std.specs.Prelude.{◌==◌, if◌then◌else◌, replicate}
use Rattle.std.proofs.lemmas.Bool.{cases_Bool, cases_lt, cond-true, cond-false, eqb-false}
use Rattle.node_grid.specs.NodeSet.{has_id}
use Rattle.omh_paths.specs.declared.wrapped.Wrapped.{Wrapped}
use Rattle.task_graph.specs.Graph.{GraphView}
use Rattle.list_scheduler.specs.declared.copies.CopyState.{CopyState}
use Rattle.list_scheduler.specs.declared.schedule.Verdict.{Verdict}
use Rattle.list_scheduler.specs.Copies.{CopyTable, copy_at, table, IsTable, with_copy, works, running, IsCopies}
use Rattle.list_scheduler.specs.declared.copies.CopyState.TheVariants.{Idle, Running, Passed, Failed}
use Rattle.list_scheduler.specs.CopyLaws.{at_table, table_same, put_copy, works_same, works_runs, works_none, map_range, map_same, set_map_range}
use Rattle.list_scheduler.specs.ScheduleLaws.{runs_listed}
use Rattle.list_scheduler.specs.Schedule.{claim_of, no_verdict, verdict_at, verdict, worked_on, completed_at, completed}
use Rattle.list_scheduler.specs.OneNode.{completed_by, verdicts}
use Rattle.list_scheduler.proofs.Members.{IsNext, has_this, has_other}

completed_told : (graph : GraphView) (xs ys : List ℕ) (old : CopyTable) (settled : List (Wrapped ℕ)) (t q : ℕ) → has_id xs q ≡ has_id ys q → completed graph xs old settled t q ≡ completed graph ys old settled t q
completed_told graph xs ys old settled t q h = ap (λ (b : Bool). if b then completed_at graph t (copy_at old t q) (works old q) (claim_of settled q) else copy_at old t q) h

-- a member that wasn't yielded has its old copies
column : (n : ℕ) (graph : GraphView) (ys : List ℕ) (old c : CopyTable) (settled : List (Wrapped ℕ)) (node : ℕ) → c ≡ table n (completed graph ys old settled) → IsNext n ys node
    → (t : ℕ) → t < 32 → copy_at c t node ≡ copy_at old t node
column n graph ys old c settled node is next t ht =
    ap (λ (x : CopyTable). copy_at x t node) is ∙ at_table n (completed graph ys old settled) t node ht next.within ∙ cond-false (has_id ys node) _ _ next.fresh

pub completed_more : (n : ℕ) (graph : GraphView) (ys : List ℕ) (old c new : CopyTable) (settled : List (Wrapped ℕ)) (node : ℕ) (claim : Wrapped ℕ)
    → c ≡ table n (completed graph ys old settled) → IsNext n ys node → claim ≡ claim_of settled node → new ≡ table n (completed_by graph node c claim)
    → new ≡ table n (completed graph (ys ++ node ∷ []) old settled)
completed_more n graph ys old c new settled node claim is next says step = step ∙ table_same n _ _ (λ t q ht hq. elim (cases_Bool (q == node)) [
  | inl on ↦
      let e : q ≡ node = eqb-true q node on in
      let mine : copy_at c t node ≡ copy_at old t node = column n graph ys old c settled node is next t ht in
      let work : works c node ≡ works old node = works_same c old node (column n graph ys old c settled node is next) in
      cond-true (q == node) _ _ on
      ∙ rw (e, mine, work, says) (sym (cond-true (has_id (ys ++ node ∷ []) node) _ _ (has_this ys node)))
  | inr off ↦
      let ne : (node == q) ≡ false = ne_eqb node q (λ d. eqb-false q node off (sym d)) in
      cond-false (q == node) _ _ off
      ∙ ap (λ (x : CopyTable). copy_at x t q) is ∙ at_table n (completed graph ys old settled) t q ht hq
      ∙ completed_told graph ys (ys ++ node ∷ []) old settled t q (sym (has_other ys node q ne))
])

-- ---- verdicts

verdict_told : (graph : GraphView) (xs ys : List ℕ) (old : CopyTable) (settled : List (Wrapped ℕ)) (q : ℕ) → has_id xs q ≡ has_id ys q → verdict graph xs old settled q ≡ verdict graph ys old settled q
verdict_told graph xs ys old settled q h = ap (λ (b : Bool). if b then verdict_at graph (works old q) (claim_of settled q) else no_verdict) h

pub verdicts_more : (n : ℕ) (graph : GraphView) (ys : List ℕ) (old c : CopyTable) (settled : List (Wrapped ℕ)) (node : ℕ) (claim : Wrapped ℕ) (vs : List Verdict) (v : Verdict)
    → c ≡ table n (completed graph ys old settled) → IsNext n ys node → claim ≡ claim_of settled node → v ≡ verdict_at graph (works c node) claim → vs ≡ verdicts n graph ys old settled
    → set vs node v ≡ verdicts n graph (ys ++ node ∷ []) old settled
verdicts_more n graph ys old c settled node claim vs v is next says found so_far =
    let work : works c node ≡ works old node = works_same c old node (column n graph ys old c settled node is next) in
    let this : v ≡ verdict_at graph (works old node) (claim_of settled node) = found ∙ ap₂ (verdict_at graph) work says in
    ap (λ (xs : List Verdict). set xs node v) so_far
    ∙ set_map_range (verdict graph ys old settled) 0 n node node v next.within (omega arith)
    ∙ map_range _ _ 0 n (λ q l h. elim (cases_Bool (q == node)) [
      | inl on ↦
          let e : q ≡ node = eqb-true q node on in
          cond-true (q == node) _ _ on ∙ this ∙ rw e (sym (cond-true (has_id (ys ++ node ∷ []) node) _ _ (has_this ys node)))
      | inr off ↦
          let ne : (node == q) ≡ false = ne_eqb node q (λ d. eqb-false q node off (sym d)) in
          cond-false (q == node) _ _ off ∙ verdict_told graph ys (ys ++ node ∷ []) old settled q (sym (has_other ys node q ne))
    ])

-- ---- one member's part

pub completed_by_none : (n : ℕ) (graph : GraphView) (node : ℕ) (old : CopyTable) (claim : Wrapped ℕ) → IsTable n old → works old node ≡ None → old ≡ table n (completed_by graph node old claim)
completed_by_none n graph node old claim shape none = shape ∙ table_same n _ _ (λ t q ht hq. elim (cases_Bool (q == node)) [
  | inl on ↦
      let e : q ≡ node = eqb-true q node on in
      sym (cond-true (q == node) _ _ on ∙ ap (λ (o : Option (ℕ × ℕ)). completed_at graph t (copy_at old t q) o claim) (ap (works old) e ∙ none))
  | inr off ↦ sym (cond-false (q == node) _ _ off)
])

pub completed_by_some : (n : ℕ) (graph : GraphView) (node task e : ℕ) (old new : CopyTable) (claim : Wrapped ℕ) (s : CopyState) → IsTable n old → works old node ≡ Some (task, e)
    → s ≡ worked_on graph task e claim → new ≡ table n (with_copy old task node s) → new ≡ table n (completed_by graph node old claim)
completed_by_some n graph node task e old new claim s shape some is step = step ∙ put_copy n old (copy_at old) (completed_by graph node old claim) task node s shape
    (λ t q ht hq d k. rw (d, k) (
    cond-true (node == node) _ _ (eq-eqb node node refl)
    ∙ ap (λ (o : Option (ℕ × ℕ)). completed_at graph task (copy_at old task node) o claim) some
    ∙ cond-true (task == task) _ _ (eq-eqb task task refl)
    ∙ sym is
    ))
    (λ t q ht hq ne. elim (cases_Bool (q == node)) [
      | inl on ↦
          let k : q ≡ node = eqb-true q node on in
          let other : (t == task) ≡ false = ne_eqb t task (λ d. ne d k) in
          cond-true (q == node) _ _ on
          ∙ ap (λ (o : Option (ℕ × ℕ)). completed_at graph t (copy_at old t q) o claim) (ap (works old) k ∙ some)
          ∙ cond-false (t == task) _ _ other
      | inr off ↦ cond-false (q == node) _ _ off
    ])

-- what a node works at is a task of the graph
pub works_listed : (graph : GraphView) (copies : CopyTable) (q t e : ℕ) → IsCopies graph copies → works copies q ≡ Some (t, e) → t < length graph.tasks
works_listed graph copies q t e is h = let r = works_runs copies q (t, e) h in runs_listed graph copies t q e is r.0

-- where none of the graph's tasks runs, none does
pub works_within : (graph : GraphView) (copies : CopyTable) (q : ℕ) → IsCopies graph copies → ((u : ℕ) → u < length graph.tasks → running (copy_at copies u q) ≡ None) → works copies q ≡ None
works_within graph copies q is none = works_none copies q (λ u h. elim (cases_lt u (length graph.tasks)) [
  | inl l ↦ none u l
  | inr m ↦ past u m (copy_at copies u q) refl
])
  where
    past : (u : ℕ) → length graph.tasks ≤ u → (c : CopyState) → copy_at copies u q ≡ c → running c ≡ None
    past u m Idle e = refl
    past u m Passed e = refl
    past u m Failed e = refl
    past u m (Running k) e = absurd (omega (arith, runs_listed graph copies u q k is e))

pub works_few : (copies : CopyTable) (q t e : ℕ) → works copies q ≡ Some (t, e) → t < 32
works_few copies q t e h = (works_runs copies q (t, e) h).1

pub verdicts_none : (n : ℕ) (graph : GraphView) (old : CopyTable) (settled : List (Wrapped ℕ)) (v : Verdict) → v ≡ no_verdict → replicate n v ≡ verdicts n graph [] old settled
verdicts_none n graph old settled v is = ap (replicate n) is ∙ sym (map_same no_verdict 0 n)
