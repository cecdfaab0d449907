-- A whole period, from its parts.
use Rattle.std.proofs.Common.{◌≡◌, ℕ, ◌+◌, ◌%◌, ◌<◌, Bool, true, false, not, ◌&&◌, List, Option, None, Some, refl, sym, ap, subst, ◌∙◌, inl, inr}
use Rattle.std.specs.Prelude.{◌==◌, is_none, is_some}
use Rattle.std.proofs.lemmas.Bool.{cases_lt, cond-true, cond-false}
use Rattle.node_grid.specs.NodeSet.{has_id, ids_below, ids_where, minus_of, IsIdSet}
use Rattle.node_grid.specs.NodeSetLaws.{filter_filter, has-filter, hasnt-above, passes_where}
use Rattle.node_grid.specs.TruthFacts.{none_is}
use Rattle.omh_paths.specs.declared.wrapped.Wrapped.{Wrapped}
use Rattle.task_graph.specs.Graph.{GraphView}
use Rattle.list_scheduler.specs.Copies.{CopyTable, copy_at, table, running, works, IsCopies}
use Rattle.list_scheduler.specs.CopyLaws.{in_table, table_same, IsTable-table, works_none}
use Rattle.list_scheduler.specs.Schedule.{completed, left, all_idle, frame_ended, picked, copies_after}
use Rattle.list_scheduler.specs.ScheduleLaws.{IsOrdered, completed_kept, left_kept}
use Rattle.list_scheduler.specs.ByTask.{moved}
use Rattle.list_scheduler.proofs.Moving.{moved_gone}
use Rattle.list_scheduler.proofs.Picking.{picked_resting}

-- moved copies are copies as an agreed state may have them
pub moved_kept : (n : ℕ) (graph : GraphView) (before after : List ℕ) (old : CopyTable) (settled : List (Wrapped ℕ)) → IsOrdered graph → IsCopies graph old → IsCopies graph (table n (moved graph before after old settled))
moved_kept n graph before after old settled ordered is =
    subst (IsCopies graph) (sym (moved_gone n graph before after old settled is))
    (left_kept n graph after (table n (completed graph before old settled)) (completed_kept n graph before old settled ordered is))

-- nothing works where all is idle
pub idle_rests : (n q : ℕ) (c : CopyTable) → c ≡ table n all_idle → works c q ≡ None
idle_rests n q c is = ap (λ (x : CopyTable). works x q) is ∙ works_none (table n all_idle) q (λ u h. elim (in_table n all_idle u q) [ inl p ↦ ap running p.0 | inr idle ↦ ap running idle ])

-- the members that don't work
not_at_work : (o : Option (ℕ × ℕ)) → not (is_some o) ≡ is_none o
not_at_work None = refl
not_at_work (Some w) = refl

pub has_resting : (n q : ℕ) (after busy : List ℕ) (c : CopyTable) → IsIdSet n after → busy ≡ ids_where (λ r. is_some (works c r)) n → q < n → has_id (minus_of after busy) q ≡ (has_id after q && is_none (works c q))
has_resting n q after busy c set is hq =
    ap (λ (s : List ℕ). has_id (minus_of s busy) q) set
    ∙ ap (λ (s : List ℕ). has_id s q) (filter_filter (λ k. has_id after k) (λ k. not (has_id busy k)) (ids_below n))
    ∙ has-filter (λ k. has_id after k && not (has_id busy k)) n q hq
    ∙ ap (λ (b : Bool). has_id after q && b) (ap not (ap (λ (s : List ℕ). has_id s q) is ∙ has-filter (λ r. is_some (works c r)) n q hq) ∙ not_at_work (works c q))

pub rests_after : (n q : ℕ) (after busy : List ℕ) (c : CopyTable) → IsIdSet n after → busy ≡ ids_where (λ r. is_some (works c r)) n → has_id (minus_of after busy) q ≡ true → works c q ≡ None
rests_after n q after busy c set is on = elim (cases_lt q n) [
  | inl hq ↦ none_is (works c q) (second (has_id after q) (is_none (works c q)) (sym (has_resting n q after busy c set is hq) ∙ on))
  | inr high ↦
      let same : minus_of after busy ≡ ids_where (λ k. has_id after k && not (has_id busy k)) n =
      ap (λ (s : List ℕ). minus_of s busy) set ∙ filter_filter (λ k. has_id after k) (λ k. not (has_id busy k)) (ids_below n) in
      let member : has_id after q ≡ true = first (has_id after q) (not (has_id busy q)) (passes_where (λ k. has_id after k && not (has_id busy k)) n q (ap (λ (s : List ℕ). has_id s q) (sym same) ∙ on)) in
      let off : has_id after q ≡ false = hasnt-above n after q set high in
      absurd (let z : true ≡ false = sym member ∙ off in let y : ⊥ = cc in y)
]
  where
    first : (a b : Bool) → (a && b) ≡ true → a ≡ true
    first true b h = refl
    first false b h = h

    second : (a b : Bool) → (a && b) ≡ true → b ≡ true
    second true b h = h
    second false b h = absurd (let y : ⊥ = cc in y)

-- a period at a frame's end
pub after_frame : (n : ℕ) (graph : GraphView) (frame p : ℕ) (before after : List ℕ) (old c new : CopyTable) (settled : List (Wrapped ℕ)) → ((p + 1) % frame == 0) ≡ true → c ≡ table n all_idle
    → new ≡ table n (picked graph after c) → new ≡ copies_after n graph frame p before after old settled
unfolding copies_after
after_frame n graph frame p before after old c new settled ends is step =
    let gone : CopyTable = table n (left after (table n (completed graph before old settled))) in
    step ∙ ap (λ (x : CopyTable). table n (picked graph after x)) (is ∙ table_same n all_idle (frame_ended frame p gone) (λ t q ht hq. sym (cond-true ((p + 1) % frame == 0) _ _ ends)))

-- and one within a frame
pub after_period : (n : ℕ) (graph : GraphView) (frame p : ℕ) (before after busy nodes : List ℕ) (old c new : CopyTable) (settled : List (Wrapped ℕ)) → ((p + 1) % frame == 0) ≡ false → IsCopies graph old → IsIdSet n after
    → c ≡ table n (moved graph before after old settled) → busy ≡ ids_where (λ q. is_some (works c q)) n → nodes ≡ minus_of after busy
    → new ≡ table n (picked graph nodes c) → new ≡ copies_after n graph frame p before after old settled
unfolding copies_after
after_period n graph frame p before after busy nodes old c new settled goes copies set is work rest step =
    let gone : CopyTable = table n (left after (table n (completed graph before old settled))) in
    let over : gone ≡ table n (frame_ended frame p gone) =
    IsTable-table n (left after (table n (completed graph before old settled))) ∙ table_same n (copy_at gone) (frame_ended frame p gone) (λ t q ht hq. sym (cond-false ((p + 1) % frame == 0) _ _ goes)) in
    step ∙ picked_resting n graph after nodes c (λ q hq. ap (λ (s : List ℕ). has_id s q) rest ∙ has_resting n q after busy c set work hq)
    ∙ ap (λ (x : CopyTable). table n (picked graph after x)) (is ∙ moved_gone n graph before after old settled copies ∙ over)
