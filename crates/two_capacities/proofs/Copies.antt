-- Tables of copies with places for further nodes, on which all is idle.
use Rattle.std.proofs.Common.{ℕ, zero, suc, ◌≡◌, ◌<◌, ◌≤◌, ◌+◌, Bool, true, false, ◌&&◌, ◌==◌, List, [], ◌∷◌, ◌++◌, map, length, replicate, refl, sym, ap, ◌∙◌, inr}
use Rattle.std.proofs.Math.Path.{fun_ext}
use Rattle.std.specs.Prelude.{if◌then◌else◌, nat_le, is_none, ◌%◌}
use Rattle.std.specs.List.{list_all, find}
use Rattle.node_grid.specs.NodeSet.{ids_below, has_id}
use Rattle.node_grid.specs.Count.{count}
use Rattle.omh_paths.specs.declared.wrapped.Wrapped.{Wrapped}
use Rattle.task_graph.specs.Graph.{GraphView, task_at, most_tasks}
use Rattle.list_scheduler.specs.declared.copies.CopyState.{CopyState}
use Rattle.list_scheduler.specs.declared.copies.CopyState.TheVariants.{Idle, Running}
use Rattle.list_scheduler.specs.Copies.{CopyTable, copy_at, table, is_passed, is_idle, running, at_work, works_among, works}
use Rattle.list_scheduler.specs.Schedule.{claim_of, no_verdict, verdict_at, verdict, completed_at, completed, left_copy, left, all_idle, frame_ended, finished, is_eligible, pick_of, is_it, picked, copies_completed, copies_after, first_copies}
use Rattle.agreed_state.specs.Tables.{past_table}
use Rattle.two_capacities.specs.Wider.{wide_copies}
use Rattle.two_capacities.proofs.Lists.{get_padded, map_twice, tab_padded}

pub copy_wide : (k : ℕ) (copies : CopyTable) (t q : ℕ) → copy_at (wide_copies k copies) t q ≡ copy_at copies t q
copy_wide k [] t q = refl
copy_wide k (row ∷ rows) zero q = get_padded row k Idle q
copy_wide k (row ∷ rows) (suc t) q = copy_wide k rows t q

pub copies_wide : (k : ℕ) (copies : CopyTable) → copy_at (wide_copies k copies) ≡ copy_at copies
copies_wide k copies = fun_ext (λ t. fun_ext (copy_wide k copies t))

-- all is idle from node c on
abbrev pub IsNarrow : ℕ → CopyTable → Type 0
IsNarrow c copies = (t q : ℕ) → c ≤ q → copy_at copies t q ≡ Idle

pub table_narrow : (c : ℕ) (f : ℕ → ℕ → CopyState) → IsNarrow c (table c f)
table_narrow c f t q h = past_table c f t q (inr h)

pub table_wide : (f g : ℕ → ℕ → CopyState) (c k : ℕ) → ((t q : ℕ) → q < c → g t q ≡ f t q) → ((t q : ℕ) → c ≤ q → g t q ≡ Idle) → table (c + k) g ≡ wide_copies k (table c f)
unfolding table
table_wide f g c k same rest =
    ap (λ (h : ℕ → List CopyState). map h (ids_below most_tasks)) (fun_ext (λ t. tab_padded (f t) (g t) Idle c k (same t) (rest t)))
    ∙ sym (map_twice (λ row. row ++ replicate k Idle) (λ t. map (f t) (ids_below c)) (ids_below most_tasks))

-- ---- what depends on a table by its copies alone

module _ (a b : CopyTable) (same : copy_at a ≡ copy_at b) where
  at_same : (t q : ℕ) → copy_at a t q ≡ copy_at b t q
  at_same t q = ap (λ (f : ℕ → ℕ → CopyState). f t q) same

  among_same : (q : ℕ) (ts : List ℕ) → works_among a q ts ≡ works_among b q ts
  among_same q [] = refl
  among_same q (t ∷ ts) = ap (λ x. at_work t (running x) (works_among a q ts)) (at_same t q) ∙ ap (at_work t (running (copy_at b t q))) (among_same q ts)

  pub works_same : (q : ℕ) → works a q ≡ works b q
  unfolding works
  works_same q = among_same q (ids_below most_tasks)

  pub finished_same : (graph : GraphView) (t : ℕ) → finished graph a t ≡ finished graph b t
  finished_same graph t = ap (λ (f : ℕ → ℕ → CopyState). nat_le (task_at graph.tasks t).need (count (λ q. is_passed (f t q)) (ids_below graph.nodes))) same

  eligible_same : (graph : GraphView) (q t : ℕ) → is_eligible graph a q t ≡ is_eligible graph b q t
  eligible_same graph q t =
      ap (λ x. has_id (task_at graph.tasks t).nodes q && is_idle x && list_all (finished graph a) (task_at graph.tasks t).after) (at_same t q)
      ∙ ap (λ (f : ℕ → Bool). has_id (task_at graph.tasks t).nodes q && is_idle (copy_at b t q) && list_all f (task_at graph.tasks t).after) (fun_ext (finished_same graph))

  pick_same : (graph : GraphView) (q : ℕ) → pick_of graph a q ≡ pick_of graph b q
  pick_same graph q = ap (λ (f : ℕ → Bool). find f (ids_below (length graph.tasks))) (fun_ext (eligible_same graph q))

  pub picked_same : (graph : GraphView) (members : List ℕ) (t q : ℕ) → picked graph members a t q ≡ picked graph members b t q
  picked_same graph members t q =
      ap (λ w. if has_id members q && is_none w && is_it (pick_of graph a q) t then Running 1 else copy_at a t q) (works_same q)
      ∙ ap (λ p. if has_id members q && is_none (works b q) && is_it p t then Running 1 else copy_at a t q) (pick_same graph q)
      ∙ ap (λ x. if has_id members q && is_none (works b q) && is_it (pick_of graph b q) t then Running 1 else x) (at_same t q)

  pub left_same : (members : List ℕ) (t q : ℕ) → left members a t q ≡ left members b t q
  left_same members t q = ap (λ x. if has_id members q then x else left_copy x) (at_same t q)

  pub ended_same : (frame p t q : ℕ) → frame_ended frame p a t q ≡ frame_ended frame p b t q
  ended_same frame p t q = ap (λ x. if (p + 1) % frame == 0 then Idle else x) (at_same t q)

  module _ (graph : GraphView) (members : List ℕ) (x y : List (Wrapped ℕ)) (claims : (q : ℕ) → claim_of x q ≡ claim_of y q) where
    pub completed_same : (t q : ℕ) → completed graph members a x t q ≡ completed graph members b y t q
    completed_same t q =
        ap (λ c. if has_id members q then completed_at graph t c (works a q) (claim_of x q) else c) (at_same t q)
        ∙ ap (λ w. if has_id members q then completed_at graph t (copy_at b t q) w (claim_of x q) else copy_at b t q) (works_same q)
        ∙ ap (λ c. if has_id members q then completed_at graph t (copy_at b t q) (works b q) c else copy_at b t q) (claims q)

    pub verdict_same : (q : ℕ) → verdict graph members a x q ≡ verdict graph members b y q
    verdict_same q =
        ap (λ w. if has_id members q then verdict_at graph w (claim_of x q) else no_verdict) (works_same q)
        ∙ ap (λ c. if has_id members q then verdict_at graph (works b q) c else no_verdict) (claims q)

-- ---- a period's step

-- none of the members is node c or behind it
abbrev pub AreBelow : ℕ → List ℕ → Type 0
AreBelow c members = (q : ℕ) → c ≤ q → has_id members q ≡ false

module _ (c k : ℕ) (graph : GraphView) where
  module _ (members : List ℕ) (below : AreBelow c members) where
    pub picked_wide : (a : CopyTable) → IsNarrow c a → table (c + k) (picked graph members (wide_copies k a)) ≡ wide_copies k (table c (picked graph members a))
    picked_wide a narrow =
        table_wide (picked graph members a) (picked graph members (wide_copies k a)) c k (λ t q h. same t q)
        (λ t q h. same t q ∙ ap (λ m. if m && is_none (works a q) && is_it (pick_of graph a q) t then Running 1 else copy_at a t q) (below q h) ∙ narrow t q h)
      where
        same : (t q : ℕ) → picked graph members (wide_copies k a) t q ≡ picked graph members a t q
        same = picked_same (wide_copies k a) a (copies_wide k a) graph members

    pub left_wide : (a : CopyTable) → IsNarrow c a → table (c + k) (left members (wide_copies k a)) ≡ wide_copies k (table c (left members a))
    left_wide a narrow =
        table_wide (left members a) (left members (wide_copies k a)) c k (λ t q h. same t q)
        (λ t q h. same t q ∙ ap (λ m. if m then copy_at a t q else left_copy (copy_at a t q)) (below q h) ∙ ap left_copy (narrow t q h))
      where
        same : (t q : ℕ) → left members (wide_copies k a) t q ≡ left members a t q
        same = left_same (wide_copies k a) a (copies_wide k a) members

    pub completed_wide : (a : CopyTable) (x y : List (Wrapped ℕ)) → ((q : ℕ) → claim_of x q ≡ claim_of y q) → IsNarrow c a
        → table (c + k) (completed graph members (wide_copies k a) x) ≡ wide_copies k (table c (completed graph members a y))
    completed_wide a x y claims narrow =
        table_wide (completed graph members a y) (completed graph members (wide_copies k a) x) c k (λ t q h. same t q)
        (λ t q h. same t q ∙ ap (λ m. if m then completed_at graph t (copy_at a t q) (works a q) (claim_of y q) else copy_at a t q) (below q h) ∙ narrow t q h)
      where
        same : (t q : ℕ) → completed graph members (wide_copies k a) x t q ≡ completed graph members a y t q
        same = completed_same (wide_copies k a) a (copies_wide k a) graph members x y claims

  pub ended_wide : (frame p : ℕ) (a : CopyTable) → IsNarrow c a → table (c + k) (frame_ended frame p (wide_copies k a)) ≡ wide_copies k (table c (frame_ended frame p a))
  ended_wide frame p a narrow =
      table_wide (frame_ended frame p a) (frame_ended frame p (wide_copies k a)) c k (λ t q h. same t q) (λ t q h. same t q ∙ idle ((p + 1) % frame == 0) (copy_at a t q) (narrow t q h))
    where
      same : (t q : ℕ) → frame_ended frame p (wide_copies k a) t q ≡ frame_ended frame p a t q
      same = ended_same (wide_copies k a) a (copies_wide k a) frame p

      idle : (b : Bool) (x : CopyState) → x ≡ Idle → (if b then Idle else x) ≡ Idle
      idle true x h = refl
      idle false x h = h

  pub after_wide : (frame p : ℕ) (before after : List ℕ) (a : CopyTable) (x y : List (Wrapped ℕ)) → AreBelow c before → AreBelow c after → ((q : ℕ) → claim_of x q ≡ claim_of y q) → IsNarrow c a
      → copies_after (c + k) graph frame p before after (wide_copies k a) x ≡ wide_copies k (copies_after c graph frame p before after a y)
  unfolding copies_after
  after_wide frame p before after a x y below_before below_after claims narrow =
      let done = table c (completed graph before a y) in
      let gone = table c (left after done) in
      let over = table c (frame_ended frame p gone) in
      ap (λ d. table (c + k) (picked graph after (table (c + k) (frame_ended frame p (table (c + k) (left after d)))))) (completed_wide before below_before a x y claims narrow)
      ∙ ap (λ d. table (c + k) (picked graph after (table (c + k) (frame_ended frame p d)))) (left_wide after below_after done (table_narrow c (completed graph before a y)))
      ∙ ap (λ d. table (c + k) (picked graph after d)) (ended_wide frame p gone (table_narrow c (left after done)))
      ∙ picked_wide after below_after over (table_narrow c (frame_ended frame p gone))

  pub after_narrow : (frame p : ℕ) (before after : List ℕ) (a : CopyTable) (y : List (Wrapped ℕ)) → IsNarrow c (copies_after c graph frame p before after a y)
  unfolding copies_after
  after_narrow frame p before after a y = table_narrow c _

  pub done_wide : (before : List ℕ) (a : CopyTable) (x y : List (Wrapped ℕ)) → AreBelow c before → ((q : ℕ) → claim_of x q ≡ claim_of y q) → IsNarrow c a
      → copies_completed (c + k) graph before (wide_copies k a) x ≡ wide_copies k (copies_completed c graph before a y)
  unfolding copies_completed
  done_wide before a x y below claims narrow = completed_wide before below a x y claims narrow

  pub first_wide : (members : List ℕ) → AreBelow c members → first_copies (c + k) graph members ≡ wide_copies k (first_copies c graph members)
  unfolding first_copies
  first_wide members below =
      ap (λ d. table (c + k) (picked graph members d)) (table_wide all_idle all_idle c k (λ t q h. refl) (λ t q h. refl))
      ∙ picked_wide members below (table c all_idle) (table_narrow c all_idle)

  pub first_narrow : (members : List ℕ) → IsNarrow c (first_copies c graph members)
  unfolding first_copies
  first_narrow members = table_narrow c _
