-- Lemmas for callers: a node's own claim is in the range of the grammar.
use Rattle.std.proofs.Common.{ℕ, ◌≡◌, ◌<◌, Bool, true, false, length, Option, None, Some, refl, sym, ap, subst, inl, inr, arith}
use Rattle.std.specs.Prelude.{nat_le, if◌then◌else◌, slice_index}
use Rattle.std.proofs.lemmas.Bool.{cases_Bool, cases_lt, cond-true, cond-false}
use Rattle.std.proofs.lemmas.List.{get_or_past}
use Rattle.node_grid.specs.Kinds.{no_claim}
use Rattle.node_grid.specs.NodeSet.{has_id}
use Rattle.frames.specs.Content.{IsClaim}
use Rattle.task_graph.specs.Graph.{GraphView, task_at, no_task}
use Rattle.list_scheduler.specs.Copies.{works}
use Rattle.list_scheduler.specs.CopyLaws.{works_runs}
use Rattle.agreed_state.specs.declared.config.Inputs.{Inputs}
use Rattle.agreed_state.specs.Agreed.{AgreedView, IsAgreed}
use Rattle.protocol.specs.View.{Setting, claim_at, own_claim}

-- a running copy is one of a listed task
pub listed_task : (graph : GraphView) (t : ℕ) → 0 < (task_at graph.tasks t).max → t < length graph.tasks
listed_task graph t h = elim (cases_lt t (length graph.tasks)) [
  | inl low ↦ low
  | inr high ↦ let e : (task_at graph.tasks t).max ≡ 0 = ap (λ (x : _). x.max) (get_or_past graph.tasks t no_task high) in absurd (omega arith)
]

pub own_claim_fits : (s : Setting) (i : ℕ) (g : Inputs) (a : AgreedView) → IsAgreed s.capacity s.config a → IsClaim (length s.config.graph.tasks) (own_claim i g a)
own_claim_fits s i g a valid = elim (cases_Bool (has_id a.standing.members i)) [
  | inl on ↦ subst (IsClaim (length s.config.graph.tasks)) (sym (cond-true (has_id a.standing.members i) _ _ on)) (by_work (works a.copies i) refl)
  | inr off ↦ subst (IsClaim (length s.config.graph.tasks)) (sym (cond-false (has_id a.standing.members i) (claim_at g.run (works a.copies i)) no_claim off)) (inl refl)
]
  where
    by_time : (b : Bool) (t : ℕ) → t < length s.config.graph.tasks → IsClaim (length s.config.graph.tasks) (if b then t else no_claim)
    by_time true t low = inr low
    by_time false t low = inl refl

    by_work : (o : Option (ℕ × ℕ)) → works a.copies i ≡ o → IsClaim (length s.config.graph.tasks) (claim_at g.run o)
    by_work None e = inl refl
    by_work (Some w) e =
        let r = (works_runs a.copies i w e).0 in
        let some = valid.copies.early w.0 i w.1 r in
        let low = listed_task s.config.graph w.0 (omega arith) in
        by_time (nat_le (slice_index g.run w.0) w.1) w.0 low
