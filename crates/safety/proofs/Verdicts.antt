-- No verdict on what a full member claims.
use Rattle.std.proofs.Common.{ℕ, ◌≡◌, ◌≤◌, true, List, length, Option, None, Some, refl, ap, ◌∙◌, inl, inr, arith}
use Rattle.std.specs.Prelude.{slice_index}
use Rattle.std.proofs.lemmas.Bool.{cases_Bool, cases_lt, cond-true, cond-false}
use Rattle.node_grid.specs.NodeSet.{has_id}
use Rattle.omh_paths.specs.declared.wrapped.Wrapped.{Wrapped}
use Rattle.omh_paths.specs.declared.wrapped.Wrapped.TheVariants.{Plain}
use Rattle.task_graph.specs.Graph.{GraphView, task_at, IsGraph}
use Rattle.list_scheduler.specs.Copies.{works}
use Rattle.list_scheduler.specs.CopyLaws.{works_runs}
use Rattle.list_scheduler.specs.Schedule.{claim_of, no_verdict, verdict_at, verdict}
use Rattle.list_scheduler.specs.ScheduleLaws.{AtWork, full_claim}
use Rattle.agreed_state.specs.declared.config.Inputs.{Inputs}
use Rattle.agreed_state.specs.Config.{IsInputs}
use Rattle.agreed_state.specs.Agreed.{AgreedView, IsAgreed}
use Rattle.protocol.specs.View.{Setting, claim_at, own_claim}
use Rattle.protocol.specs.ClaimLaws.{listed_task}

claims_fine : (graph : GraphView) (run : List ℕ) (o : Option (ℕ × ℕ)) → ((w : ℕ × ℕ) → o ≡ Some w → AtWork graph (slice_index run) w) → verdict_at graph o (Plain (claim_at run o)) ≡ no_verdict
claims_fine graph run None at = refl
claims_fine graph run (Some w) at = full_claim graph (slice_index run) w (at w refl) (claim_at run (Some w)) refl

-- a graph has at most 32 tasks
pub few_tasks : {capacity : ℕ} {g : GraphView} → IsGraph capacity g → length g.tasks ≤ 32
few_tasks {capacity} {g} graph = elim (cases_lt 32 (length g.tasks)) [
  | inl many ↦ absurd (graph.tasks.in_range 32 (many, refl))
  | inr few ↦ omega arith
]

-- what a full member claims brings it no verdict
pub no_verdict_on : (s : Setting) (i : ℕ) (g : Inputs) (a : AgreedView) (done : List (Wrapped ℕ)) → IsInputs s.config.graph i g → IsAgreed s.capacity s.config a → length s.config.graph.tasks ≤ 32
    → (has_id a.standing.members i ≡ true → claim_of done i ≡ Plain (own_claim i g a))
    → verdict s.config.graph a.standing.members a.copies done i ≡ no_verdict
no_verdict_on s i g a done inputs state many stands = elim (cases_Bool (has_id a.standing.members i)) [
  | inl on ↦
      cond-true (has_id a.standing.members i) _ _ on
      ∙ ap (verdict_at s.config.graph (works a.copies i)) (stands on ∙ ap Plain (cond-true (has_id a.standing.members i) _ _ on))
      ∙ claims_fine s.config.graph g.run (works a.copies i) (λ w e.
      let r = (works_runs a.copies i w e).0 in
      let some = state.copies.early w.0 i w.1 r in
      let low = listed_task s.config.graph w.0 (omega arith) in
      let allowed : has_id (task_at s.config.graph.tasks w.0).nodes i ≡ true = elim (cases_Bool (has_id (task_at s.config.graph.tasks w.0).nodes i)) [
        | inl is ↦ is
        | inr isnt ↦ let c = state.copies.allowed w.0 i isnt in let d = r in cc
      ] in
      let least = inputs.least w.0 low allowed in let most = inputs.most w.0 low allowed in
      record { few = omega arith; least = least; most = most; early = some.1 })
  | inr off ↦ cond-false (has_id a.standing.members i) _ _ off
]
