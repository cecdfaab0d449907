-- What the record of a period has of a node in use.
use Rattle.std.proofs.Common.{◌≡◌, ℕ, zero, suc, ◌+◌, ◌<◌, ◌≤◌, Bool, true, Some, sym, ap, ◌∙◌, inl, inr, arith, lt-ltb}
use Rattle.std.specs.Prelude.{nat_lt, slice_get, slice_index_or}
use Rattle.std.specs.List.{find, range_with_len}
use Rattle.std.proofs.lemmas.Bool.{cases_Bool, cond-true, cond-false}
use Rattle.std.proofs.lemmas.List.FromFn.{get_or-map-range_with_len}
use Rattle.node_grid.specs.declared.class.Class.TheVariants.{N}
use Rattle.node_grid.specs.NodeSet.{ids_below}
use Rattle.protocol.specs.Run.{run, classes}
use Rattle.protocol.specs.Cluster.{view}
use Rattle.node_steps.specs.Stages.{outcome_of}
use Rattle.scenario.specs.Scenario.{ScenarioView, system_of}
use Rattle.cluster_periods.specs.Record.{class_shown}
use Rattle.cluster_periods.specs.RecordLaws.{recorded}
use Rattle.run_judged.specs.Rows.{period_of}

pub class_is : {capacity : ℕ} (sc : ScenarioView capacity) (p j : ℕ) → sc.config.nodes ≤ capacity → j < sc.config.nodes
    → slice_index_or (period_of sc p).classes j N ≡ classes (system_of sc) p j
class_is {capacity} sc p j fits low =
    get_or-map-range_with_len (class_shown (system_of sc) p) 0 capacity j j N (omega arith) (omega arith)
    ∙ cond-true (nat_lt j sc.config.nodes) (classes (system_of sc) p j) N (lt-ltb j sc.config.nodes low)

pub outcome_is : {capacity : ℕ} (sc : ScenarioView capacity) (p j : ℕ) → j < sc.config.nodes
    → slice_get (period_of sc p).records j ≡ Some (outcome_of (view (run (system_of sc)) j p))
outcome_is sc p j low = recorded (λ i. outcome_of (view (run (system_of sc)) i p)) sc.config.nodes j low

found_in : (f : ℕ → Bool) (a n r : ℕ) → find f (range_with_len a n) ≡ Some r → (f r ≡ true) × (r < a + n)
found_in f a zero r e = cc
found_in f a (suc n) r e = elim (cases_Bool (f a)) [
  | inl on ↦
      let s : Some a ≡ Some r = sym (cond-true (f a) (Some a) (find f (range_with_len (a + 1) n)) on) ∙ e in
      let same : a ≡ r = cc in
      (ap f (sym same) ∙ on, omega arith)
  | inr off ↦
      let rest = found_in f (a + 1) n r (sym (cond-false (f a) (Some a) (find f (range_with_len (a + 1) n)) off) ∙ e) in
      let low = rest.1 in
      (rest.0, omega arith)
]

-- the reference node is nonfaulty, and in use
pub found_below : (f : ℕ → Bool) (n r : ℕ) → find f (ids_below n) ≡ Some r → (f r ≡ true) × (r < n)
found_below f n r e = let found = found_in f 0 n r e in let low = found.1 in (found.0, omega arith)
