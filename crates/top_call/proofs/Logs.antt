-- The text of a log is that of its node's lines in the replay of the run.
use Rattle.std.proofs.Common.{◌≡◌, ℕ, zero, suc, ◌+◌, ◌<◌, ◌≤◌, List, ◌++◌, Option, None, Some, arith, refl, sym, ap, ap₂, ◌∙◌}
use Rattle.std.specs.Prelude.{codes, decimal, slice_get, slice_index_or}
use Rattle.std.specs.List.{flat_map, range_with_len}
use Rattle.node_grid.specs.NodeSet.{ids_below}
use Rattle.node_grid.specs.declared.class.Class.TheVariants.{N}
use Rattle.protocol.specs.Cluster.{view}
use Rattle.protocol.specs.Run.{run}
use Rattle.node_steps.specs.Outcome.{Outcome}
use Rattle.node_steps.specs.Stages.{outcome_of}
use Rattle.scenario.specs.Scenario.{system_of}
use Rattle.cluster_periods.specs.Record.{PeriodView}
use Rattle.cluster_periods.specs.RecordLaws.{recorded}
use Rattle.run_text.specs.Text.{class_text}
use Rattle.run_text.specs.PeriodText.{recorded_text, alone_text, end_text}
use Rattle.node_alone.specs.Log.{RecordView}
use Rattle.node_alone.specs.View.{view_alone}
use Rattle.top_call.specs.Alone.{log_printed}
use Rattle.top_call.specs.Laws.{lines_with, lines_of, replayed, IsNodeOfReplay}
use Rattle.top_call.proofs.Rest.{same_texts}

-- texts that are the same below a number are the same one after the other
texts_below : (f g : ℕ → List ℕ) (a n : ℕ) → ((p : ℕ) → a ≤ p → p < a + n → f p ≡ g p) → flat_map f (range_with_len a n) ≡ flat_map g (range_with_len a n)
texts_below f g a zero h = refl
texts_below f g a (suc n) h = ap₂ ◌++◌ (h a (omega arith) (omega arith)) (texts_below f g (a + 1) n (λ p l u. h p (omega arith) (omega arith)))

recorded_is : (t : PeriodView) (i : ℕ) (o : Option Outcome) → recorded_text t i o ≡ lines_with t i (class_text (slice_index_or t.classes i N)) o
recorded_is t i None = refl
recorded_is t i (Some r) = refl

pub node_of_replay : {capacity : ℕ} (log : RecordView capacity) → log.id < log.scenario.config.nodes
    → ((p : ℕ) → p < log.scenario.periods → outcome_of (view_alone log p) ≡ outcome_of (view (run (system_of log.scenario)) log.id p)) → IsNodeOfReplay log
unfolding log_printed
node_of_replay log low same = record {
  each = λ p. same_texts (λ i. recorded_text (replayed log.scenario p) i (slice_get (replayed log.scenario p).records i))
      (λ i. lines_of (replayed log.scenario p) (class_text (slice_index_or (replayed log.scenario p).classes i N)) i)
      (λ i. recorded_is (replayed log.scenario p) i (slice_get (replayed log.scenario p).records i)) (ids_below log.scenario.config.nodes);
  text = ap (λ (text : List ℕ). text ++ end_text log.scenario.periods)
      (texts_below (log_printed log) (λ p. codes "period " ++ decimal p ++ codes "\n" ++ lines_of (replayed log.scenario p) (codes "-") log.id) 0 log.scenario.periods
      (λ p l u. ap (alone_text p log.id log.scenario.config.nodes log.scenario.config.policy.retire) (same p (omega arith))
      ∙ ap (λ (o : Option Outcome). codes "period " ++ decimal p ++ codes "\n" ++ lines_with (replayed log.scenario p) log.id (codes "-") o) (sym (recorded (λ j. outcome_of (view (run (system_of log.scenario)) j p)) log.scenario.config.nodes log.id low))));
}
