-- What is written of a period that was worked out for all nodes together is its printed text.
use Rattle.std.proofs.Common.{◌≡◌, ℕ, ◌+◌, ◌<◌, ◌≤◌, ◌⊎◌, inl, inr, true, false, List, [], ◌++◌, Option, Result, Err, refl, sym, ap, subst, ◌∙◌, append_assoc}
use Rattle.std.specs.List.{flat_map}
use Rattle.node_grid.specs.NodeSet.{ids_below}
use Rattle.span_io.specs.Causes.{Writes}
use Rattle.task_graph.specs.GraphLaws.{few_tasks}
use Rattle.scenario.specs.Scenario.{ScenarioView, system_of}
use Rattle.cluster_periods.specs.Record.{period_record}
use Rattle.run_text.specs.PeriodText.{head_text, end_text}
use Rattle.shown_period.specs.declared.shown.Shown.{Shown}
use Rattle.shown_period.specs.Whole.{record_of}
use Rattle.run_print.specs.declared.printer.Printer.{Printer}
use Rattle.run_print.specs.Printing.{Printed, Prints, Finishes}
use Rattle.run_print.proofs.Joining.{begun, broken}
use Rattle.run_print.specs.Example.{untraced_text, IsPrintable}
use Rattle.run_print.specs.ExampleLaws.{untraced_is, idle_from}
use Rattle.at_once.specs.Run.{ShowsPeriod, FitsScenario}
use Rattle.top_call.specs.declared.form.Form.{Form}
use Rattle.top_call.specs.declared.form.Form.TheVariants.{Replay, Trace, Check}
use Rattle.top_call.specs.Run.{has_frames, printed}
use Rattle.top_call.proofs.Rest.{rest_text, rest-first, rest-next, rest-last}

module _ {N : ℕ} (sc : ScenarioView N) (p : ℕ) (shown : Shown N) (form : Form) where
  pub printed_head : form ≡ Check → ShowsPeriod sc p shown → head_text (record_of shown) ≡ printed form sc p
  unfolding printed
  printed_head e h = ap head_text h ∙ ap (λ (f : Form). printed f sc p) (sym e)

  pub printed_lines : form ≡ Replay → ShowsPeriod sc p shown → untraced_text (record_of shown) ≡ printed form sc p
  unfolding printed
  printed_lines e h =
      ap untraced_text h ∙ sym (untraced_is sc.plan (period_record (system_of sc) sc.clock p)) ∙ ap (λ (f : Form). printed f sc p) (sym e)

-- the form without frames that isn't `check`
pub is_replay : (form : Form) → (form ≡ Replay) ⊎ (form ≡ Trace) → has_frames form ≡ false → form ≡ Replay
is_replay Replay e h = refl
is_replay Trace e h = cc
is_replay Check e h = elim e [ inl same ↦ same | inr same ↦ cc ]

-- it can be printed where it is of an accepted scenario
pub fits_print : {N : ℕ} (sc : ScenarioView N) (shown : Shown N) → FitsScenario sc shown → IsPrintable shown
fits_print {N} sc shown fits =
    let config = fits.scenario.system.config in
    let graph = config.graph in
    let few = few_tasks sc.config.graph.nodes sc.config.graph.tasks graph.tasks.in_range in
    record {
      nodes = subst (λ (n : ℕ). n ≤ N) (sym fits.shape.nodes) config.few_nodes;
      tasks = subst (λ (n : ℕ). n ≤ 32) (sym fits.shape.tasks) few;
      beliefs = fits.beliefs;
      idle = λ i a e. idle_from sc.config.graph a.copies shown.head.tasks fits.shape.tasks (fits.agreed i a e).copies;
    }

-- Of the text of a run the periods below i were printed since the sink was as it was, and the rest is to come. What was written to a sink,
-- and how often it failed, is as its kind of sinks tells it.
pub record PrintedSoFar {S : Type 0} {room : ℕ} (written : S → Option (List ℕ)) (faults : S → ℕ) (r : S) (printer : Printer room) (s : S) (whole : List ℕ) (f : ℕ → List ℕ) (periods i : ℕ) : Type 0 where
  pub done : List ℕ
  pub splits : done ++ rest_text f periods i ≡ whole
  pub printed_done : Printed (written r) (faults r) done printer (written s) (faults s)

module _ {S : Type 0} {room : ℕ} (written : S → Option (List ℕ)) (faults : S → ℕ) (f : ℕ → List ℕ) (periods : ℕ) where
  pub so_far_start : (a : Printer room) (s : S) → a.gathered ≡ [] → a.failed ≡ false
      → PrintedSoFar written faults s a s (flat_map f (ids_below periods) ++ end_text periods) f periods 0
  so_far_start a s empty going = record { done = []; splits = rest-first f periods; printed_done = begun written faults a s empty going }

  pub so_far_more : (r s t : S) (a b : Printer room) (whole : List ℕ) (i : ℕ) → i < periods → PrintedSoFar written faults r a s whole f periods i
      → Prints written faults a s b t (f i) → PrintedSoFar written faults r b t whole f periods (i + 1)
  so_far_more r s t a b whole i low h prints = record {
    done = h.done ++ f i;
    splits = append_assoc h.done (f i) (rest_text f periods (i + 1)) ∙ ap (λ xs. h.done ++ xs) (sym (rest-next f periods i low)) ∙ h.splits;
    printed_done = prints.goes_on (written r) (faults r) h.done h.printed_done;
  }

  pub so_far_broken : {T E : Type 0} (r s : S) (a : Printer room) (whole : List ℕ) (i : ℕ) (e : E) → PrintedSoFar written faults r a s whole f periods i → a.failed ≡ true
      → Writes {T = T} (written r) (written s) (faults r) (faults s) whole (Err e)
  so_far_broken {T} {E} r s a whole i e h failed =
      subst (λ xs. Writes {T = T} {E = E} (written r) (written s) (faults r) (faults s) xs (Err e)) h.splits
      (broken (written r) (written s) (faults r) (faults s) h.done (rest_text f periods i) a e h.printed_done failed)

  pub so_far_last : {T E : Type 0} (r s t u : S) (a b : Printer room) (whole : List ℕ) (result : Result T E) (i : ℕ) → i ≡ periods
      → PrintedSoFar written faults r a s whole f periods i → Prints written faults a s b t (end_text periods) → Finishes written faults b t u result
      → Writes (written r) (written u) (faults r) (faults u) whole result
  so_far_last {T} {E} r s t u a b whole result i ends h prints finishes =
      subst (λ xs. Writes (written r) (written u) (faults r) (faults u) xs result) (ap (λ xs. h.done ++ xs) (sym (rest-last f periods i ends)) ∙ h.splits)
      (finishes (written r) (faults r) (h.done ++ end_text periods) (prints.goes_on (written r) (faults r) h.done h.printed_done))
