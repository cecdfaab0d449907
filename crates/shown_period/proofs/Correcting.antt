-- The outcomes by which clocks are corrected.
use Rattle.std.proofs.Common.{ℕ, ◌≡◌, ◌<◌, ◌≤◌, List, map, length, ℤ, pos, refl, sym, ap, subst, ◌∙◌, arith}
use Rattle.std.proofs.lemmas.Option.{slice_get_past}
use Rattle.std.proofs.lemmas.List.FromFn.{length-map-range_with_len}
use Rattle.node_grid.specs.NodeSet.{ids_below}
use Rattle.clock_skew.specs.Clock.{ClockView}
use Rattle.clock_skew.specs.Reading.{read_by}
use Rattle.protocol.specs.Clocks.{corrects}
use Rattle.protocol.specs.Cluster.{view}
use Rattle.protocol.specs.Run.{run}
use Rattle.protocol.specs.View.{Mode}
use Rattle.node_steps.specs.Stages.{outcome_of}
use Rattle.scenario.specs.Scenario.{ScenarioView, system_of}
use Rattle.cluster_periods.specs.RecordLaws.{recorded}
use Rattle.cluster_periods.proofs.AllSlots.{map_ids}
use Rattle.cluster_record.specs.Clocking.{AreOthers, corrects_by, correction_by}
use Rattle.cluster_record.proofs.Clocking.{corrects_there, read_alike, others}
use Rattle.shown_period.specs.declared.made.Made.{Made}
use Rattle.shown_period.specs.Outcomes.{outcome_at, outcomes}
use Rattle.shown_period.specs.Whole.{AreMade}

pub many_outcomes : {N : ℕ} (made : Made N) (nodes : ℕ) → length (outcomes made nodes) ≡ nodes
many_outcomes made nodes = length-map-range_with_len (outcome_at made) 0 nodes

-- the outcomes of the nodes in use are those of the run
pub outcomes_are : {N : ℕ} (sc : ScenarioView N) (p : ℕ) (made : Made N) → AreMade sc p made
    → outcomes made sc.config.nodes ≡ map (λ i. outcome_of (view (run (system_of sc)) i p)) (ids_below sc.config.nodes)
outcomes_are sc p made h = map_ids (outcome_at made) (λ i. outcome_of (view (run (system_of sc)) i p)) sc.config.nodes 0 (λ i l. h i (omega (arith, l)))

pub others_of : {N : ℕ} (sc : ScenarioView N) (p : ℕ) (made : Made N) (c : ClockView) → AreMade sc p made → AreOthers (outcomes made sc.config.nodes)
others_of sc p made c h = subst AreOthers (sym (outcomes_are sc p made h)) (others (system_of sc) c p)

-- a node in use corrects its clock as its outcome says
pub corrects_here : {N : ℕ} (capacity : ℕ) (c : ClockView) (m : ℕ) (offset : List ℤ) (p : ℕ) (made : Made N) (nodes i : ℕ) (readings : List ℤ) (mode : Mode) → i < nodes
    → readings ≡ map (read_by c nodes offset p i) (ids_below capacity) → (outcome_at made i).mode ≡ mode
    → corrects m i readings (outcome_at made i).members (outcome_at made i).sync mode ≡ correction_by capacity c m offset p (outcomes made nodes) i
corrects_here capacity c m offset p made nodes i readings mode low read goes =
    corrects_there m i readings _ (outcomes made nodes) (outcome_at made i) (outcome_at made i) mode refl (recorded (outcome_at made) nodes i low)
    (read ∙ read_alike c nodes (length (outcomes made nodes)) offset p i capacity (sym (many_outcomes made nodes))) goes

-- and another one by nothing
pub corrects_past : {N : ℕ} (capacity : ℕ) (c : ClockView) (m : ℕ) (offset : List ℤ) (p : ℕ) (made : Made N) (nodes i : ℕ) → nodes ≤ i
    → correction_by capacity c m offset p (outcomes made nodes) i ≡ pos 0
corrects_past capacity c m offset p made nodes i high =
    ap (corrects_by m i (map (read_by c (length (outcomes made nodes)) offset p i) (ids_below capacity))) (slice_get_past (outcomes made nodes) i (omega (arith, high, many_outcomes made nodes)))
