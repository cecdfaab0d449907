-- What is shown at the end of a period.
use Rattle.std.proofs.Common.{ℕ, suc, ◌≡◌, ◌+◌, Option, ap, ◌∙◌, arith}
use Rattle.std.specs.Prelude.{option_map}
use Rattle.scenario.specs.Scenario.{ScenarioView, system_of}
use Rattle.cluster_periods.specs.Record.{claimed_before, clock_in, period_record, without_frames}
use Rattle.cluster_record.specs.declared.clocks.ClockRecord.{ClockRecord}
use Rattle.cluster_record.specs.Shown.{clock_shown}
use Rattle.cluster_record.specs.Clocking.{offsets_kept}
use Rattle.cluster_record.proofs.Clocking.{kept_next}
use Rattle.cluster_record.proofs.Showing.{shown_is}
use Rattle.shown_period.specs.declared.head.Head.{Head}
use Rattle.shown_period.specs.declared.made.Made.{Made}
use Rattle.shown_period.specs.declared.shown.Shown.{Shown}
use Rattle.shown_period.specs.Outcomes.{outcomes}
use Rattle.shown_period.specs.Heads.{IsBegun, IsBefore}
use Rattle.shown_period.specs.Whole.{AreMade, record_of}
use Rattle.shown_period.proofs.Correcting.{outcomes_are}

module _ {N : ℕ} (sc : ScenarioView N) (p : ℕ) (old : Head N) (k : Option (ClockRecord N)) (begun : IsBegun sc p old)
    (clocks : option_map clock_shown k ≡ option_map (λ c. clock_in (system_of sc) c p) sc.clock) where
  abbrev now : Head N
  now = record old { clock = k }

  abbrev whole : Made N → Shown N
  whole made = record { head = now; made = made }

  -- the record of the period
  pub whole_is : (made : Made N) → AreMade sc p made → record_of (whole made) ≡ without_frames (period_record (system_of sc) sc.clock p)
  whole_is made h =
      shown_is (system_of sc) sc.clock p (record_of (whole made)) begun.period begun.shape.nodes begun.shape.m begun.shape.retire begun.reference begun.members begun.budget begun.within begun.claimed begun.classes_shown
      (ap (outcomes made) begun.shape.nodes ∙ outcomes_are sc p made h) clocks

  -- and a head of the period before the next
  pub before_next : IsBefore sc (p + 1) now
  before_next =
      let next : suc p ≡ p + 1 = omega arith in record {
        shape = record { nodes = begun.shape.nodes; m = begun.shape.m; retire = begun.shape.retire; tasks = begun.shape.tasks };
        claimed = begun.claimed ∙ ap (claimed_before (system_of sc)) next;
        clocks = ap offsets_kept clocks ∙ kept_next sc p (p + 1) next;
      }
