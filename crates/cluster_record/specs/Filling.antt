-- What a period's record is filled from.
use Rattle.std.specs.Prelude.{◌≡◌, ℕ, true, nat_lt, List, [], Option, None, Some, if◌then◌else◌, slice_get, length}
use Rattle.node_grid.specs.declared.class.Class.{Class}
use Rattle.node_grid.specs.declared.class.Class.TheVariants.{N as ClassN}
use Rattle.slot_plan.specs.Slots.{slot_count}
use Rattle.fault_classes.specs.Plan.{Plan, class_of}
use Rattle.protocol.specs.View.{Mode}
use Rattle.node_steps.specs.Outcome.{Outcome}
use Rattle.agreed_state.specs.declared.config.Config.{Config}
use Rattle.scenario.specs.Scenario.{ScenarioView, system_of}
use Rattle.cluster_periods.specs.Record.{ClockShown, PeriodView, claimed_before}
use Rattle.cluster_record.specs.Clocking.{offsets_kept, offsets_before}

-- the members with which a node began the period: it had an agreed state then where it is Full
abbrev pub members_by : Mode → List ℕ → List ℕ
members_by Mode.Full members = members
members_by Mode.Joining members = []
members_by Mode.Cold members = []

abbrev pub began_with : Option Outcome → List ℕ
began_with None = []
began_with (Some o) = members_by o.mode o.members

abbrev pub members_shown : List Outcome → Option ℕ → List ℕ
members_shown records None = []
members_shown records (Some r) = began_with (slice_get records r)

abbrev pub class_or_first : Plan → ℕ → ℕ → ℕ → Class
class_or_first plan nodes p j = if nat_lt j nodes then class_of plan p j else ClassN

-- a record of the periods of this configuration
pub record HasShape {n : ℕ} (config : Config n) (r : PeriodView) : Type 0 where
  pub nodes : r.nodes ≡ config.nodes
  pub m : r.m ≡ config.m
  pub retire : r.retire ≡ config.policy.retire
  pub slots : length r.sent ≡ slot_count config.m

-- and of none yet, with these clocks
pub record IsBlank {n : ℕ} (config : Config n) (clock : Option ClockShown) (r : PeriodView) : Type 0 where
  pub shape : HasShape config r
  pub claimed : r.claim ≡ true
  pub clocks : r.clock ≡ clock

-- a record of the period before p
pub record IsShownBefore {N : ℕ} (sc : ScenarioView N) (p : ℕ) (r : PeriodView) : Type 0 where
  pub shape : HasShape sc.config r
  pub claimed : r.claim ≡ claimed_before (system_of sc) p
  pub clocks : offsets_kept r.clock ≡ offsets_before sc p
