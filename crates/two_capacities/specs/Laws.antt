-- One cluster, laid out for c nodes and for k more.
use Rattle.std.specs.Prelude.{◌≡◌, ℕ, ◌≤◌, ◌+◌}
use Rattle.node_grid.specs.Capacity.{IsCapacity}
use Rattle.clock_skew.specs.Clock.{ClockView}
use Rattle.fault_classes.specs.Plan.{Plan}
use Rattle.agreed_state.specs.declared.config.Config.{Config}
use Rattle.agreed_state.specs.declared.config.Inputs.{Inputs}
use Rattle.protocol.specs.Cluster.{view}
use Rattle.protocol.specs.Run.{run, sent, classes}
use Rattle.protocol.specs.Accepted.{IsAccepted}
use Rattle.protocol.specs.Clocks.{offsets, AreClocks}
use Rattle.two_capacities.specs.Wider.{wide_config, wide_view, wide_clock, system_over}

-- each node believes the same in each period, sends the same bytes in each slot, and its clock goes the same
pub record AreAlike {c : ℕ} (k : ℕ) (g : Config c) (plan : Plan) (inputs : ℕ → ℕ → Inputs) : Type 0 where
  pub believed : (i p : ℕ) → view (run (system_over (wide_config k g) plan inputs)) i p ≡ wide_view g.nodes k (view (run (system_over g plan inputs)) i p)
  pub sends : (p slot i : ℕ) → sent (system_over (wide_config k g) plan inputs) p slot i ≡ sent (system_over g plan inputs) p slot i
  pub clocks : (clock : ClockView) (p : ℕ) → offsets (run (system_over (wide_config k g) plan inputs)) (wide_clock k clock) p ≡ offsets (run (system_over g plan inputs)) clock p

-- a cluster that has room for all of its nodes runs alike with further places
abbrev pub RunsAlikeLaw : Type 0
RunsAlikeLaw = (c k : ℕ) (g : Config c) → g.nodes ≤ c → g.graph.nodes ≤ c → (plan : Plan) (inputs : ℕ → ℕ → Inputs) → AreAlike k g plan inputs

-- an accepted system stays one, and its clocks fit it
pub record AcceptedAlikeLaw : Type 0 where
  pub system : (c k : ℕ) (g : Config c) (plan : Plan) (inputs : ℕ → ℕ → Inputs) → IsCapacity (c + k) → IsAccepted (system_over g plan inputs)
      → IsAccepted (system_over (wide_config k g) plan inputs)
  pub clocks : (c k : ℕ) (g : Config c) (plan : Plan) (inputs : ℕ → ℕ → Inputs) (clock : ClockView) → AreClocks (run (system_over g plan inputs)) (classes (system_over g plan inputs)) clock
      → AreClocks (run (system_over (wide_config k g) plan inputs)) (classes (system_over (wide_config k g) plan inputs)) (wide_clock k clock)
