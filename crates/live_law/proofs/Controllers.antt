-- The nodes of the controllers of a cluster, without what they are told and answer.
use Rattle.std.specs.Prelude.{◌≡◌, ◌≢◌, ◌<◌, ◌≤◌, ◌⊎◌, ℕ, zero, suc, ◌+◌, ◌*◌, true, List, []}
use Rattle.error_detect.specs.Multiset.{Arriving, from_sender}
use Rattle.fault_classes.specs.Line.{effect_at}
use Rattle.fault_classes.specs.Plan.{restarts_at}
use Rattle.fault_link.specs.Arrival.{delivered_of}
use Rattle.agreed_state.specs.declared.config.Inputs.{Inputs}
use Rattle.protocol.specs.View.{Kept, first_kept}
use Rattle.protocol.specs.Cluster.{kept, begins, view}
use Rattle.protocol.specs.Run.{run, sent}
use Rattle.protocol.specs.Configured.{setting_of}
use Rattle.node_steps.specs.Parts.{NodeView}
use Rattle.node_steps.specs.Steps.{frame_of}
use Rattle.node_steps.specs.Living.{restarted_if}
use Rattle.node_steps.specs.Period.{slots_run, IsOver}
use Rattle.scenario.specs.Scenario.{ScenarioView}
use Rattle.live_law.specs.Periods.{IsBetween, Next, begun_next, after_next}
use Rattle.live_law.specs.Run.{system_given, IsDelivered}
use Rattle.live_law.proofs.OfRun.{next_of}

-- of each node's controller: how it stands before each period, how many slots of the period it runs (none where it is down, not all
-- where it is killed), what it is given for the period, and what it is delivered in each slot
pub record Controllers (N : ℕ) : Type 0 where
  pub node : ℕ → ℕ → NodeView N  -- node, period
  pub ran : ℕ → ℕ → ℕ  -- node, period
  pub inputs : ℕ → ℕ → Inputs  -- node, period
  pub delivered : ℕ → ℕ → ℕ → List Arriving  -- node, period, slot

module _ {N : ℕ} (sc : ScenarioView N) (c : Controllers N) where
  abbrev pub next_at : ℕ → ℕ → Next
  next_at i p = next_of (system_given sc c.inputs) i p (c.delivered i p)

  -- a controller with slot t of period p open, and what it says in it
  abbrev pub in_slot : ℕ → ℕ → ℕ → NodeView N
  in_slot i p t = slots_run (c.delivered i p) t (begun_next sc.config i (c.node i p) (next_at i p))

  abbrev pub said : ℕ → ℕ → ℕ → List ℕ
  said i p t = frame_of (in_slot i p t)

  -- a controller goes into its first period as a new one, and into a later one as it came out of the whole of the period before
  abbrev pub Continues : ℕ → ℕ → Type 0
  Continues i zero = IsBetween sc.config i (first_kept (setting_of sc.config)) (c.node i 0)
  Continues i (suc p) = (c.ran i p ≡ 2 * sc.config.m + 4) × (c.node i (suc p) ≡ after_next sc.config i (c.node i p) (next_at i p))

  -- or it is any that rests, a new one too, and the plan says that the node restarts
  pub record BeginsAnew (i p : ℕ) : Type 0 where
    pub restarts : restarts_at sc.plan i p ≡ true
    pub keeps : Kept
    pub between : IsBetween sc.config i keeps (c.node i p)

  -- what the controller of node i is delivered of node j's frame in a slot: what the plan makes of what that node's controller says
  -- there; and nothing where that one doesn't run, of which the plan tells by a line that loses the frame, whatever it is
  pub record Hears (i j p t : ℕ) : Type 0 where
    pub spoken : t < c.ran j p → from_sender j (c.delivered i p t) ≡ delivered_of (effect_at sc.plan.lines p t j i) (said j p t)
    pub silent : c.ran j p ≤ t → (from_sender j (c.delivered i p t) ≡ []) × ((frame : List ℕ) → delivered_of (effect_at sc.plan.lines p t j i) frame ≡ [])

  -- controllers that are linked by a network in which befalls the frames what the plan says
  pub record AreLinked : Type 0 where
    pub begin : (i p : ℕ) → i < sc.config.nodes → 0 < c.ran i p → Continues i p ⊎ BeginsAnew i p
    pub hear : (i j p t : ℕ) → i < sc.config.nodes → j < sc.config.nodes → j ≢ i → t < 2 * sc.config.m + 4 → t < c.ran i p → Hears i j p t

  -- what the controller of node i does in period p is what the node does in the run: it goes into it with the same, in each slot that it
  -- runs it says what is sent, and where it runs all of them it is delivered what the run delivers, and keeps and records what the node does
  pub record IsOfRun (i p : ℕ) : Type 0 where
    pub goes_in : (restarted_if (restarts_at sc.plan i p) (c.node i p)).kept ≡ begins (run (system_given sc c.inputs)) i p
    pub frames : (t : ℕ) → t < 2 * sc.config.m + 4 → t < c.ran i p → said i p t ≡ sent (system_given sc c.inputs) p t i
    pub delivered : c.ran i p ≡ 2 * sc.config.m + 4 → IsDelivered (system_given sc c.inputs) i p (c.delivered i p)
    pub over : c.ran i p ≡ 2 * sc.config.m + 4 → IsOver (after_next sc.config i (c.node i p) (next_at i p)) (view (run (system_given sc c.inputs)) i p)
    pub between : c.ran i p ≡ 2 * sc.config.m + 4
        → IsBetween sc.config i (kept (run (system_given sc c.inputs)) i (suc p)) (after_next sc.config i (c.node i p) (next_at i p))
