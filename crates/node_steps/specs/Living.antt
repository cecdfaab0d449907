-- A node through a list of periods.
use Rattle.std.specs.Prelude.{◌≡◌, ◌<◌, ℕ, suc, ◌+◌, ◌*◌, Bool, List, if◌then◌else◌}
use Rattle.error_detect.specs.Multiset.{Arriving}
use Rattle.agreed_state.specs.declared.config.Config.{Config}
use Rattle.agreed_state.specs.declared.config.Inputs.{Inputs}
use Rattle.protocol.specs.Steps.{after_steps}
use Rattle.protocol.specs.View.{first_kept}
use Rattle.protocol.specs.Cluster.{Cluster, kept, begins, view}
use Rattle.node_steps.specs.Parts.{NodeView}
use Rattle.protocol.specs.Configured.{setting_of}
use Rattle.node_steps.specs.Steps.{begun, restarted}
use Rattle.node_steps.specs.Period.{slots_run}
use Rattle.node_steps.specs.Stages.{outcome_of}
use Rattle.node_steps.specs.Sending.{fixed, fixed_of, IsServed}

-- a node that restarts, where it does
abbrev pub restarted_if : {N : ℕ} → Bool → NodeView N → NodeView N
restarted_if restarts v = if restarts then restarted v else v

-- a node after so many periods of so many slots, by whether it restarts before each, what it is given for it, and what is
-- delivered in each of its slots
unfoldable pub periods_run : {N : ℕ} → ℕ → (ℕ → Bool) → (ℕ → Inputs) → (ℕ → ℕ → List Arriving) → ℕ → NodeView N → NodeView N
periods_run slots restarts inputs ds n v = after_steps (λ p w. slots_run (ds p) slots (begun (restarted_if (restarts p) w) p (inputs p))) n v

-- what is left of it after n periods is what the protocol says of node i of this cluster
pub record Lives {N : ℕ} (cl : Cluster) (i n : ℕ) (v w : NodeView N) : Type 0 where
  pub keeps : w.kept ≡ kept cl i n
  pub stays : fixed w ≡ fixed v
  pub records : (p : ℕ) → n ≡ suc p → w.outcome ≡ outcome_of (view cl i p)

-- Law: whatever a node is delivered in each slot of a list of periods, what it keeps and records is its view, where the view is by what
-- those deliveries say
abbrev pub LifeLaw : Type 0
LifeLaw =
    (N : ℕ) (config : Config N) (i room : ℕ) (cl : Cluster) (ds : ℕ → ℕ → List Arriving) (n : ℕ) (v : NodeView N)
    → cl.setting ≡ setting_of config → fixed v ≡ fixed_of config room i → v.kept ≡ first_kept (setting_of config)
    → ((p : ℕ) → p < n → IsServed config i p (cl.inputs i p) (begins cl i p) (cl.received i p) room (ds p))
    → Lives cl i n v (periods_run (2 * config.m + 4) (cl.restarts i) (cl.inputs i) ds n v)
