-- The law of the data slot in a run.
use Rattle.std.specs.Prelude.{ℕ, ◌≡◌, ◌<◌, true}
use Rattle.node_grid.specs.NodeSet.{has_id}
use Rattle.protocol.specs.Configured.{setting_of}
use Rattle.protocol.specs.View.{own_values}
use Rattle.protocol.specs.Run.{System, full_at, due_of, goes_in, run}
use Rattle.protocol.specs.Accepted.{IsAccepted}
use Rattle.told_values.specs.Slot.{DataView, own_of, Hears}

-- it is that of period p: who is Full, what is due at each node, and the own values of each that is Full
pub record IsSlotOf (sys : System) (p : ℕ) {n : ℕ} (d : DataView n) : Type 0 where
  pub setting : sys.setting ≡ setting_of d.config
  pub plan : sys.plan ≡ d.plan
  pub period : p ≡ d.period
  pub full : (j : ℕ) → j < d.config.nodes → has_id d.full j ≡ full_at sys p (goes_in sys p) j
  pub due : (j : ℕ) → j < d.config.nodes → d.due j ≡ due_of sys p (goes_in sys p) j
  pub own : (j : ℕ) → j < d.config.nodes → full_at sys p (goes_in sys p) j ≡ true → own_of d j ≡ own_values sys.setting j p (sys.inputs j p) (goes_in sys p j)

-- Law: then each node has of the others' values what follows from the slot
abbrev pub HearsLaw : Type 0
HearsLaw =
    (n : ℕ) (sys : System) → IsAccepted sys → (p : ℕ) (d : DataView n) → IsSlotOf sys p d
    → (i : ℕ) → i < d.config.nodes → Hears d i ((run sys).received i p)
