-- What is expected of a frame under a configuration.
use Rattle.std.specs.Prelude.{ℕ, ◌==◌, List, [], length, if◌then◌else◌}
use Rattle.slot_plan.specs.Slots.{slot_number}
use Rattle.slot_plan.specs.declared.slot.Slot.TheVariants.{Sync, Data}
use Rattle.frames.specs.Content.{Expectation}
use Rattle.agreed_state.specs.declared.config.Config.{Config}
use Rattle.agreed_state.specs.Body.{state_len}

-- of the frame of a sender in a slot of a period, where these are the members and so many channels are due: in the slot of
-- agreed states no members are known yet, and channels are due in that of values alone
abbrev pub expectation : {capacity : ℕ} → Config capacity → ℕ → ℕ → ℕ → List ℕ → ℕ → Expectation
expectation {capacity} config period slot sender members due = record {
  version = config.version;
  capacity = capacity;
  nodes = config.nodes;
  m = config.m;
  period = period;
  slot = slot;
  sender = sender;
  members = if slot == slot_number config.m Sync then [] else members;
  state_len = state_len config;
  tasks = length config.graph.tasks;
  due = if slot == slot_number config.m Data then due else 0;
}
