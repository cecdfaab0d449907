-- The data slot of a period, as all nodes go into it. From this alone follows what each has of each other one's values.
use Rattle.std.specs.Prelude.{◌≡◌, ◌≢◌, ℕ, ◌+◌, ◌<◌, ℤ, true, false, List, [], map, length, Option, None, Some, slice_index_or, if◌then◌else◌}
use Rattle.node_grid.specs.Capacity.{IsCapacity}
use Rattle.node_grid.specs.NodeSet.{has_id, IsIdSet}
use Rattle.frames.specs.Content.{Content, Expectation}
use Rattle.frames.specs.Content.Content.{Data, Cold}
use Rattle.frames.specs.Spelling.{IsInRange}
use Rattle.fault_classes.specs.Change.{Change, is_untouched}
use Rattle.fault_classes.specs.Line.{effect_at}
use Rattle.fault_classes.specs.Plan.{Plan, each_in_slot}
use Rattle.agreed_state.specs.declared.config.Config.{Config}
use Rattle.agreed_state.specs.Config.{IsConfig}
use Rattle.agreed_state.specs.Expecting.{expectation}
use Rattle.protocol.specs.Arrival.{Arrival, values_in}
use Rattle.protocol.specs.Talk.{arrives}
use Rattle.protocol.specs.View.{Received, own_in, value_from}
use Rattle.data_slot.specs.Told.{value_told}

pub record DataView (capacity : ℕ) : Type 0 where
  pub config : Config capacity
  pub plan : Plan
  pub period : ℕ
  pub touched : List ℕ  -- the senders of which a line may touch frames of the slot
  pub full : List ℕ  -- the nodes that are Full
  pub due : ℕ → List ℕ  -- the due channels of each node
  pub owns : List (List (Option ℤ))  -- by node its own values, by channel

-- how the code has it, with something that says the due channels of each node
pub record SlotParts (D : Type 0) (capacity : ℕ) : Type 0 where
  pub config : Config capacity
  pub plan : Plan
  pub period : ℕ
  pub touched : List ℕ
  pub full : List ℕ
  pub dues : D
  pub owns : List (List (Option ℤ))

abbrev pub slot_of : {D : Type 0} {n : ℕ} → (D → ℕ → List ℕ) → SlotParts D n → DataView n
slot_of dues x = record {
  config = x.config;
  plan = x.plan;
  period = x.period;
  touched = x.touched;
  full = x.full;
  due = dues x.dues;
  owns = x.owns;
}

-- all nodes go into it in a period of the plan, and no line touches a frame of a sender that isn't named
pub record IsDataSlot {n : ℕ} (d : DataView n) : Type 0 where
  pub config : IsConfig n d.config
  pub plan_nodes : d.plan.nodes ≡ d.config.nodes
  pub plan_rounds : d.plan.rounds ≡ d.config.m
  pub period : d.period < d.plan.periods
  pub due : (i : ℕ) → i < d.config.nodes → IsIdSet (length d.config.channels.items) (d.due i)
  pub touched : (j : ℕ) → j < d.config.nodes → has_id d.touched j ≡ false → each_in_slot d.plan is_untouched d.period j (d.config.m + 2) ≡ true

-- what is known of each in the code
abbrev pub IsGoing : {D : Type 0} {n : ℕ} → (D → ℕ → List ℕ) → SlotParts D n → Type 0
IsGoing {n = n} dues x = IsCapacity n × IsDataSlot (slot_of dues x)

module _ {n : ℕ} (d : DataView n) where
  -- node j's own values
  abbrev pub own_of : ℕ → List (Option ℤ)
  own_of j = slice_index_or d.owns j []

  -- its own value of a channel that it has where it is Full
  abbrev pub own_told : ℕ → ℕ → Option ℤ
  own_told j c = if has_id d.full j then Some (own_in (own_of j) c) else None

  -- those of all nodes of their due channels, by node and channel
  abbrev pub AreOwnTold : List (Option (List ℤ)) → Type 0
  AreOwnTold told = (j c : ℕ) → j < d.config.nodes → (has_id d.full j ≡ true → has_id (d.due j) c ≡ true) → value_told told j c ≡ own_told j c

  -- what node j says: its own values of its due channels
  abbrev pub said : ℕ → Content
  said j = if has_id d.full j then Data (map (own_in (own_of j)) (d.due j)) else Cold

  -- what node i expects of node j. Members make no difference in this slot
  abbrev pub expects : ℕ → ℕ → Expectation
  expects j i = expectation d.config d.period (d.config.m + 2) j [] (length (d.due i))

  -- what befalls the frame from node j to node i
  abbrev pub change_to : ℕ → ℕ → Option Change
  change_to j i = effect_at d.plan.lines d.period (d.config.m + 2) j i

  -- what node i has of node j's values
  abbrev pub values_at : ℕ → ℕ → Arrival (List ℤ)
  values_at j i = arrives values_in (change_to j i) (expects j j) (expects j i) (said j)

  -- node i, which received x, has so of the values of all others, and what each says can be said
  pub record Hears (i : ℕ) (x : Received) : Type 0 where
    pub in_range : (j : ℕ) → j < d.config.nodes → IsInRange (expects j j) (said j)
    pub values : (j : ℕ) → j < d.config.nodes → j ≢ i → x.values j ≡ values_at j i

  -- and this is what it has of the values of its due channels, by sender and channel
  abbrev pub IsTold : ℕ → Received → List (Option (List ℤ)) → Type 0
  IsTold i x told = (q c : ℕ) → q < d.config.nodes → has_id (d.due i) c ≡ true → value_told told q c ≡ value_from i (has_id d.full i) (d.due i) (own_of i) x c q

  -- what node i has, node j has too
  pub record HearAlike (i j : ℕ) : Type 0 where
    pub due : d.due j ≡ d.due i
    pub told : (x y : Received) (told : List (Option (List ℤ))) → Hears i x → Hears j y → IsTold i x told → IsTold j y told
