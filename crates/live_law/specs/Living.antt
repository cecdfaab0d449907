-- What a live node is and answers, by the protocol, from what it is told.
use Rattle.std.specs.Prelude.{◌≡◌, ◌≢◌, ◌<◌, ◌⊎◌, ℕ, suc, ◌+◌, ◌^◌, ℤ, true, false, All, List, [], ◌∷◌, ◌++◌, length, replicate, Option, None, Some, is_some, unwrap_or, if◌then◌else◌}
use Rattle.std.specs.List.{flat_map}
use Rattle.node_grid.specs.NodeSet.{ids_below}
use Rattle.slot_plan.specs.Slots.{slot_count}
use Rattle.agreed_state.specs.declared.config.Inputs.{Inputs}
use Rattle.protocol.specs.Clocks.{corrects}
use Rattle.protocol.specs.Run.{members_in}
use Rattle.protocol.specs.View.{Kept, View, first_kept, opened, channel_room}
use Rattle.protocol.specs.Configured.{setting_of}
use Rattle.node_steps.specs.Stages.{outcome_of}
use Rattle.node_steps.specs.Steps.{frame_of}
use Rattle.scenario.specs.Scenario.{ScenarioView, IsScenario, inputs_of}
use Rattle.run_text.specs.PeriodText.{alone_text}
use Rattle.live_node.specs.Event.{Event}
use Rattle.live_node.specs.Event.Event.{Deliver, Restart, Reading, Ahead}
use Rattle.live_node.specs.Live.{LiveView, IsNewLive, replaced, good_told, told_numbers}
use Rattle.live_node.specs.Live.Step.{Goes}
use Rattle.live_node.specs.Text.{say_text, correct_text}
use Rattle.live_law.specs.Periods.{IsBetween, Next, view_next, frame_next}
use Rattle.live_law.specs.Events.{PeriodEvents, part_of, events_of, all_steps, restarts_in, arrivals_in, readings_told, aheads_told}

-- a node between periods: what it keeps, which period begins next, and how many were run
pub record Rest : Type 0 where
  pub kept : Kept
  pub next : ℕ
  pub run : ℕ

-- that of a live node
abbrev pub rest_of : {N : ℕ} → LiveView N → Rest
rest_of v = record { kept = v.node.kept; next = v.next; run = v.run }

-- node id of a scenario
module _ {N : ℕ} (sc : ScenarioView N) (id : ℕ) where
  -- what it is given for period p: what the scenario says, with what it is told before it in the places of readings
  abbrev pub inputs_told : ℕ → List Event → Inputs
  inputs_told p es = record (inputs_of sc id p) { reading = replaced (readings_told es) (inputs_of sc id p).reading }

  -- ---- a period

  module _ (r : Rest) (q : PeriodEvents) where
    abbrev pub number_told : ℕ
    number_told = unwrap_or q.number r.next

    abbrev pub next_told : Next
    next_told = record {
      period = number_told;
      restarts = restarts_in q.before;
      inputs = inputs_told number_told q.before;
      slots = λ t. arrivals_in (q.slots t);
    }

    -- its view of it
    abbrev pub view_told : View
    view_told = view_next sc.config id r.kept next_told

    -- what it says in a slot
    abbrev pub frame_told : ℕ → List ℕ
    frame_told t = frame_next sc.config id r.kept next_told t

    -- the lines of the first so many slots
    abbrev pub said_text : ℕ → List ℕ
    said_text slots = flat_map (λ t. say_text t (frame_told t)) (ids_below slots)

    -- how far it was told that each clock is ahead
    abbrev pub ahead_told : List (Option ℤ)
    ahead_told = aheads_told N (flat_map q.slots (ids_below (slot_count sc.config.m)))

    -- by how much it corrects its clock: by the clocks of the members whose frame in the sync slot was good, of those that it was told of
    abbrev pub correction_told : ℤ
    correction_told = corrects sc.config.m id (told_numbers ahead_told) (members_in view_told.before) (good_told view_told.sync ahead_told) view_told.mode

    -- the lines of the period
    abbrev pub shown_text : List ℕ
    shown_text =
        alone_text number_told id sc.config.nodes sc.config.policy.retire (outcome_of view_told)
        ++ (if is_some sc.clock then correct_text correction_told else [])

    -- all that it answers: a line for each slot, and these
    abbrev pub period_text : List ℕ
    period_text = said_text (slot_count sc.config.m) ++ shown_text

    abbrev pub after_period : Rest
    after_period = record { kept = view_told.kept; next = number_told + 1; run = r.run + 1 }

    -- ---- what it may be told

    -- the period that comes next, or a later one where it restarts
    abbrev pub MayBegin : Option ℕ → Type 0
    MayBegin None = r.next < 2 ^ 32
    MayBegin (Some p) = (p ≡ r.next) ⊎ ((restarts_in q.before ≡ true) × (r.next < p))

  -- between periods: restarts, and readings of channels
  abbrev pub ComesBefore : Event → Type 0
  ComesBefore Restart = Unit {0}
  ComesBefore (Reading c x) = c < length sc.config.channels.items
  ComesBefore _ = ⊥

  -- in a slot: deliveries from other nodes, and their clocks, where there are clocks
  abbrev pub ComesWithin : Event → Type 0
  ComesWithin (Deliver from tick bytes) = (from < sc.config.nodes) × (from ≢ id)
  ComesWithin (Ahead j x) = (j < sc.config.nodes) × (j ≢ id) × (is_some sc.clock ≡ true)
  ComesWithin _ = ⊥

  -- the events up to the end of so many slots
  pub record IsAllowed (slots : ℕ) (r : Rest) (q : PeriodEvents) : Type 0 where
    pub before : All ComesBefore q.before
    pub number : MayBegin r q q.number
    pub within : (t : ℕ) → t < slots → All ComesWithin (q.slots t)

  -- ---- periods

  -- periods that come one after another
  unfoldable pub AreAllowed : Rest → List PeriodEvents → Type 0
  AreAllowed r [] = Unit {0}
  AreAllowed r (q ∷ qs) = IsAllowed (slot_count sc.config.m) r q × AreAllowed (after_period r q) qs

  -- all that it answers, and how it rests behind them
  unfoldable pub life_text : Rest → List PeriodEvents → List ℕ
  life_text r [] = []
  life_text r (q ∷ qs) = period_text r q ++ life_text (after_period r q) qs

  unfoldable pub after_life : Rest → List PeriodEvents → Rest
  after_life r [] = r
  after_life r (q ∷ qs) = after_life (after_period r q) qs

  -- a live node that rests so, and was told nothing yet of its next period
  pub record Rests (r : Rest) (v : LiveView N) : Type 0 where
    pub is_of : v.scenario ≡ sc
    pub is_node : v.id ≡ id
    pub between : IsBetween sc.config id r.kept v.node
    pub next : v.next ≡ r.next
    pub run : v.run ≡ r.run
    pub forgot : v.forgot ≡ false
    pub given : v.given ≡ replicate channel_room None

  -- it takes the events of these periods, answers with the protocol's text, and rests as the protocol says
  pub record AnswersLife (r : Rest) (v : LiveView N) (qs : List PeriodEvents) : Type 0 where
    pub to : LiveView N
    pub takes : all_steps v (flat_map (events_of sc.config.m) qs) ≡ Goes to (life_text r qs)
    pub rests : Rests (after_life r qs) to

  -- it takes the events of the first so many slots of a period, and those before them, and has said in them what the protocol says
  pub record SaysSlots (r : Rest) (v : LiveView N) (q : PeriodEvents) (slots : ℕ) : Type 0 where
    pub to : LiveView N
    pub takes : all_steps v (part_of q slots) ≡ Goes to (said_text r q (suc slots))
    pub still : to.node.phase.is_open ≡ true
    pub slot : to.node.phase.slot ≡ slots
    pub frame : frame_of to.node ≡ frame_told r q slots

-- Law: a new live node rests with what the protocol gives it first, and period 0 is its first
abbrev pub NewLiveLaw : Type 0
NewLiveLaw =
    (N : ℕ) (sc : ScenarioView N) (id : ℕ) (v : LiveView N)
    → IsScenario sc → IsNewLive sc id v → Rests sc id (record { kept = first_kept (setting_of sc.config); next = 0; run = 0 }) v

-- Law: a live node that rests says in the slots of a period what the protocol says of what it was told before
abbrev pub LiveSayLaw : Type 0
LiveSayLaw =
    (N : ℕ) (sc : ScenarioView N) (id : ℕ) (r : Rest) (v : LiveView N) (q : PeriodEvents) (slots : ℕ)
    → IsScenario sc → Rests sc id r v → IsAllowed sc id slots r q → slots < slot_count sc.config.m → SaysSlots sc id r v q slots

-- Law: a live node answers to the events of any periods with the protocol's text, whatever it is told in them
abbrev pub LiveLifeLaw : Type 0
LiveLifeLaw =
    (N : ℕ) (sc : ScenarioView N) (id : ℕ) (r : Rest) (v : LiveView N) (qs : List PeriodEvents)
    → IsScenario sc → Rests sc id r v → AreAllowed sc id r qs → AnswersLife sc id r v qs

-- events are those of periods, one after another, and behind them restarts and readings; what was answered to them is the protocol's text
-- of the periods, and so is what the node keeps, which number comes next and how many periods were run
pub record IsLife {N : ℕ} (sc : ScenarioView N) (id : ℕ) (r : Rest) (es : List Event) (w : LiveView N) (text : List ℕ) : Type 0 where
  pub periods : List PeriodEvents
  pub left : List Event
  pub are : es ≡ flat_map (events_of sc.config.m) periods ++ left
  pub allowed : AreAllowed sc id r periods
  pub before : All (ComesBefore sc id) left
  pub answers : text ≡ life_text sc id r periods
  pub keeps : w.node.kept ≡ opened (setting_of sc.config) (restarts_in left) (after_life sc id r periods).kept
  pub next : w.next ≡ (after_life sc id r periods).next
  pub run : w.run ≡ (after_life sc id r periods).run

-- Law: all events that a live node that rests takes, where they leave no slot open, are those of periods, and are answered with the
-- protocol's text
abbrev pub LiveEventsLaw : Type 0
LiveEventsLaw =
    (N : ℕ) (sc : ScenarioView N) (id : ℕ) (r : Rest) (v w : LiveView N) (es : List Event) (text : List ℕ)
    → IsScenario sc → Rests sc id r v → all_steps v es ≡ Goes w text → w.node.phase.is_open ≡ false → IsLife sc id r es w text
