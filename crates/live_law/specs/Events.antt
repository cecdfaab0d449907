-- The events of a period as a live node is told them, and what they tell.
use Rattle.std.specs.Prelude.{◌≡◌, ℕ, ◌==◌, ℤ, Bool, true, false, List, [], ◌∷◌, ◌++◌, map, Option, None, Some, if◌then◌else◌}
use Rattle.std.specs.List.{list_any, filter_map, flat_map, fold}
use Rattle.std.specs.Option.{option_or}
use Rattle.node_grid.specs.NodeSet.{ids_below}
use Rattle.slot_plan.specs.Slots.{slot_count}
use Rattle.error_detect.specs.Multiset.{Arriving}
use Rattle.protocol.specs.View.{channel_room}
use Rattle.live_node.specs.Event.{Event, event_of}
use Rattle.live_node.specs.Event.Event.{Begin, Deliver, End, Restart, Reading, Ahead}
use Rattle.live_node.specs.Live.{LiveView, Step, event_step, line_step}
use Rattle.live_node.specs.Live.Step.{Goes, Refuses}

-- ---- one event after another

-- a step with this text before its own
abbrev pub behind : {N : ℕ} → List ℕ → Step N → Step N
behind text (Goes v more) = Goes v (text ++ more)
behind text (Refuses rule) = Refuses rule

-- what one more event makes of a node that answered so far: it goes on, or the event is refused, and then nothing goes on
abbrev pub step_on : {N : ℕ} → Step N → Event → Step N
step_on (Goes v text) e = behind text (event_step v e)
step_on (Refuses rule) e = Refuses rule

abbrev pub all_steps : {N : ℕ} → LiveView N → List Event → Step N
all_steps v es = fold step_on (Goes v []) es

-- and the same of lines
abbrev pub line_on : {N : ℕ} → Step N → List ℕ → Step N
line_on (Goes v text) line = behind text (line_step v line)
line_on (Refuses rule) line = Refuses rule

abbrev pub all_lines : {N : ℕ} → LiveView N → List (List ℕ) → Step N
all_lines v ls = fold line_on (Goes v []) ls

-- Law: lines that tell events do what the events do
abbrev pub LiveLinesLaw : Type 0
LiveLinesLaw = (N : ℕ) (v : LiveView N) (ls : List (List ℕ)) (es : List Event) → map event_of ls ≡ map Some es → all_lines v ls ≡ all_steps v es

-- ---- a period

-- what comes between the period before and the begin, the number with which it begins, if one is told, and in each slot what comes
-- before the slot's end
pub record PeriodEvents : Type 0 where
  pub before : List Event
  pub number : Option ℕ
  pub slots : ℕ → List Event

-- its events up to the end of so many slots
abbrev pub part_of : PeriodEvents → ℕ → List Event
part_of q slots = q.before ++ Begin q.number ∷ flat_map (λ t. q.slots t ++ End ∷ []) (ids_below slots)

-- all its events, with m relay rounds
abbrev pub events_of : ℕ → PeriodEvents → List Event
events_of m q = part_of q (slot_count m)

-- ---- what events tell

abbrev pub is_restart : Event → Bool
is_restart Restart = true
is_restart _ = false

-- whether the node forgets all
abbrev pub restarts_in : List Event → Bool
restarts_in es = list_any is_restart es

abbrev pub arrival_of : Event → Option Arriving
arrival_of (Deliver from tick bytes) = Some (record { from = from; tick = tick; bytes = bytes })
arrival_of _ = None

-- what is delivered
abbrev pub arrivals_in : List Event → List Arriving
arrivals_in es = filter_map arrival_of es

-- what an event tells of channel c, and of the clock of node j
abbrev pub reading_of : ℕ → Event → Option ℤ
reading_of c (Reading d x) = if d == c then Some x else None
reading_of c _ = None

abbrev pub ahead_of : ℕ → Event → Option ℤ
ahead_of j (Ahead k x) = if k == j then Some x else None
ahead_of j _ = None

-- the last that is told
abbrev pub last_told : (Event → Option ℤ) → List Event → Option ℤ
last_told tells [] = None
last_told tells (e ∷ es) = option_or (last_told tells es) (tells e)

-- what is told of each channel, and of the clock of each of N nodes
abbrev pub readings_told : List Event → List (Option ℤ)
readings_told es = map (λ c. last_told (reading_of c) es) (ids_below channel_room)

abbrev pub aheads_told : ℕ → List Event → List (Option ℤ)
aheads_told N es = map (λ j. last_told (ahead_of j) es) (ids_below N)
