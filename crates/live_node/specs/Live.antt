-- A node that is told one event after another: how it stands, which events it takes, what each makes of it, and what it answers.
use Rattle.std.specs.Prelude.{◌≡◌, ℕ, ◌+◌, ◌^◌, ◌==◌, nat_lt, ℤ, pos, Bool, true, false, not, ◌&&◌, ◌||◌, List, [], ◌∷◌, ◌++◌, map, length, replicate, set, Option, None, Some, is_some, unwrap_or, if◌then◌else◌, slice_index_or}
use Rattle.std.specs.List.{filter}
use Rattle.protocol.specs.Clocks.{corrects}
use Rattle.protocol.specs.View.{channel_room}
use Rattle.agreed_state.specs.declared.config.Inputs.{Inputs}
use Rattle.node_steps.specs.Fresh.{IsFresh}
use Rattle.node_steps.specs.Parts.{NodeView}
use Rattle.node_steps.specs.Steps.{restarted, begun, given_frame, after_slot, frame_of}
use Rattle.scenario.specs.Scenario.{ScenarioView, inputs_of}
use Rattle.run_text.specs.PeriodText.{alone_text}
use Rattle.live_node.specs.Event.{Event, event_of}
use Rattle.live_node.specs.Event.Event.{Begin, Deliver, End, Restart, Reading, Ahead}
use Rattle.live_node.specs.Text.{say_text, correct_text}

pub record LiveView (N : ℕ) : Type 0 where
  pub scenario : ScenarioView N
  pub id : ℕ
  pub node : NodeView N
  pub next : ℕ  -- the period that begins next
  pub run : ℕ  -- how many periods were run
  pub forgot : Bool  -- whether the node has forgotten all since its last period
  pub given : List (Option ℤ)  -- by channel: what the node was told that it reads in the next period
  pub ahead : List (Option ℤ)  -- by node: how far its clock was told to be ahead in this period
  pub longest : ℕ  -- how many bytes a line may have; nothing changes it

-- node id of a scenario before it was told anything
pub record IsNewLive {N : ℕ} (sc : ScenarioView N) (id : ℕ) (v : LiveView N) : Type 0 where
  pub is_of : v.scenario ≡ sc
  pub is_node : v.id ≡ id
  pub node : IsFresh sc.config id v.node
  pub next : v.next ≡ 0
  pub run : v.run ≡ 0
  pub forgot : v.forgot ≡ false
  pub given : v.given ≡ replicate channel_room None
  pub ahead : v.ahead ≡ replicate N None

-- ---- which events it takes

-- whether a slot of a period is open
abbrev pub is_open : {N : ℕ} → LiveView N → Bool
is_open v = v.node.phase.is_open

-- whether this is the number of another node of the cluster
abbrev pub is_other : {N : ℕ} → LiveView N → ℕ → Bool
is_other v j = nat_lt j v.scenario.config.nodes && not (j == v.id)

-- whether the cluster has the node, the channel or the clocks that the event names
abbrev pub is_of_cluster : {N : ℕ} → LiveView N → Event → Bool
is_of_cluster v (Begin o) = true
is_of_cluster v (Deliver from tick bytes) = is_other v from
is_of_cluster v End = true
is_of_cluster v Restart = true
is_of_cluster v (Reading c x) = nat_lt c (length v.scenario.config.channels.items)
is_of_cluster v (Ahead j x) = is_other v j && is_some v.scenario.clock

-- whether a period may begin now: the next one, or a later one where the node has forgotten all. A period has 32 bits
abbrev pub may_begin : {N : ℕ} → LiveView N → Option ℕ → Bool
may_begin v None = nat_lt v.next (2 ^ 32)
may_begin v (Some p) = (p == v.next) || (v.forgot && nat_lt v.next p)

-- whether the event may come now
abbrev pub allowed : {N : ℕ} → LiveView N → Event → Bool
allowed v (Begin o) = not (is_open v) && may_begin v o
allowed v (Deliver from tick bytes) = is_open v
allowed v End = is_open v
allowed v Restart = not (is_open v)
allowed v (Reading c x) = not (is_open v)
allowed v (Ahead j x) = is_open v

-- ---- what an event makes of it

-- numbers, each with another in its place where one was told
abbrev pub replaced : List (Option ℤ) → List ℤ → List ℤ
replaced [] xs = xs
replaced (o ∷ os) [] = []
replaced (o ∷ os) (x ∷ xs) = unwrap_or o x ∷ replaced os xs

-- what the node is given for period p: what the scenario says, with the readings that it was told in their places
abbrev pub inputs_given : {N : ℕ} → LiveView N → ℕ → Inputs
inputs_given v p = record (inputs_of v.scenario v.id p) { reading = replaced v.given (inputs_of v.scenario v.id p).reading }

-- period p begins: what was told for it is used up, and of its clocks nothing was told
abbrev pub period_begun : {N : ℕ} → LiveView N → ℕ → LiveView N
period_begun {N} v p = record v { node = begun v.node p (inputs_given v p); next = p + 1; forgot = false; given = replicate channel_room None; ahead = replicate N None }

-- a slot ended: with the last one the period was run
abbrev pub slot_ended : {N : ℕ} → LiveView N → NodeView N → LiveView N
slot_ended v w = record v { node = w; run = if w.phase.is_open then v.run else v.run + 1 }

abbrev pub told : {N : ℕ} → LiveView N → Event → LiveView N
told v (Begin o) = period_begun v (unwrap_or o v.next)
told v (Deliver from tick bytes) = record v { node = given_frame v.node from tick bytes }
told v End = slot_ended v (after_slot v.node)
told v Restart = record v { node = restarted v.node; forgot = true }
told v (Reading c x) = record v { given = set v.given c (Some x) }
told v (Ahead j x) = record v { ahead = set v.ahead j (Some x) }

-- ---- what it answers

-- of nodes whose frame in the sync slot was good, those of whose clock something was told
abbrev pub good_told : List ℕ → List (Option ℤ) → List ℕ
good_told sync ahead = filter (λ j. is_some (slice_index_or ahead j None)) sync

-- what was told of each clock, and 0 where nothing was
abbrev pub told_numbers : List (Option ℤ) → List ℤ
told_numbers ahead = map (λ o. unwrap_or o (pos 0)) ahead

-- what it reads of the others' clocks: whose it reads, and how far each clock is ahead
abbrev pub clocks_read : {N : ℕ} → LiveView N → List ℕ
clocks_read v = good_told v.node.outcome.sync v.ahead

abbrev pub readings : {N : ℕ} → LiveView N → List ℤ
readings v = told_numbers v.ahead

-- by how much it corrects its clock after the period that was run last
abbrev pub correction : {N : ℕ} → LiveView N → ℤ
correction v = corrects v.scenario.config.m v.id (readings v) v.node.outcome.members (clocks_read v) v.node.outcome.mode

-- the lines of the period that was run last
abbrev pub period_answer : {N : ℕ} → LiveView N → List ℕ
period_answer v =
    alone_text v.node.phase.period v.id v.scenario.config.nodes v.scenario.config.policy.retire v.node.outcome
    ++ (if is_some v.scenario.clock then correct_text (correction v) else [])

-- after a slot was opened, what the node says in it; after a period's last slot ended, the lines of the period
abbrev pub slot_answer : {N : ℕ} → LiveView N → List ℕ
slot_answer v = if is_open v then say_text v.node.phase.slot (frame_of v.node) else period_answer v

-- what the node answers to an event that made this of it
abbrev pub answer : {N : ℕ} → LiveView N → Event → List ℕ
answer v (Begin o) = slot_answer v
answer v (Deliver from tick bytes) = []
answer v End = slot_answer v
answer v Restart = []
answer v (Reading c x) = []
answer v (Ahead j x) = []

-- ---- a line

-- the numbers of the rules on lines: what it tells is no event of this cluster, or one that may not come now
abbrev pub unknown_rule : ℕ
unknown_rule = 20

abbrev pub not_now_rule : ℕ
not_now_rule = 21

-- a line is taken and answered so, or refused by a rule
pub data Step (N : ℕ) : Type 0 where
  Goes : LiveView N → List ℕ → Step N
  Refuses : ℕ → Step N

abbrev pub event_step : {N : ℕ} → LiveView N → Event → Step N
event_step v e =
    if is_of_cluster v e then (if allowed v e then Goes (told v e) (answer (told v e) e) else Refuses not_now_rule)
    else Refuses unknown_rule

abbrev pub step_of : {N : ℕ} → LiveView N → Option Event → Step N
step_of v None = Refuses unknown_rule
step_of v (Some e) = event_step v e

-- what a line makes of a node
abbrev pub line_step : {N : ℕ} → LiveView N → List ℕ → Step N
line_step v line = step_of v (event_of line)
