-- What a watch keeps of a slot's deliveries, and what it finds by that.
use Rattle.std.specs.Prelude.{◌≡◌, ℕ, ◌<◌, ◌≤◌, IsSome, IfSome, ◌==◌, ◌||◌, Bool, true, false, List, [], ◌∷◌, Option, Some, None, nat_lt, nat_le, length, map, replicate, slice_set, if◌then◌else◌}
use Rattle.node_grid.specs.Capacity.{IsCapacity}
use Rattle.node_grid.specs.NodeSet.{has_id}
use Rattle.std.specs.List.{slice_index_or, range_with_len}
use Rattle.frames.specs.Content.{Expectation, Content}
use Rattle.frames.specs.Spelling.{spelling, head_of, IsInRange}
use Rattle.error_detect.specs.declared.finding.Finding.{Finding}
use Rattle.error_detect.specs.declared.finding.Finding.TheVariants.{Good, Missing, Malformed, Timing}
use Rattle.slot_plan.specs.Ticks.{is_in_window}
use Rattle.error_detect.specs.Finding.{is_good, finding, told}

-- what arrived from one sender: nothing, one delivery with its bytes or with more than any frame has, or several
pub data Arrival : Type 0 where
  nothing : Arrival
  one : ℕ → List ℕ → Arrival
  too_long : ℕ → Arrival
  several : Arrival

-- what is held of what arrived from one sender: of a delivery its bytes and what is found of it
pub data Held : Type 0 where
  held_none : Held
  held_bytes : ℕ → List ℕ → Finding → Held
  held_long : ℕ → Held
  held_many : Held

-- the greatest length of a frame, and what is held of what arrived, by sender
pub record Boxes : Type 0 where
  pub frame_max : ℕ
  pub held : List Held

-- what arrived, by what is held
abbrev pub arrival_of : Held → Arrival
arrival_of held_none = nothing
arrival_of (held_bytes t b f) = one t b
arrival_of (held_long t) = too_long t
arrival_of held_many = several

-- the numbers of a watch, what was expected in its last slot, whether that is open, and what arrived, by sender
pub record Watch : Type 0 where
  pub nodes : ℕ
  pub me : ℕ
  pub frame_max : ℕ
  pub expect : Option Expectation
  pub is_open : Bool
  pub arrived : List Arrival

abbrev pub first_delivery : ℕ → ℕ → List ℕ → Arrival
first_delivery room tick bytes = if nat_lt room (length bytes) then too_long tick else one tick bytes

-- what there is after one delivery more
abbrev pub with_delivery : ℕ → Arrival → ℕ → List ℕ → Arrival
with_delivery room nothing tick bytes = first_delivery room tick bytes
with_delivery room (one t b) tick bytes = several
with_delivery room (too_long t) tick bytes = several
with_delivery room several tick bytes = several

abbrev pub with_held : ℕ → Held → ℕ → List ℕ → Finding → Held
with_held room held_none tick bytes found = if nat_lt room (length bytes) then held_long tick else held_bytes tick bytes found
with_held room (held_bytes t b f) tick bytes found = held_many
with_held room (held_long t) tick bytes found = held_many
with_held room held_many tick bytes found = held_many

-- what is held of one sender
abbrev pub held_at : Boxes → ℕ → Held
held_at b j = slice_index_or b.held j held_none

-- after one delivery more of a sender, of which this is found
abbrev pub filled : Boxes → ℕ → ℕ → List ℕ → Finding → Boxes
filled b from tick bytes found = record { frame_max = b.frame_max; held = slice_set b.held from (with_held b.frame_max (held_at b from) tick bytes found) }

abbrev pub empty_boxes : ℕ → ℕ → Boxes
empty_boxes nodes frame_max = record { frame_max = frame_max; held = replicate nodes held_none }

abbrev pub emptied : Boxes → Boxes
emptied b = empty_boxes (length b.held) b.frame_max

-- a watch that saw no slot yet
abbrev pub fresh : ℕ → ℕ → ℕ → Watch
fresh nodes me frame_max = record { nodes = nodes; me = me; frame_max = frame_max; expect = None; is_open = false; arrived = replicate nodes nothing }

-- a watch whose slot has just been opened
abbrev pub opened : Watch → Expectation → Watch
opened w e = record { nodes = w.nodes; me = w.me; frame_max = w.frame_max; expect = Some e; is_open = true; arrived = replicate w.nodes nothing }

-- and one delivery later
abbrev pub delivered : Watch → ℕ → ℕ → List ℕ → Watch
delivered w from tick bytes =
    record {
      nodes = w.nodes;
      me = w.me;
      frame_max = w.frame_max;
      expect = w.expect;
      is_open = w.is_open;
      arrived = slice_set w.arrived from (with_delivery w.frame_max (slice_index_or w.arrived from nothing) tick bytes);
    }

abbrev pub closed : Watch → Watch
closed w = record { nodes = w.nodes; me = w.me; frame_max = w.frame_max; expect = w.expect; is_open = false; arrived = w.arrived }

-- a watch of this node whose slot was closed
pub record IsHeardBy (w : Watch) (nodes me : ℕ) : Type 0 where
  pub nodes_are : w.nodes ≡ nodes
  pub me_is : w.me ≡ me
  pub closed : w.is_open ≡ false
  pub some_slot : IsSome w.expect

-- what is expected of another sender
abbrev pub of_sender : ℕ → Expectation → Expectation
of_sender j e =
    record {
      version = e.version;
      capacity = e.capacity;
      nodes = e.nodes;
      m = e.m;
      period = e.period;
      slot = e.slot;
      sender = j;
      members = e.members;
      state_len = e.state_len;
      tasks = e.tasks;
      due = e.due;
    }

-- no frame that is expected of any sender has more bytes than the room
abbrev pub HasRoom : ℕ → Expectation → Type 0
HasRoom room e = (j : ℕ) (c : Content) → IsInRange (of_sender j e) c → length (spelling e.nodes (head_of (of_sender j e)) c) ≤ room

-- what is found of what arrived
abbrev pub found_by : Expectation → Arrival → Finding
found_by e nothing = Missing
found_by e (one tick bytes) = finding e ((tick, bytes) ∷ [])
found_by e (too_long tick) = if is_in_window tick then Malformed else Timing
found_by e several = Malformed

-- what the sender said, where that is Good
abbrev pub told_by : Expectation → Arrival → Option Content
told_by e nothing = None
told_by e (one tick bytes) = told e ((tick, bytes) ∷ [])
told_by e (too_long tick) = None
told_by e several = None

abbrev pub found_in : Option Expectation → ℕ → Arrival → Finding
found_in None j a = Good
found_in (Some e) j a = found_by (of_sender j e) a

-- the finding of a node: Good for the watch's own, and where there is no node
abbrev pub finding_at : Watch → ℕ → Finding
finding_at w j = if (j == w.me) || nat_le w.nodes j then Good else found_in w.expect j (slice_index_or w.arrived j nothing)

abbrev pub findings : ℕ → Watch → List Finding
findings n w = map (finding_at w) (range_with_len 0 n)

abbrev pub told_in : Option Expectation → ℕ → Arrival → Option Content
told_in None j a = None
told_in (Some e) j a = told_by (of_sender j e) a

-- what a sender said, exactly where its finding is Good
abbrev pub told_at : Watch → ℕ → Option Content
told_at w j = told_in w.expect j (slice_index_or w.arrived j nothing)

-- what holds of the inside of a watch: an inbox for each node, and an expectation that can be read by
pub record AreInboxes (n nodes : ℕ) (expect : Option Expectation) (held : List Held) : Type 0 where
  pub capacity : IsCapacity n
  pub few : nodes ≤ n
  pub each : length held ≡ nodes
  pub readable : IfSome expect (λ e. (e.nodes ≡ nodes) × (0 < e.nodes) × (e.m ≤ 3))

-- once a slot is closed, the nodes that are marked are those whose finding is Good
abbrev pub AreMarked : ℕ → Watch → List ℕ → Type 0
AreMarked n w good = w.is_open ≡ false → IsSome w.expect → (j : ℕ) → j < n → has_id good j ≡ is_good (finding_at w j)

-- how a watch is seen
abbrev pub watch_of : ℕ → ℕ → Option Expectation → Bool → Boxes → Watch
watch_of nodes me e shown b = record { nodes = nodes; me = me; frame_max = b.frame_max; expect = e; is_open = shown; arrived = map arrival_of b.held }

-- what is found of what is held: with bytes it is held what is found of them
abbrev pub found_held : Held → Finding
found_held held_none = Missing
found_held (held_bytes t b f) = f
found_held (held_long t) = if is_in_window t then Malformed else Timing
found_held held_many = Malformed

-- what is held as found of bytes is what is found of them
abbrev pub IsFoundOf : Expectation → Held → Type 0
IsFoundOf e held_none = Unit {0}
IsFoundOf e (held_bytes t b f) = f ≡ found_by e (one t b)
IsFoundOf e (held_long t) = Unit {0}
IsFoundOf e held_many = Unit {0}

abbrev pub AreFound : Option Expectation → List Held → Type 0
AreFound o held = (e : Expectation) → o ≡ Some e → (j : ℕ) → IsFoundOf (of_sender j e) (slice_index_or held j held_none)
