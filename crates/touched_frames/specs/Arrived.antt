-- What a receiver has of a whole frame.
use Rattle.std.specs.Prelude.{ℕ, ◌≡◌, ◌<◌, ◌≤◌, Bool, true, false, ◌==◌, List, Option, Some}
use Rattle.node_grid.specs.Capacity.{IsCapacity}
use Rattle.slot_plan.specs.Ticks.{is_in_window}
use Rattle.frames.specs.Content.{Content, Expectation}
use Rattle.frames.specs.Seen.{content}
use Rattle.frames.specs.Spelling.{head_of, IsInRange}
use Rattle.frames.specs.declared.frame.Head.{Head}
use Rattle.error_detect.specs.Finding.{Delivery, found_of, told_of, kind_of}
use Rattle.fault_classes.specs.Change.{Change}
use Rattle.fault_classes.specs.Change.Change.{Drop, Cut, Twice, Time, Set, Raw}
use Rattle.fault_link.specs.Arrival.{patched}
use Rattle.protocol.specs.Arrival.{Arrival, arrival, arrived, read_as}
use Rattle.protocol.specs.Arrival.Arrival.{Bad, Good}
use Rattle.touched_frames.specs.declared.arrived.Arrived.{Arrived}
use Rattle.touched_frames.specs.declared.arrived.Arrived.TheVariants as code

-- what the code answers, in the words of the run
abbrev pub seen : {N : ℕ} → ℕ → Arrived N → Arrival Content
seen nodes (code.Good body) = Good (content nodes body)
seen nodes (code.Bad kind) = Bad kind

-- what a receiver has of bytes that came once and in time, by what they say
abbrev pub arrived_as : Option Content → Arrival Content
arrived_as o = arrived Some (kind_of (found_of o)) (told_of o)

-- whether what is found of a frame depends on its bytes
abbrev pub needs_bytes : Change → Bool
needs_bytes Drop = false
needs_bytes (Cut k) = k == 0
needs_bytes Twice = false
needs_bytes (Time t) = is_in_window t
needs_bytes (Set at bytes) = true
needs_bytes (Raw bytes) = true

-- a frame after its own bytes were replaced
abbrev pub replaced : Change → List ℕ → List ℕ
replaced (Set at bytes) frame = patched at bytes frame
replaced _ frame = frame

-- a cluster of so many nodes and rounds, in which frames are received
pub record IsCluster (capacity nodes rounds : ℕ) : Type 0 where
  pub capacity_ok : IsCapacity capacity
  pub some_nodes : 0 < nodes
  pub few_nodes : nodes ≤ capacity
  pub few_rounds : rounds ≤ 3

-- a sender by whom a content is sent so
pub record IsSentAs (sender : Expectation) (nodes : ℕ) (head : Head) (c : Content) : Type 0 where
  pub nodes_are : sender.nodes ≡ nodes
  pub head_is : head_of sender ≡ head
  pub in_range : IsInRange sender c

-- a part of what a receiver has
abbrev pub part_of : {C : Type 0} → (Content → Option C) → Arrival Content → Arrival C
part_of part (Bad k) = Bad k
part_of part (Good c) = read_as (part c)

-- Parts law: what a receiver has of a part of a frame is that part of what it has of the frame
abbrev pub PartsLaw : Type 0 → Type 0
PartsLaw C = (part : Content → Option C) (e : Expectation) (ds : List Delivery) → arrival part e ds ≡ part_of part (arrival Some e ds)
