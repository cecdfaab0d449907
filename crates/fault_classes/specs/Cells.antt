-- The table of a plan's lines. Frames are counted through, by period, sender, slot and receiver, and each block of the table has a
-- cell for each slot and receiver.
use Rattle.std.specs.Prelude.{◌≡◌, ◌≢◌, ℕ, ◌+◌, ◌*◌, ◌/◌, ◌%◌, ◌≤◌, min, Bool, true, ◌&&◌, ◌==◌, nat_lt, nat_le, List, length, slice_index, if◌then◌else◌}
use Rattle.std.specs.List.{position_or_len}
use Rattle.node_grid.specs.Capacity.{IsCapacity}
use Rattle.node_grid.specs.NodeSet.{has_id}
use Rattle.fault_classes.specs.Line.{Line, touches}
use Rattle.fault_classes.specs.declared.blocks.Blocks.{Blocks}

-- the number that stands for the line at place k; lines past the most that a plan may have share one number
abbrev pub mark_of : ℕ → ℕ
mark_of k = min k 4096 + 1

-- the number of the first line that passes, and 0 where none does
abbrev pub entry_of : (Line → Bool) → List Line → ℕ
entry_of test lines = if nat_lt (position_or_len test lines) (length lines) then mark_of (position_or_len test lines) else 0

-- the number of a frame: a row has one for each receiver, a block a row for each slot, and a period a block for each sender
abbrev pub cell_at : ℕ → ℕ → ℕ → ℕ → ℕ → ℕ → ℕ
cell_at nodes slots p s i j = ((p * nodes + i) * slots + s) * nodes + j

abbrev pub receiver_of : ℕ → ℕ → ℕ
receiver_of nodes c = c % nodes

abbrev pub slot_of : ℕ → ℕ → ℕ → ℕ
slot_of nodes slots c = c / nodes % slots

abbrev pub block_of : ℕ → ℕ → ℕ → ℕ
block_of nodes slots c = c / nodes / slots

-- whether a line touches the frame of this number
abbrev pub touches_cell : ℕ → ℕ → ℕ → Line → Bool
touches_cell nodes slots c = touches (block_of nodes slots c / nodes) (slot_of nodes slots c) (block_of nodes slots c % nodes) (receiver_of nodes c)

-- whether the line touches frames that node i sends in period p
abbrev pub touches_sender : ℕ → ℕ → Line → Bool
touches_sender p i l = l.from == i && (nat_le l.first p && nat_le p l.last)

-- the same of the sender of this number
abbrev pub touches_block : ℕ → ℕ → Line → Bool
touches_block nodes k = touches_sender (k / nodes) (k % nodes)

-- the place of a frame's cell, in the block that its period's sender has
abbrev pub place_at : ℕ → ℕ → List ℕ → ℕ → ℕ
place_at nodes slots blocks c = (slice_index blocks (block_of nodes slots c) * slots + slot_of nodes slots c) * nodes + receiver_of nodes c

-- each frame's cell has the number of the line that touches the frame
pub record IsTable (nodes slots : ℕ) (blocks : Blocks) (lines : List Line) (cells : List ℕ) : Type 0 where
  pub whole : length cells ≡ (blocks.last + 1) * slots * nodes
  pub entries : (c : ℕ) → slice_index cells (place_at nodes slots blocks.numbers.items c) ≡ entry_of (touches_cell nodes slots c) lines

-- the cells of one row, and those of one block, that a line with these receivers and slots touches
abbrev pub in_row : ℕ → ℕ → List ℕ → ℕ → Bool
in_row nodes row to c = c / nodes == row && has_id to (c % nodes)

abbrev pub in_block : ℕ → ℕ → ℕ → List ℕ → List ℕ → ℕ → Bool
in_block nodes slots block to chosen c = (block_of nodes slots c == block && has_id chosen (slot_of nodes slots c)) && has_id to (c % nodes)

-- the mark was put at the place of each that passes the test, which all were free
pub record IsMarked (place : ℕ → ℕ) (test : ℕ → Bool) (mark : ℕ) (old new : List ℕ) : Type 0 where
  pub whole : length new ≡ length old
  pub cells : (c : ℕ) → slice_index new (place c) ≡ (if test c then mark else slice_index old (place c))
  pub free : (c : ℕ) → test c ≡ true → slice_index old (place c) ≡ 0

-- the place of one that passes the test isn't free
abbrev pub IsTaken : (ℕ → ℕ) → (ℕ → Bool) → List ℕ → Type 0
IsTaken place test cells = (c : ℕ) × (test c ≡ true) × (slice_index cells (place c) ≢ 0)

-- where each number is a place of its own
abbrev pub itself : ℕ → ℕ
itself c = c

-- the sizes of a plan
pub record IsShape (n nodes slots periods : ℕ) : Type 0 where
  pub capacity : IsCapacity n
  pub some_nodes : 3 ≤ nodes
  pub few_nodes : nodes ≤ n
  pub some_slots : 4 ≤ slots
  pub few_slots : slots ≤ 10
  pub some_periods : 1 ≤ periods
  pub few_periods : periods ≤ 1024
