-- Which lines touch which frames, as a plan keeps it.
use Rattle.std.specs.Prelude.{◌≡◌, ℕ, ◌<◌, ◌&&◌, nat_le, [], List, length, if◌then◌else◌}
use Rattle.std.specs.List.{slice_index_or, list_any}
use Rattle.node_grid.specs.NodeSet.{ids_where, with_id}
use Rattle.fault_classes.specs.declared.touches.Touches.{Touches}
use Rattle.fault_classes.specs.Line.{Line}
use Rattle.fault_classes.specs.Blocks.{AreBlocks}
use Rattle.fault_classes.specs.Cells.{IsTable, touches_sender, touches_block}

-- the sender of a line was put into the set of each of the line's periods
pub record IsSent (n : ℕ) (l : Line) (old new : List (List ℕ)) : Type 0 where
  pub long : length new ≡ length old
  pub members : (p : ℕ) → slice_index_or new p [] ≡ (if nat_le l.first p && nat_le p l.last then with_id n (slice_index_or old p []) l.from else slice_index_or old p [])

-- for each period the set of the nodes a frame of which some line touches
pub record IsTouched (n periods : ℕ) (lines : List Line) (sets : List (List ℕ)) : Type 0 where
  pub long : length sets ≡ periods
  pub members : (p : ℕ) → p < periods → slice_index_or sets p [] ≡ ids_where (λ i. list_any (touches_sender p i) lines) n

-- the senders of the touched frames, a block for each of them, and the table
pub record AreTouches {n : ℕ} (nodes slots periods : ℕ) (lines : List Line) (touches : Touches n) : Type 0 where
  pub senders : IsTouched n periods lines touches.senders.items
  pub blocks : AreBlocks (λ k. list_any (touches_block nodes k) lines) nodes periods touches.blocks
  pub table : IsTable nodes slots touches.blocks lines touches.cells.items
