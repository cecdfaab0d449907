-- The entries that a table keeps and lends, seen as in the definitions.
use Rattle.std.specs.Prelude.{ℕ, ◌≤◌, ◌-◌, List, take, drop}
use Rattle.node_alone.specs.Log.{Entry}
use Rattle.node_alone.specs.declared.table.Header.{Header}
use Rattle.node_alone.specs.declared.table.Delivery.{Delivery}

-- an entry whose bytes stand among these
abbrev pub header_view : List ℕ → Header → Entry
header_view bytes h = record { period = h.period; slot = h.slot; from = h.from; tick = h.tick; bytes = take (h.end - h.start) (drop h.start bytes) }

-- its bytes are among so many
pub record IsWithin (count : ℕ) (h : Header) : Type 0 where
  pub order : h.start ≤ h.end
  pub end : h.end ≤ count

abbrev pub delivery_view : Delivery → Entry
delivery_view d = record { period = d.period; slot = d.slot; from = d.from; tick = d.tick; bytes = d.bytes.now }
