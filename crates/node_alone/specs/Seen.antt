-- What the code reads and keeps, seen as in the definitions.
use Rattle.std.specs.Prelude.{◌≡◌, ◌<◌, ◌≢◌, ◌+◌, ◌*◌, ℕ, false, All, List, map}
use Rattle.std.specs.List.{AllPairs}
use Rattle.json_parts.specs.Meaning.{view}
use Rattle.scenario.specs.Scenario.{IsScenario}
use Rattle.node_alone.specs.Log.{Entry, RecordView, is_before}
use Rattle.node_alone.specs.Parts.{EntryParts, RecordParts}
use Rattle.node_alone.specs.Rules as rules
use Rattle.node_alone.specs.declared.entry.Entry.{Entry as Kept}
use Rattle.node_alone.specs.declared.reading.EntryPart.{EntryPart}
use Rattle.node_alone.specs.declared.reading.RecordPart.{RecordPart}
use Rattle.node_alone.specs.declared.judging.Limits.{Limits}

abbrev pub part_view : EntryPart → EntryParts
part_view e = record { period = e.period; slot = e.slot; from = e.from; tick = e.tick; hex = e.hex.now }

abbrev pub parts_view : RecordPart → RecordParts
parts_view r = record { scenario = view r.scenario.now; frames = map part_view r.frames.items }

abbrev pub limits_view : Limits → rules.Limits
limits_view l = record { nodes = l.nodes; slots = l.slots; periods = l.periods; id = l.id }

abbrev pub entry_view : Kept → Entry
entry_view e = record { period = e.period; slot = e.slot; from = e.from; tick = e.tick; bytes = e.bytes.items }

-- an entry that a node of this number can be delivered
pub record IsPlaced (nodes slots periods id : ℕ) (e : Entry) : Type 0 where
  pub period : e.period < periods
  pub slot : e.slot < slots
  pub from : e.from < nodes
  pub other : e.from ≢ id

-- no entry is of an earlier slot than one before it
abbrev pub Ascends : List Entry → Type 0
Ascends es = AllPairs (λ a b. is_before a.period a.slot b ≡ false) es

-- what holds of each record
pub record IsRecord {N : ℕ} (r : RecordView N) : Type 0 where
  pub scenario : IsScenario r.scenario
  pub id : r.id < r.scenario.config.nodes
  pub placed : All (IsPlaced r.scenario.config.nodes (2 * r.scenario.config.m + 4) r.scenario.periods r.id) r.entries
  pub ascends : Ascends r.entries
