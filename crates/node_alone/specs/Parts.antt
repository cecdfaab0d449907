-- The parts of a record that a JSON value is.
use Rattle.std.specs.Prelude.{ℕ, ℤ, List, [], ◌∷◌, Option, Some, None, option_map, option_and_then, codes}
use Rattle.serde_json.specs.Data.{Data, Items, no_items, item}
use Rattle.serde_json.specs.Find.{as_array, as_str, as_object}
use Rattle.json_parts.specs.Reading.{whole, list_of, required, object_of}
use Rattle.scenario_reading.specs.Keys.{◌>>=◌}

-- an entry, before any rule on its numbers is tried: four numbers, and a text, which is the list of its bytes
pub record EntryParts : Type 0 where
  pub period : ℤ
  pub slot : ℤ
  pub from : ℤ
  pub tick : ℤ
  pub hex : List ℕ

-- the scenario's value, and the entries
pub record RecordParts : Type 0 where
  pub scenario : Data
  pub frames : List EntryParts

abbrev pub entry_of_items : Data → Data → Data → Data → Data → Option EntryParts
entry_of_items a b c d e = do
  period ← whole a
  slot ← whole b
  from ← whole c
  tick ← whole d
  hex ← as_str e
  Some (record { period = period; slot = slot; from = from; tick = tick; hex = hex })

-- a list of just four whole numbers and a text
abbrev pub entry_in : Items → Option EntryParts
entry_in (item a (item b (item c (item d (item e no_items))))) = entry_of_items a b c d e
entry_in _ = None

abbrev pub entry_at : Data → Option EntryParts
entry_at d = option_and_then entry_in (as_array d)

-- an object, whatever its keys
abbrev pub any_object : Data → Option Data
any_object d = option_map (λ ms. d) (as_object d)

abbrev pub record_names : List (List ℕ)
record_names = codes "scenario" ∷ codes "frames" ∷ []

abbrev pub record_fields : Data → Option RecordParts
record_fields d = do
  scenario ← required (codes "scenario") any_object d
  frames ← required (codes "frames") (list_of entry_at) d
  Some (record { scenario = scenario; frames = frames })

-- the parts of a record: an object with these two keys alone
abbrev pub record_parts : Data → Option RecordParts
record_parts = object_of record_names record_fields
