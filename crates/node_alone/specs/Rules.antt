-- Which rule refuses a record: the first that fails, at the first place at which it fails. Between rule 15 and rule 16 come those of the
-- scenario.
use Rattle.std.specs.Prelude.{◌≡◌, ℕ, ◌+◌, ◌==◌, pos, Bool, not, ◌&&◌, nat_lt, List, [], ◌∷◌, map, Option, None, Some, is_some, unwrap_or, if◌then◌else◌}
use Rattle.std.specs.Option.{option_or}
use Rattle.std.specs.Result.{result_ok}
use Rattle.hex.specs.Hex.{decode_of}
use Rattle.slot_plan.specs.Slots.{slot_count}
use Rattle.slot_plan.specs.Ticks.{last_tick}
use Rattle.serde_json.specs.Data.{Data}
use Rattle.scenario.specs.Parts.{ScenarioParts}
use Rattle.scenario_reading.specs.Keys.{parts_read}
use Rattle.scenario.specs.Numbers.{is_between, is_below, natural}
use Rattle.scenario.specs.Rules.{refusal, unless, at_place}
use Rattle.scenario.specs.Scenario.{ScenarioView}
use Rattle.scenario.specs.Given.{scenario_of}
use Rattle.node_alone.specs.Log.{Entry, RecordView, is_before}
use Rattle.node_alone.specs.Parts.{EntryParts, RecordParts, record_parts}

-- the bytes that a text is in hexadecimal
abbrev pub entry_bytes : List ℕ → Option (List ℕ)
entry_bytes text = result_ok (decode_of text)

-- which numbers an entry of node id's log can have
pub record Limits : Type 0 where
  pub nodes : ℕ
  pub slots : ℕ
  pub periods : ℕ
  pub id : ℕ

abbrev pub limits_of : {N : ℕ} → ScenarioView N → ℕ → Limits
limits_of sc id = record { nodes = sc.config.nodes; slots = slot_count sc.config.m; periods = sc.periods; id = id }

-- a period that is run, a slot of it, another node, and a tick
abbrev pub is_entry_placed : Limits → EntryParts → Bool
is_entry_placed l e = is_below l.periods e.period && (is_below l.slots e.slot && (is_below l.nodes e.from && (not (natural e.from == l.id) && is_between (pos 0) (pos last_tick) e.tick)))

abbrev pub is_entry : Limits → EntryParts → Bool
is_entry l e = is_entry_placed l e && is_some (entry_bytes e.hex)

abbrev pub entry_of : EntryParts → Entry
entry_of e = record { period = natural e.period; slot = natural e.slot; from = natural e.from; tick = natural e.tick; bytes = unwrap_or (entry_bytes e.hex) [] }

-- the place of the first entry that fails rule 17, where so many entries come before it, the last of them in slot t of period p. Nothing
-- is before slot 0 of period 0
abbrev pub first_bad_entry : Limits → ℕ → ℕ → ℕ → List EntryParts → Option ℕ
first_bad_entry l p t k [] = None
first_bad_entry l p t k (e ∷ es) = if is_entry l e && not (is_before p t (entry_of e)) then first_bad_entry l (entry_of e).period (entry_of e).slot (k + 1) es else Some k

-- rules 16 and 17, for an accepted scenario
abbrev pub log_refusal : {N : ℕ} → ScenarioView N → ℕ → List EntryParts → Option (ℕ × ℕ)
log_refusal sc id es = option_or (unless (nat_lt id sc.config.nodes) 16 0) (at_place 17 (first_bad_entry (limits_of sc id) 0 0 0 es))

-- the scenario's own rules, and then those
abbrev pub parts_refusal : ℕ → ℕ → List EntryParts → Option ScenarioParts → Option (ℕ × ℕ)
parts_refusal capacity id es None = Some (1, 0)
parts_refusal capacity id es (Some sc) = option_or (refusal capacity sc) (log_refusal (scenario_of capacity sc) id es)

abbrev pub log_refusal_on : ℕ → ℕ → Option RecordParts → Option (ℕ × ℕ)
log_refusal_on capacity id None = Some (15, 0)
log_refusal_on capacity id (Some r) = parts_refusal capacity id r.frames (parts_read r.scenario)

-- the first rule that fails of a record of node id, with its place
abbrev pub record_refusal : ℕ → ℕ → Data → Option (ℕ × ℕ)
record_refusal capacity id d = log_refusal_on capacity id (record_parts d)

-- a JSON value of a record that no rule refuses, and what it says
pub record IsAcceptedRecord {capacity : ℕ} (id : ℕ) (d : Data) (r : RecordView capacity) : Type 0 where
  pub parts : RecordParts
  pub scenario : ScenarioParts
  pub reads : record_parts d ≡ Some parts
  pub reads_scenario : parts_read parts.scenario ≡ Some scenario
  pub unrefused : record_refusal capacity id d ≡ None
  pub says : r ≡ record { scenario = scenario_of capacity scenario; id = id; entries = map entry_of parts.frames }
