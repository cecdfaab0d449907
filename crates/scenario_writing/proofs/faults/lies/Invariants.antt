use Rattle.std.proofs.Common.{◌≡◌, Some, map, take}
use Rattle.serde_json.specs.View.{items_view}
use Rattle.json_parts.specs.Reading.{each}
use Rattle.scenario.specs.Seen.{lie_view}
use Rattle.scenario_reading.specs.Keys.{lie_key}
use Rattle.scenario_writing.proofs.faults.lies.Given as goal

abbrev pub invariant-loop-part : goal.invariant-loop-part
invariant-loop-part l = each lie_key (items_view l.values.items) ≡ Some (map lie_view (take l.part-index l.parts))
