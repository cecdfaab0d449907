use Rattle.std.proofs.Common.{◌≡◌, Some, map, take}
use Rattle.serde_json.specs.View.{items_view}
use Rattle.json_parts.specs.Reading.{each}
use Rattle.scenario.specs.Seen.{fault_view}
use Rattle.scenario_reading.specs.Keys.{fault_at}
use Rattle.scenario_writing.proofs.faults.faults.Given as goal

abbrev pub invariant-loop-part : goal.invariant-loop-part
invariant-loop-part l = each fault_at (items_view l.values.items) ≡ Some (map fault_view (take l.part-index l.parts))
