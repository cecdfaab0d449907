use Rattle.std.proofs.Common.{◌≡◌, Some, map, take}
use Rattle.serde_json.specs.View.{items_view}
use Rattle.json_parts.specs.Reading.{each}
use Rattle.scenario.specs.Seen.{restart_view}
use Rattle.scenario_reading.specs.Keys.{restart_at}
use Rattle.scenario_writing.proofs.faults.restarts.Given as goal

abbrev pub invariant-loop-part : goal.invariant-loop-part
invariant-loop-part l = each restart_at (items_view l.values.items) ≡ Some (map restart_view (take l.part-index l.parts))
