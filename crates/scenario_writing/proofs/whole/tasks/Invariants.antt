use Rattle.std.proofs.Common.{◌≡◌, Some, map, take}
use Rattle.serde_json.specs.View.{items_view}
use Rattle.json_parts.specs.Reading.{each}
use Rattle.scenario.specs.Seen.{task_view}
use Rattle.scenario_reading.specs.Keys.{task_key}
use Rattle.scenario_writing.proofs.whole.tasks.Given as goal

abbrev pub invariant-loop-part : goal.invariant-loop-part
invariant-loop-part l = each task_key (items_view l.values.items) ≡ Some (map task_view (take l.part-index l.parts))
