use Rattle.std.proofs.Common.{◌≡◌, Some, map, take}
use Rattle.serde_json.specs.View.{items_view}
use Rattle.json_parts.specs.Reading.{each}
use Rattle.scenario.specs.Seen.{channel_view}
use Rattle.scenario_reading.specs.Keys.{channel_at}
use Rattle.scenario_writing.proofs.whole.channels.Given as goal

abbrev pub invariant-loop-part : goal.invariant-loop-part
invariant-loop-part l = each (channel_at l.version) (items_view l.values.items) ≡ Some (map channel_view (take l.part-index l.parts))
