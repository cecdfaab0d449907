use Rattle.std.proofs.Common.{◌≡◌, Some, map, take}
use Rattle.serde_json.specs.View.{items_view}
use Rattle.json_parts.specs.Reading.{each, list_of, whole}
use Rattle.scenario_writing.proofs.lists.rows.Given as goal

abbrev pub invariant-loop-row : goal.invariant-loop-row
invariant-loop-row l = each (list_of whole) (items_view l.values.items) ≡ Some (map (λ row. row.items) (take l.row-index l.rows))
