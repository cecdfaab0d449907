use Rattle.std.proofs.Common.{◌≡◌, Some, map, take}
use Rattle.serde_json.specs.View.{items_view}
use Rattle.json_parts.specs.Reading.{each, whole}
use Rattle.scenario_writing.proofs.lists.numbers.Given as goal

abbrev pub invariant-loop-n : goal.invariant-loop-n
invariant-loop-n l = each whole (items_view l.values.items) ≡ Some (map (λ z. z) (take l.n-index l.numbers))
