use Rattle.std.proofs.Common.{◌≡◌, drop, map}
use Rattle.json.specs.Value.{items_view}
use Rattle.json_parts.specs.Meaning.{items_data}
use Rattle.json_parts.specs.Reading.{each}
use Rattle.json_parts.proofs.Collect.{after}
use Rattle.json_parts.proofs.reading.list.Given as goal

abbrev pub invariant-loop-item : goal.invariant-loop-item
invariant-loop-item g l = after (map g.F.Form.seen l.found.items) (each (g.F.Form.reads l.form) (items_data (items_view (drop l.item-index l.item-items)))) ≡ each (g.F.Form.reads l.form) (items_data (items_view l.item-items))
