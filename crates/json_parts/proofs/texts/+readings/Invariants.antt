use Rattle.std.proofs.Common.{◌≡◌, drop, length}
use Rattle.json.specs.Tree.{json_tokens, items_tokens, members_tokens}
use Rattle.json.specs.Value.{value_view, items_view, members_view}
use Rattle.json_parts.specs.Meaning.{items_have_readings, members_have_readings}
use Rattle.json_parts.proofs.texts.+readings.Given as goal

abbrev pub decreases-has_readings : goal.decreases-has_readings
decreases-has_readings l = length (json_tokens (value_view l.value.now))

abbrev pub decreases-items_have_readings : goal.decreases-items_have_readings
decreases-items_have_readings l = length (items_tokens (items_view l.items.now.items))

abbrev pub decreases-members_have_readings : goal.decreases-members_have_readings
decreases-members_have_readings l = length (members_tokens (members_view l.members.now.items))

abbrev pub invariant-items_have_readings-loop-item : goal.invariant-items_have_readings-loop-item
invariant-items_have_readings-loop-item l = items_have_readings (items_view (drop l.item-index l.item-items)) ≡ items_have_readings (items_view l.item-items)

abbrev pub invariant-members_have_readings-loop-member : goal.invariant-members_have_readings-loop-member
invariant-members_have_readings-loop-member l = members_have_readings (members_view (drop l.member-index l.member-items)) ≡ members_have_readings (members_view l.member-items)
