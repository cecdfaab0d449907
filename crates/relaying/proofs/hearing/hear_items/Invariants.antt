use Rattle.std.proofs.Common.{◌≡◌}
use Rattle.protocol.specs.Heard.{heard}
use Rattle.relay_rules.specs.Hearing.{slot_rounds, all_told}
use Rattle.relaying.proofs.Putting.{told}
use Rattle.relaying.proofs.hearing.hear_items.Given as goal

abbrev pub invariant-loop-node : goal.invariant-loop-node
invariant-loop-node g l = l.table ≡ told (all_told l.initial.table.members l.initial.table.me 0 l.node) (heard (slot_rounds g.V.RelayedItem.form l.initial.table.members l.watch)) l.initial.table
