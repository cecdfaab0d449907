use Rattle.std.proofs.Common.{ℕ, ◌≡◌, ◌<◌, ◌≤◌, false, [], slice_index_or}
use Rattle.node_grid.specs.NodeSet.{has_id}
use Rattle.heard_links.specs.Hearing.{IsHeard}
use Rattle.heard_links.proofs.links.Links.hear.Given as goal

abbrev pub invariant-loop-round : goal.invariant-loop-round
invariant-loop-round g l = record {
  heard : IsHeard g.V.Item.form g.V.Item.first_slot g.V.Item.tells l.phase l.self l.round;
  told : l.self.told.items ≡ l.initial.self.told.items;
  blank : l.self.blank ≡ l.initial.self.blank;
  fresh : (r j : ℕ) → l.round ≤ r → j < g.row.N → has_id (slice_index_or l.self.touched r []) j ≡ false;
}
