use Rattle.std.proofs.Common.{◌≡◌, ◌+◌, ◌≤◌, ◌&&◌, map, take}
use Rattle.node_grid.specs.Count.{bit, count}
use Rattle.node_grid.specs.NodeSet.{has_id}
use Rattle.equivocation.specs.Conviction.{is_present, disagrees}
use Rattle.relay_terms.specs.Terms.{said}
use Rattle.relay_table.proofs.station.Station.is_convicted.Given as goal

abbrev pub invariant-loop-relay : goal.invariant-loop-relay
invariant-loop-relay g l = record {
  voices : l.voices ≡ count is_present (map said (take l.relay-index l.relays)) + bit (l.self.full && has_id l.self.members l.self.me);
  against : l.against ≡ count (disagrees g.V.PartialEq.eq (said l.told)) (map said (take l.relay-index l.relays));
  few_voices : l.voices ≤ l.relay-index + 1;
  few_against : l.against ≤ l.relay-index;
}
