use Rattle.std.proofs.Common.{ℕ, ◌≡◌, ◌<◌, map, length, get_or}
use Rattle.omh_paths.specs.declared.wrapped.Wrapped.TheVariants.{Fault}
use Rattle.relay_terms.specs.Terms.{said}
use Rattle.relay_table.specs.Settling.{settled_at_place}
use Rattle.relay_table.proofs.station.Station.hand_out.Given as goal

abbrev pub invariant-loop-node : goal.invariant-loop-node
invariant-loop-node g l = record {
  items : (c : ℕ) → c < l.node → get_or (map said l.items) c (Fault 0) ≡ settled_at_place l.self.members l.self.others l.self.me l.self.full (said l.own) (map said l.settled) c;
  long : length l.items ≡ length l.fn.items;
}
