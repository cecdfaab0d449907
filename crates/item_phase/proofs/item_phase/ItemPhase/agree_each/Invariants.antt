use Rattle.std.proofs.Common.{ℕ, ◌≡◌, ◌≢◌, ◌<◌, true}
use Rattle.node_grid.specs.NodeSet.{has_id}
use Rattle.heard_links.specs.Talks.{members_at}
use Rattle.item_phase.specs.Settled.{IsLaid}
use Rattle.item_phase.proofs.item_phase.ItemPhase.agree_each.Given as goal

abbrev pub invariant-loop-commander : goal.invariant-loop-commander
invariant-loop-commander g l = record {
  links : l.self.links ≡ l.initial.self.links;
  seen : l.self.seen ≡ l.initial.self.seen;
  room : l.self.settling ≡ l.initial.self.settling;
  laid : (i c : ℕ) → c < l.commander → has_id l.phase.awake i ≡ true → has_id (members_at l.phase i) c ≡ true → c ≢ i
      → IsLaid g.V.PartialEq.eq g.V.Item.form l.phase l.self.links l.self.each.items l.self.convicting i c;
}
