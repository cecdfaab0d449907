use Rattle.std.proofs.Common.{ℕ, ◌≡◌, ◌≢◌, ◌<◌, true, false}
use Rattle.node_grid.specs.NodeSet.{has_id}
use Rattle.item_phase.specs.Settled.{IsLaid}
use Rattle.item_phase.proofs.item_phase.ItemPhase.agree_among.Given as goal

abbrev pub invariant-loop-commander : goal.invariant-loop-commander
invariant-loop-commander g l = record {
  links : l.self.links ≡ l.initial.self.links;
  seen : l.self.seen ≡ l.initial.self.seen;
  room : l.self.settling ≡ l.initial.self.settling;
  laid : (i c : ℕ) → c < l.commander → has_id l.phase.awake i ≡ true → has_id l.members c ≡ true → has_id l.plain c ≡ false → c ≢ i
      → IsLaid g.V.PartialEq.eq g.V.Item.form l.phase l.self.links l.self.each.items l.self.convicting i c;
}
