use Rattle.std.proofs.Common.{ℕ, ◌≡◌, ◌≢◌, ◌<◌, true}
use Rattle.node_grid.specs.NodeSet.{has_id}
use Rattle.heard_links.specs.Talks.{members_at}
use Rattle.item_phase.specs.Settled.{IsLaid}
use Rattle.item_phase.proofs.item_phase.ItemPhase.listen_for.Given as goal

abbrev pub invariant-loop-me : goal.invariant-loop-me
invariant-loop-me g l = record {
  links : l.self.links ≡ l.initial.self.links;
  seen : l.self.seen ≡ l.initial.self.seen;
  room : l.self.settling ≡ l.initial.self.settling;
  here : (i : ℕ) → i < l.me → has_id l.phase.awake i ≡ true → has_id (members_at l.phase i) l.commander ≡ true → l.commander ≢ i
      → IsLaid g.V.PartialEq.eq g.V.Item.form l.phase l.self.links l.self.each.items l.self.convicting i l.commander;
  others : (i c : ℕ) → i < g.row.N → c ≢ l.commander → IsLaid g.V.PartialEq.eq g.V.Item.form l.phase l.initial.self.links l.initial.self.each.items l.initial.self.convicting i c
      → IsLaid g.V.PartialEq.eq g.V.Item.form l.phase l.self.links l.self.each.items l.self.convicting i c;
}
