use Rattle.std.proofs.Common.{ℕ, ◌≡◌, ◌≢◌, ◌<◌, true, false}
use Rattle.node_grid.specs.NodeSet.{has_id}
use Rattle.heard_links.specs.Hearing.{talk_in, is_even}
use Rattle.heard_links.proofs.links.Links.odd.Given as goal

abbrev pub invariant-loop-round : goal.invariant-loop-round
invariant-loop-round g l = record {
  even : (r j i : ℕ) → 0 < r → r < l.round → has_id l.odd j ≡ false → j < l.phase.config.now.nodes → has_id l.phase.awake i ≡ true → i ≢ j
      → is_even (talk_in g.V.Item.form l.phase l.self) r j i ≡ true;
}
