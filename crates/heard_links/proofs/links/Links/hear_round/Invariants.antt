use Rattle.std.proofs.Common.{ℕ, ◌≡◌, ◌≢◌, ◌<◌, ◌≤◌, true, false, [], slice_index_or}
use Rattle.node_grid.specs.NodeSet.{has_id}
use Rattle.heard_links.specs.Hearing.{IsCame, IsHeard, came_at, talk_in}
use Rattle.heard_links.proofs.links.Links.hear_round.Given as goal

abbrev pub invariant-loop-from : goal.invariant-loop-from
invariant-loop-from g l = record {
  heard : IsHeard g.V.Item.form g.V.Item.first_slot g.V.Item.tells l.phase l.self l.round;
  told : l.self.told.items ≡ l.initial.self.told.items;
  blank : l.self.blank ≡ l.initial.self.blank;
  fresh : (r j : ℕ) → l.round < r → j < g.row.N → has_id (slice_index_or l.self.touched r []) j ≡ false;
  behind : (j : ℕ) → l.from ≤ j → j < g.row.N → has_id (slice_index_or l.self.touched l.round []) j ≡ false;
  unjudged : (j : ℕ) → j < l.from → has_id l.judged j ≡ false → has_id (slice_index_or l.self.touched l.round []) j ≡ false;
  here : (j i : ℕ) → j < l.from → has_id l.judged j ≡ true → has_id l.phase.awake i ≡ true → i ≢ j
      → IsCame (talk_in g.V.Item.form l.phase l.initial.self) l.phase.config.now.m l.round j i (came_at l.self l.round j i);
}
