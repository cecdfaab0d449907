use Rattle.std.proofs.Common.{ℕ, ◌≡◌, ◌≢◌, ◌<◌, ◌⊎◌, true, false}
use Rattle.node_grid.specs.NodeSet.{has_id}
use Rattle.heard_links.specs.Talks.{IsEvenTo}
use Rattle.heard_links.proofs.phase.Phase.uneven.Given as goal

abbrev pub invariant-loop-to : goal.invariant-loop-to
invariant-loop-to g l = record {
  can : (goal.iterator-loop-to g).can_next l.to-iterator;
  ends : (goal.iterator-loop-to g).is_finite l.to-iterator;
  left : (k : ℕ) → has_id l.to-iterator k ≡ true → (has_id l.self.awake k ≡ true) × (k ≢ l.from);
  even : (k : ℕ) → has_id l.self.awake k ≡ true → k ≢ l.from → (has_id l.to-iterator k ≡ true) ⊎ (has_id l.uneven k ≡ false → IsEvenTo l.self l.round l.from k);
  awake : (k : ℕ) → k < l.self.config.now.nodes → has_id l.uneven k ≡ true → has_id l.self.awake k ≡ true;
  other : (k : ℕ) → k < l.self.config.now.nodes → has_id l.uneven k ≡ true → k ≢ l.from;
}
