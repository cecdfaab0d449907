use Rattle.std.proofs.Common.{ℕ, ◌≡◌, ◌≢◌, ◌++◌, true, false}
use Rattle.node_grid.specs.NodeSet.{has_id, minus_of}
use Rattle.protocol.specs.FurtherKinds.{convicts_member}
use Rattle.heard_links.specs.Talks.{members_at}
use Rattle.item_phase.specs.Settled.{listener}
use Rattle.item_phase.proofs.item_phase.ItemPhase.convicted.Given as goal

abbrev pub invariant-loop-c : goal.invariant-loop-c
invariant-loop-c g l = record {
  can : (goal.iterator-loop-c g).can_next l.c-iterator;
  ends : (goal.iterator-loop-c g).is_finite l.c-iterator;
  split : minus_of (members_at l.phase l.i) l.self.seen.plain ≡ l.yielded ++ l.c-iterator;
  here : (k : ℕ) → has_id l.yielded k ≡ true → k ≢ l.i → has_id l.convicted k ≡ convicts_member g.V.PartialEq.eq (listener g.V.Item.form l.phase l.self.links l.i) k;
  others : (k : ℕ) → has_id l.yielded k ≡ false → has_id l.convicted k ≡ false;
}
