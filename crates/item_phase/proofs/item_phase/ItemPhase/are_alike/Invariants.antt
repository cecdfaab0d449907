use Rattle.std.proofs.Common.{ℕ, ◌≡◌, ◌++◌, true}
use Rattle.node_grid.specs.NodeSet.{has_id, minus_of}
use Rattle.omh_paths.specs.declared.wrapped.Wrapped.TheVariants.{Plain}
use Rattle.omh.specs.Omh.{settled_from}
use Rattle.heard_links.specs.Talks.{members_at}
use Rattle.heard_links.specs.Hearing.{item_of}
use Rattle.item_phase.specs.Settled.{listener}
use Rattle.item_phase.proofs.item_phase.ItemPhase.are_alike.Given as goal

abbrev pub invariant-loop-c : goal.invariant-loop-c
invariant-loop-c g l = record {
  can : (goal.iterator-loop-c g).can_next l.c-iterator;
  ends : (goal.iterator-loop-c g).is_finite l.c-iterator;
  split : minus_of (members_at l.phase l.i) l.self.seen.plain ≡ l.yielded ++ l.c-iterator;
  same : (k : ℕ) → has_id l.yielded k ≡ true
      → settled_from g.V.PartialEq.eq (listener g.V.Item.form l.phase l.self.links l.i) (Plain (item_of l.self.links l.i)) k
      ≡ settled_from g.V.PartialEq.eq (listener g.V.Item.form l.phase l.self.links l.j) (Plain (item_of l.self.links l.j)) k;
}
