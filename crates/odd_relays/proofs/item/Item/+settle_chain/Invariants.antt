use Rattle.std.proofs.Common.{ℕ, ◌≡◌, ◌<◌, ◌+◌, ◌-◌, ◌*◌, ◌++◌, true, length, slice_index_or}
use Rattle.node_grid.specs.NodeSet.{has_id}
use Rattle.omh_paths.specs.declared.wrapped.Wrapped.TheVariants.{Fault}
use Rattle.omh_paths.specs.Paths.{outside}
use Rattle.odd_relays.specs.Telling.{telling}
use Rattle.odd_relays.specs.Direct.{direct_world}
use Rattle.odd_relays.specs.Work.{KeepsBelow}
use Rattle.odd_relays.proofs.ChainLaws.{chain_term}
use Rattle.odd_relays.proofs.item.Item.+settle_chain.Given as goal

abbrev pub decreases-settle_chain : goal.decreases-settle_chain
decreases-settle_chain g l = l.self.now.phase.rounds + 1 - length l.path.now

abbrev pub invariant-loop-q : goal.invariant-loop-q
invariant-loop-q g l = record {
  can : (goal.iterator-loop-q g).can_next l.q-iterator;
  ends : (goal.iterator-loop-q g).is_finite l.q-iterator;
  split : outside l.self.phase.members l.path ≡ l.yielded ++ l.q-iterator;
  count : l.count ≡ length l.yielded;
  long : length l.work ≡ length l.initial.work;
  terms : (i : ℕ) → has_id l.receivers i ≡ true → (j : ℕ) → j < length l.yielded
      → slice_index_or l.work (l.from + 16 + 16 * i + j) (Fault 0)
      ≡ chain_term g.V.PartialEq.eq (direct_world (telling g.S.Relays.says l.self)) l.self.odd (l.self.phase.rounds - length l.path) i l.path (slice_index_or l.yielded j 0);
  kept : KeepsBelow l.from l.initial.work l.work;
}
