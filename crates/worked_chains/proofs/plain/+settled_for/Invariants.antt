use Rattle.std.proofs.Common.{◌-◌}
use Rattle.worked_chains.proofs.plain.+settled_for.Given as goal

abbrev pub decreases-settled_for : goal.decreases-settled_for
decreases-settled_for l = 4 - l.len

abbrev pub invariant-loop-q : goal.invariant-loop-q
invariant-loop-q l = (goal.iterator-loop-q).can_next l.q-iterator × (goal.iterator-loop-q).is_finite l.q-iterator
