use Rattle.std.proofs.Common.{◌≡◌, ◌≤◌, drop}
use Rattle.worked_chains.specs.Lies.{mixed}
use Rattle.worked_chains.proofs.lies.Lies.told.Given as goal

abbrev pub invariant-loop-q : goal.invariant-loop-q
invariant-loop-q l = record {
  mixed : mixed l.k (drop l.q-index l.nodes) ≡ mixed l.initial.k l.nodes;
  small : l.k ≤ 250;
}
