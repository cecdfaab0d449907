use Rattle.std.proofs.Common.{◌≡◌, ◌-◌}
use Rattle.std.specs.List.{list_all, range_with_len}
use Rattle.clock_skew.specs.Clock.{lie_of}
use Rattle.scenario.specs.Rules.{hears}
use Rattle.scenario.proofs.clocking.is_to_all.Given as goal

abbrev pub invariant-loop-node : goal.invariant-loop-node
invariant-loop-node g l = list_all (hears (lie_of l.lie)) (range_with_len l.node (l.nodes - l.node)) ≡ list_all (hears (lie_of l.lie)) (range_with_len 0 l.nodes)
