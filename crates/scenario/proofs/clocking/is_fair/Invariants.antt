use Rattle.std.proofs.Common.{◌≡◌, ◌+◌, ◌-◌}
use Rattle.std.specs.List.{list_all, range_with_len}
use Rattle.clock_skew.specs.Clock.{lie_of}
use Rattle.scenario.specs.Rules.{may_tell_in}
use Rattle.scenario.proofs.clocking.is_fair.Given as goal

abbrev pub invariant-loop-period : goal.invariant-loop-period
invariant-loop-period g l =
    list_all (may_tell_in l.plan (lie_of l.lie)) (range_with_len l.period (l.lie.last + 1 - l.period))
    ≡ list_all (may_tell_in l.plan (lie_of l.lie)) (range_with_len l.lie.first (l.lie.last + 1 - l.lie.first))
