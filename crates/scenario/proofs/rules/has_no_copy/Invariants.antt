use Rattle.std.proofs.Common.{◌≡◌, drop, map, not}
use Rattle.std.specs.List.{list_all}
use Rattle.scenario.specs.Rules.{is_copy_part}
use Rattle.scenario.specs.Seen.{channel_view}
use Rattle.scenario.proofs.rules.has_no_copy.Given as goal

abbrev pub invariant-loop-part : goal.invariant-loop-part
invariant-loop-part l = list_all (λ c. not (is_copy_part c)) (map channel_view (drop l.part-index l.channels)) ≡ list_all (λ c. not (is_copy_part c)) (map channel_view l.channels)
