use Rattle.std.proofs.Common.{◌≡◌, drop, take, map}
use Rattle.node_alone.specs.Rules.{entry_of, first_bad_entry}
use Rattle.node_alone.specs.Seen.{part_view, limits_view}
use Rattle.node_alone.proofs.judging.entries.Given as goal

abbrev pub invariant-loop-place : goal.invariant-loop-place
invariant-loop-place l = record {
  so_far : l.found ≡ map entry_of (map part_view (take l.place l.parts));
  left : first_bad_entry (limits_view l.limits) l.period l.slot l.place (map part_view (drop l.place l.parts)) ≡ first_bad_entry (limits_view l.limits) 0 0 0 (map part_view l.parts);
}
