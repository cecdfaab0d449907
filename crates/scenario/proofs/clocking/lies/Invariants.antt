use Rattle.std.proofs.Common.{◌≡◌, drop, take, map}
use Rattle.clock_skew.specs.Clock.{lie_of}
use Rattle.scenario.specs.Line.{lie_in}
use Rattle.scenario.specs.Rules.{first_bad, fits_lie}
use Rattle.scenario.specs.Seen.{lie_view}
use Rattle.scenario.proofs.clocking.lies.Given as goal

abbrev pub invariant-loop-place : goal.invariant-loop-place
invariant-loop-place g l = record {
  so_far : map lie_of l.lies.items ≡ map (lie_in l.nodes) (map lie_view (take l.place l.parts));
  left : first_bad (fits_lie l.plan) l.place (map lie_view (drop l.place l.parts)) ≡ first_bad (fits_lie l.plan) 0 (map lie_view l.parts);
}
