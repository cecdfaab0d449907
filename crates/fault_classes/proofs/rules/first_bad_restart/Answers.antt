use Rattle.std.proofs.Common.{length, refl, arith}
use Rattle.node_grid.specs.NumberFacts.{fewer_left}
use Rattle.fault_classes.proofs.Ranges.{place_fits}
use Rattle.fault_classes.proofs.rules.first_bad_restart.Goals as goal

pub loop-place-init : goal.loop-place-init
loop-place-init c = refl

pub overflow_cast-result : goal.overflow_cast-result
overflow_cast-result c = place_fits c.loop-place.place (length c.args.restarts.now) c.loop-place-test.true c.requires.few

pub loop-place-smaller : goal.loop-place-smaller
loop-place-smaller c = fewer_left (length c.args.restarts.now) c.loop-place.place c.loop-place-test.true

pub bounds-restarts-place : goal.bounds-restarts-place
bounds-restarts-place c = c.loop-place-test.true

pub overflow_sub-in_range : goal.overflow_sub-in_range
overflow_sub-in_range c = c.requires.periods

pub offset_bounds-restarts-place : goal.offset_bounds-restarts-place
offset_bounds-restarts-place c = omega (arith, c.loop-place-test.true, c.requires.few)

pub comes_after-requires : goal.comes_after-requires
comes_after-requires c = tt
