use Rattle.std.proofs.Common.{length, refl}
use Rattle.node_grid.specs.NumberFacts.{offset_fits}
use Rattle.omh.proofs.station.set_value.Goals as goal

pub offset_bounds-values-place : goal.offset_bounds-values-place
offset_bounds-values-place g c = record { fits = offset_fits c.args.place (length c.args.values.now) _ c.requires c.well_formed.0.1 }

pub bounds-values-place : goal.bounds-values-place
bounds-values-place g c = c.requires

pub returns : goal.returns
returns g c = refl
