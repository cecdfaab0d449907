-- The sizes that the code builds, seen as those of the definitions.
use Rattle.scenario.specs.Parts.{SizeParts}
use Rattle.scenario_reading.specs.declared.parts.Sizes.{Sizes}

abbrev pub sizes_view : Sizes → SizeParts
sizes_view s = record { nodes = s.nodes; m = s.m; periods = s.periods; frame = s.frame; order = s.order }
