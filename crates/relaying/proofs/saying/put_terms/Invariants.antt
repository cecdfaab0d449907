use Rattle.std.proofs.Common.{◌≡◌, map, take}
use Rattle.std.specs.List.{flat_map}
use Rattle.omh_paths.specs.Wrapped.{wrapped}
use Rattle.frames.specs.Writing.{pasted}
use Rattle.relay_terms.specs.Terms.{said}
use Rattle.relaying.proofs.saying.put_terms.Given as goal

abbrev pub invariant-loop-place : goal.invariant-loop-place
invariant-loop-place g l = l.out ≡ pasted 0 (flat_map (g.V.RelayedItem.spelling l.nodes) (take l.place (map wrapped (map said l.terms)))) l.initial.out
