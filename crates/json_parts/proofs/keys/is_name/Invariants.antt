use Rattle.std.proofs.Common.{◌≡◌, drop, map}
use Rattle.json_parts.specs.Reading.{is_among}
use Rattle.json_parts.proofs.keys.is_name.Given as goal

abbrev pub invariant-loop-name : goal.invariant-loop-name
invariant-loop-name l = is_among (map (λ name. name.now) (drop l.name-index l.names)) l.key ≡ is_among (map (λ name. name.now) l.names) l.key
