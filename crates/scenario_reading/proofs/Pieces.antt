-- Read piece by piece, the parts of a scenario are what stands at its keys.
use Rattle.std.proofs.Common.{ℤ, pos, ◌≡◌, Option, Some, None, refl}
use Rattle.std.specs.Prelude.{codes, option_map}
use Rattle.serde_json.specs.Data.{Data}
use Rattle.json_parts.specs.Reading.{whole, required, optional}
use Rattle.scenario.specs.Parts.{SizeParts, ScenarioParts}
use Rattle.scenario_reading.specs.Keys.{◌>>=◌, scenario_fields}
use Rattle.scenario_reading.specs.Pieces.{size_fields, policy_in, channels_in, tasks_in, faults_in, restarts_in, clock_key, other_fields, pieces_in}

-- what follows five options may be looked at once all of them are there
sizes_first : (a b c : Option ℤ) (e : Option (Option ℤ)) (f : Option ℤ) (k : SizeParts → Option ScenarioParts)
    → ((a >>= λ (nodes : ℤ). b >>= λ (m : ℤ). c >>= λ (periods : ℤ). e >>= λ (frame : Option ℤ). f >>= λ (order : ℤ).
    Some (record { nodes = nodes; m = m; periods = periods; frame = frame; order = order })) >>= k)
    ≡ (a >>= λ (nodes : ℤ). b >>= λ (m : ℤ). c >>= λ (periods : ℤ). e >>= λ (frame : Option ℤ). f >>= λ (order : ℤ).
    k (record { nodes = nodes; m = m; periods = periods; frame = frame; order = order }))
sizes_first None b c e f k = refl
sizes_first (Some n) None c e f k = refl
sizes_first (Some n) (Some m) None e f k = refl
sizes_first (Some n) (Some m) (Some p) None f k = refl
sizes_first (Some n) (Some m) (Some p) (Some frame) None k = refl
sizes_first (Some n) (Some m) (Some p) (Some frame) (Some order) k = refl

pub pieces_are : (version : ℤ) (d : Data) → pieces_in version d ≡ scenario_fields version d
unfolding scenario_fields size_fields other_fields policy_in channels_in tasks_in faults_in restarts_in clock_key
pieces_are version d =
    sizes_first (required (codes "nodes") whole d) (required (codes "m") whole d) (required (codes "periods") whole d) (optional (codes "frame") None (λ x. option_map Some (whole x)) d)
    (optional (codes "order") (pos 0) whole d) (other_fields version d)
