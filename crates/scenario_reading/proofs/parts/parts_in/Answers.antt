use Rattle.std.proofs.Common.{◌≡◌, ℤ, rules, w64, to_z-of_z, sym, subst, ◌∙◌, refl}
use Rattle.std.specs.Prelude.{FitsSigned}
use Rattle.json_parts.specs.Meaning.{view}
use Rattle.json_parts.specs.Part.{Gives}
use Rattle.json_parts.specs.Reading.{has_keys}
use Rattle.scenario.specs.Seen.{parts_view}
use Rattle.scenario_reading.specs.Keys.{scenario_names, scenario_fields, parts_in}
use Rattle.scenario_reading.specs.Pieces.{pieces_in}
use Rattle.scenario_reading.proofs.Pieces.{pieces_are}
use Rattle.scenario_reading.proofs.parts.parts_in.Goals as goal

pub returns-then-has_scenario_names : goal.returns-then-has_scenario_names
unfolding parts_in
returns-then-has_scenario_names c =
    let fits : FitsSigned w64 c.args.version = search rules in
    let has : c.has_scenario_names.result ≡ has_keys (scenario_names c.args.version) (view c.args.value.now) =
    subst (λ (version : ℤ). c.has_scenario_names.result ≡ has_keys (scenario_names version) (view c.args.value.now)) (to_z-of_z fits) c.has_scenario_names.ensures in
    let pieces : Gives parts_view (pieces_in c.args.version (view c.args.value.now)) c.parts_of_fields.result =
    subst (λ (version : ℤ). Gives parts_view (pieces_in version (view c.args.value.now)) c.parts_of_fields.result) (to_z-of_z fits) c.parts_of_fields.ensures in
    let fields : parts_in (view c.args.value.now) c.args.version ≡ scenario_fields c.args.version (view c.args.value.now) =
    rw (sym has ∙ c.if-has_scenario_names.true) refl in
    subst (λ o. Gives parts_view o c.parts_of_fields.result) (pieces_are c.args.version (view c.args.value.now) ∙ sym fields) pieces
