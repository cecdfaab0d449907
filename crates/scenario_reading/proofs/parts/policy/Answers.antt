use Rattle.std.proofs.Common.{ℤ, rules, w64, to_z-of_z, subst}
use Rattle.std.specs.Prelude.{FitsSigned}
use Rattle.json_parts.specs.Meaning.{view}
use Rattle.json_parts.specs.Part.{Gives}
use Rattle.scenario_reading.specs.Pieces.{policy_in}
use Rattle.scenario.specs.Seen.{policy_view}
use Rattle.scenario_reading.proofs.parts.policy.Goals as goal

pub returns : goal.returns
unfolding policy_in
returns c =
    let fits : FitsSigned w64 c.args.version = search rules in
    subst (λ (version : ℤ). Gives policy_view (policy_in version (view c.args.value.now)) c.required.result) (to_z-of_z fits) c.required.ensures
