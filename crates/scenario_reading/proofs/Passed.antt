-- Results that are passed on, of a scenario that a JSON value describes.
use Rattle.std.proofs.Common.{◌≡◌, ℕ, Option, None, Some, Result, Ok, Err, IfOk, IfErr, ap, sym, subst}
use Rattle.serde_json.specs.Data.{Data}
use Rattle.scenario.specs.Parts.{ScenarioParts}
use Rattle.scenario_reading.specs.Keys.{parts_read}
use Rattle.scenario.specs.Rules.{refusal}
use Rattle.scenario.specs.Given.{scenario_of}
use Rattle.scenario.specs.Scenario.{ScenarioView}
use Rattle.scenario.specs.Verdict.{Tells}
use Rattle.scenario_reading.specs.Verdict.{refusal_on, value_refusal, IsAcceptedValue}
use Rattle.scenario.specs.declared.error.ScenarioError.{ScenarioError}

pub accepted_value : {T : Type 0} (capacity : ℕ) (d : Data) (p : ScenarioParts) (see : T → ScenarioView capacity) (r : Result T ScenarioError)
    → parts_read d ≡ Some p → IfOk r (λ s. refusal capacity p ≡ None) → IfOk r (λ s. see s ≡ scenario_of capacity p)
    → IfOk r (λ s. IsAcceptedValue {capacity = capacity} d (see s))
accepted_value capacity d p see (Ok s) read unrefused says = record { parts = p; reads = read; unrefused = unrefused; says = says }
accepted_value capacity d p see (Err e) read unrefused says = tt

pub refused_value : {T : Type 0} (capacity : ℕ) (d : Data) (p : ScenarioParts) (r : Result T ScenarioError)
    → parts_read d ≡ Some p → IfErr r (Tells (refusal capacity p)) → IfErr r (Tells (value_refusal capacity d))
refused_value capacity d p r read h = subst (λ (o : Option (ℕ × ℕ)). IfErr r (Tells o)) (sym (ap (refusal_on capacity) read)) h
