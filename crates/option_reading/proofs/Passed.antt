-- Results that are passed on, of options that a JSON value describes.
use Rattle.std.proofs.Common.{◌≡◌, None, Some, ap, ◌∙◌}
use Rattle.serde_json.specs.Data.{Data}
use Rattle.drawn_scenarios.specs.Options.{options_refusal, choices_of, place_of}
use Rattle.drawn_scenarios.specs.declared.choices.Choices.{Choices}
use Rattle.drawn_scenarios.specs.declared.option_parts.OptionParts.{OptionParts}
use Rattle.drawn_scenarios.specs.declared.option_parts.OptionsError.{OptionsError}
use Rattle.option_reading.specs.Keys.{options_read}
use Rattle.option_reading.specs.Verdict.{range_rule, range_refusal, refusal_on, value_refusal, IsAccepted}

pub accepted : (d : Data) (p : OptionParts) (c : Choices) → options_read d ≡ Some p → options_refusal p ≡ None → c ≡ choices_of p
    → (parts : OptionParts) × IsAccepted d parts × (c ≡ choices_of parts)
accepted d p c reads unrefused says = (p, record { reads = reads; unrefused = unrefused }, says)

pub refused : (d : Data) (p : OptionParts) (e : OptionsError) → options_read d ≡ Some p → options_refusal p ≡ Some e
    → value_refusal d ≡ Some (range_rule, place_of e)
refused d p e reads is = ap refusal_on reads ∙ ap range_refusal is
