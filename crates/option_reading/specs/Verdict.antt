-- What is answered to the text of options.
use Rattle.std.specs.Prelude.{◌≡◌, ℕ, List, Option, Some, None}
use Rattle.serde_json.specs.Data.{Data}
use Rattle.json_parts.specs.Reading.{Reads}
use Rattle.drawn_scenarios.specs.Options.{options_refusal, place_of}
use Rattle.drawn_scenarios.specs.declared.option_parts.OptionParts.{OptionParts}
use Rattle.drawn_scenarios.specs.declared.option_parts.OptionsError.{OptionsError}
use Rattle.option_reading.specs.Keys.{options_read}

-- the rule that an option is in its range
abbrev pub range_rule : ℕ
range_rule = 23

abbrev pub range_refusal : Option OptionsError → Option (ℕ × ℕ)
range_refusal None = None
range_refusal (Some e) = Some (range_rule, place_of e)

-- the refusal of a JSON value of options: rule 1 where it has no parts, and then the range of each
abbrev pub refusal_on : Option OptionParts → Option (ℕ × ℕ)
refusal_on None = Some (1, 0)
refusal_on (Some p) = range_refusal (options_refusal p)

abbrev pub value_refusal : Data → Option (ℕ × ℕ)
value_refusal d = refusal_on (options_read d)

-- a JSON value of options that no rule refuses, and these are its parts
pub record IsAccepted (value : Data) (parts : OptionParts) : Type 0 where
  pub reads : options_read value ≡ Some parts
  pub unrefused : options_refusal parts ≡ None

-- the text is JSON of such a value
pub record IsAcceptedText (text : List ℕ) (parts : OptionParts) : Type 0 where
  pub value : Data
  pub reads : Reads text value
  pub accepted : IsAccepted value parts

-- it is no JSON text
abbrev pub IsUnreadable : List ℕ → Type 0
IsUnreadable text = (d : Data) → Reads text d → ⊥

-- it is JSON text that a rule refuses at a place
pub record IsRefusedText (text : List ℕ) (rule place : ℕ) : Type 0 where
  pub value : Data
  pub reads : Reads text value
  pub refused : value_refusal value ≡ Some (rule, place)
