-- The rules for options, and what options say that keep them.
use Rattle.std.specs.Prelude.{ℕ, ◌^◌, pos, int_lt, Bool, not, ◌&&◌, nat_lt, length, Option, None, Some, option_map, if◌then◌else◌}
use Rattle.std.specs.Option.{option_or}
use Rattle.scenario.specs.Numbers.{is_between, natural}
use Rattle.drawn_scenarios.specs.declared.option_parts.ClockOptionParts.{ClockOptionParts}
use Rattle.drawn_scenarios.specs.declared.option_parts.OptionParts.{OptionParts}
use Rattle.drawn_scenarios.specs.declared.option_parts.OptionsError.{OptionsError}
use Rattle.drawn_scenarios.specs.declared.option_parts.OptionsError.TheVariants as error
use Rattle.drawn_scenarios.specs.declared.choices.ClockChoices.{ClockChoices}
use Rattle.drawn_scenarios.specs.declared.choices.Choices.{Choices}
use Rattle.drawn_scenarios.specs.Classes.{classes_of}

-- the option, unless its rule holds
abbrev pub unless : Bool → OptionsError → Option OptionsError
unless holds option = if holds then None else Some option

abbrev pub has_few_rounds : OptionParts → Bool
has_few_rounds p = is_between (pos 0) (pos 3) p.m && int_lt p.m p.nodes

abbrev pub has_few_faulty : OptionParts → Bool
has_few_faulty p = is_between (pos 0) (pos 16) p.faulty && not (int_lt p.nodes p.faulty)

abbrev pub cluster_refusal : OptionParts → Option OptionsError
cluster_refusal p =
    option_or (unless (is_between (pos 3) (pos 16) p.nodes) error.Nodes)
    (option_or (unless (has_few_rounds p) error.Rounds)
    (option_or (unless (is_between (pos 1) (pos 1024) p.periods) error.Periods)
    (unless (has_few_faulty p) error.Faulty)))

abbrev pub illness_refusal : OptionParts → Option OptionsError
illness_refusal p =
    option_or (unless (nat_lt 0 (length (classes_of p.classes))) error.Classes)
    (option_or (unless (is_between (pos 0) (pos 65536) p.rate) error.Rate)
    (option_or (unless (is_between (pos 1) (pos 1024) p.length) error.Length)
    (unless (is_between (pos 0) (pos 1024) p.restart) error.Restart)))

abbrev pub clock_refusal : ClockOptionParts → Option OptionsError
clock_refusal c =
    option_or (unless (is_between (pos 0) (pos (2 ^ 20)) c.epsilon) error.Epsilon)
    (option_or (unless (is_between (pos 0) (pos (2 ^ 20)) c.drift) error.Drift)
    (option_or (unless (is_between (pos 0) (pos (2 ^ 40)) c.start) error.Start)
    (unless (is_between (pos 0) (pos (2 ^ 40)) c.lie) error.Lie)))

abbrev pub clocks_refusal : Option ClockOptionParts → Option OptionsError
clocks_refusal None = None
clocks_refusal (Some c) = clock_refusal c

-- the first option that is out of range
abbrev pub options_refusal : OptionParts → Option OptionsError
options_refusal p = option_or (cluster_refusal p) (option_or (illness_refusal p) (clocks_refusal p.clock))

abbrev pub clock_choices_of : ClockOptionParts → ClockChoices
clock_choices_of c = record { epsilon = natural c.epsilon; drift = natural c.drift; start = natural c.start; lie = natural c.lie }

-- what is drawn by options that are in range
abbrev pub choices_of : OptionParts → Choices
choices_of p = record {
  nodes = natural p.nodes;
  m = natural p.m;
  periods = natural p.periods;
  faulty = natural p.faulty;
  classes = p.classes;
  rate = natural p.rate;
  length = natural p.length;
  restart = natural p.restart;
  copies = p.copies;
  clock = option_map clock_choices_of p.clock;
}

-- the number of an option in their order
abbrev pub place_of : OptionsError → ℕ
place_of error.Nodes = 0
place_of error.Rounds = 1
place_of error.Periods = 2
place_of error.Faulty = 3
place_of error.Classes = 4
place_of error.Rate = 5
place_of error.Length = 6
place_of error.Restart = 7
place_of error.Epsilon = 8
place_of error.Drift = 9
place_of error.Start = 10
place_of error.Lie = 11
