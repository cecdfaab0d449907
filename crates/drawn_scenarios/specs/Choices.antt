-- What is drawn is in range.
use Rattle.std.specs.Prelude.{◌≡◌, ◌^◌, ◌<◌, ◌≤◌, length, Some}
use Rattle.drawn_scenarios.specs.declared.choices.ClockChoices.{ClockChoices}
use Rattle.drawn_scenarios.specs.declared.choices.Choices.{Choices}
use Rattle.drawn_scenarios.specs.Classes.{classes_of}

pub record AreClockChoices (c : ClockChoices) : Type 0 where
  pub epsilon : c.epsilon ≤ 2 ^ 20
  pub drift : c.drift ≤ 2 ^ 20
  pub start : c.start ≤ 2 ^ 40
  pub lie : c.lie ≤ 2 ^ 40

pub record AreChoices (c : Choices) : Type 0 where
  pub some_nodes : 3 ≤ c.nodes
  pub few_nodes : c.nodes ≤ 16
  pub rounds : c.m < c.nodes
  pub few_rounds : c.m ≤ 3
  pub some_periods : 1 ≤ c.periods
  pub few_periods : c.periods ≤ 1024
  pub faulty : c.faulty ≤ c.nodes
  pub some_classes : 0 < length (classes_of c.classes)
  pub rate : c.rate ≤ 65536
  pub some_length : 1 ≤ c.length
  pub few_length : c.length ≤ 1024
  pub restart : c.restart ≤ 1024
  pub clock : (k : ClockChoices) → c.clock ≡ Some k → AreClockChoices k
