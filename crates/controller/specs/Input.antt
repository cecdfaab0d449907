-- How long the parts of an input may be: the scenario's line, and behind it the lines of the events.
use Rattle.std.specs.Prelude.{ℕ}

-- how many bytes the scenario's line may have, and how many an event's line
abbrev pub scenario_limit : ℕ
scenario_limit = 4194304

abbrev pub event_limit : ℕ
event_limit = 262144
