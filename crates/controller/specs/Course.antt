-- Where the lines of events lead a node, and how its text ends.
use Rattle.std.specs.Prelude.{ℕ, nat_lt, List, [], ◌∷◌, ◌++◌, length, if◌then◌else◌}
use Rattle.run_text.specs.PeriodText.{refused_text, end_text}
use Rattle.live_node.specs.Live.{LiveView, Step, is_open, unknown_rule, line_step}
use Rattle.live_node.specs.Live.Step.{Goes, Refuses}
use Rattle.input_lines.specs.Lines.{lines_of, rest_of}
use Rattle.input_lines.specs.Numbers.{next_number, number_behind}
use Rattle.controller.specs.Input.{event_limit}
use Rattle.program_words.specs.declared.status.Status.{Status}
use Rattle.program_words.specs.declared.status.Status.TheVariants.{Done, Refused, TooLong}

-- how a call ends, and all that is written then
pub record Ending : Type 0 where
  pub status : Status
  pub text : List ℕ

-- the lines were taken, and the node stands so and answered them so; or the call ends at one of them
pub data Course (N : ℕ) : Type 0 where
  Stands : LiveView N → List ℕ → Course N
  Ends : Ending → Course N

-- a text was written before
abbrev pub ending_behind : List ℕ → Ending → Ending
ending_behind text e = record { status = e.status; text = text ++ e.text }

abbrev pub behind : {N : ℕ} → List ℕ → Course N → Course N
behind text (Stands v more) = Stands v (text ++ more)
behind text (Ends e) = Ends (ending_behind text e)

-- a rule refuses line n
abbrev pub line_refusal : ℕ → ℕ → Ending
line_refusal rule n = record { status = Refused; text = refused_text rule n }

-- what follows the step of line n, from the node that it leads to
abbrev pub after_step : {N : ℕ} → ℕ → (LiveView N → Course N) → Step N → Course N
after_step n follow (Goes w text) = behind text (follow w)
after_step n follow (Refuses rule) = Ends (line_refusal rule n)

-- the course of a node over lines, the first of which has this number
abbrev pub course : {N : ℕ} → LiveView N → ℕ → List (List ℕ) → Course N
course v n [] = Stands v []
course v n (line ∷ lines) =
    if nat_lt event_limit (length line) then Ends (record { status = TooLong; text = [] })
    else after_step n (λ w. course w (next_number n) lines) (line_step v line)

-- the rule that refuses the end of an input where a slot is open
abbrev pub open_rule : ℕ
open_rule = 22

-- The end of the input behind all whole lines, where this stands behind the last line feed, as line n. It must be nothing, and no slot open
abbrev pub closing : {N : ℕ} → LiveView N → ℕ → List ℕ → Ending
closing v n [] = if is_open v then line_refusal open_rule n else record { status = Done; text = end_text v.run }
closing v n (c ∷ rest) =
    if nat_lt event_limit (length (c ∷ rest)) then record { status = TooLong; text = [] } else line_refusal unknown_rule n

abbrev pub course_end : {N : ℕ} → ℕ → List ℕ → Course N → Ending
course_end n rest (Stands v text) = ending_behind text (closing v n rest)
course_end n rest (Ends e) = e

-- how the events in these bytes end, the first line of which has this number
abbrev pub ending_of : {N : ℕ} → LiveView N → ℕ → List ℕ → Ending
ending_of v n bytes = course_end (number_behind n (lines_of bytes)) (rest_of bytes) (course v n (lines_of bytes))
