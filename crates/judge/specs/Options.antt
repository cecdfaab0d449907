-- The options by which scenarios are drawn, on the first line of the input, and what is written of them.
use Rattle.std.specs.Prelude.{◌≡◌, ℕ, ◌<◌, ◌≤◌, List, [], ◌∷◌, ◌++◌, length, Some, Result, Ok, Err}
use Rattle.std.specs.Io.KnownBytes.{Consumes}
use Rattle.span_io.specs.Causes.{Rose}
use Rattle.serde_json.specs.Data.{Data, depth}
use Rattle.serde_json.specs.Read.{max_depth}
use Rattle.json_parts.specs.Reading.{Reads}
use Rattle.run_text.specs.PeriodText.{refused_text}
use Rattle.scenario.specs.Parts.{ScenarioParts}
use Rattle.scenario_reading.specs.Keys.{parts_read}
use Rattle.drawn_scenarios.specs.Options.{choices_of}
use Rattle.drawn_scenarios.specs.declared.choices.Choices.{Choices}
use Rattle.drawn_scenarios.specs.declared.option_parts.OptionParts.{OptionParts}
use Rattle.drawn_scenarios.specs.declared.options.Options.{Options}
use Rattle.option_reading.specs.Verdict.{IsAcceptedText, IsUnreadable, IsRefusedText}
use Rattle.input_lines.specs.Lines.{line_feed, IsUnbroken}
use Rattle.input_lines.specs.FirstLine.{first_line}
use Rattle.input_lines.specs.Devices.{Devices, SinkView, IsInput, WritesAll, WritesFront, WritesSome}
use Rattle.judge.specs.Rows.{limit, all_drawn_rows}
use Rattle.judge.specs.declared.words.Draws.{Draws}
use Rattle.program_words.specs.declared.status.Status.{Status}
use Rattle.program_words.specs.declared.status.Status.TheVariants.{Done, Unreadable, Refused, ReadFault, WriteFault, NoMemory, TooLong}

-- the line tells what is drawn
pub record HasOptions (line : List ℕ) (choices : Choices) : Type 0 where
  pub short : length line ≤ limit
  pub parts : OptionParts
  pub accepted : IsAcceptedText line parts
  pub says : choices ≡ choices_of parts

-- it tells nothing, and this is written of it
abbrev pub HasNoOptions : List ℕ → Status → List ℕ → Type 0
HasNoOptions line Unreadable text = (length line ≤ limit) × IsUnreadable line × (text ≡ [])
HasNoOptions line Refused text = (length line ≤ limit) × (rule : ℕ) × (place : ℕ) × IsRefusedText line rule place × (text ≡ refused_text rule place)
HasNoOptions line TooLong text = (limit < length line) × (text ≡ [])
HasNoOptions line _ text = ⊥

-- the options that a line tells, or why there are none
abbrev pub StopsAtLine : Status → List ℕ → SinkView → SinkView → Type 0
StopsAtLine Unreadable line old new = IsUnreadable line × (new ≡ old)
StopsAtLine Refused line old new = (rule : ℕ) × (place : ℕ) × IsRefusedText line rule place × WritesSome old new (refused_text rule place)
StopsAtLine NoMemory line old new = new ≡ old
StopsAtLine _ line old new = ⊥

abbrev pub TellsOptions : List ℕ → SinkView → SinkView → Result Options Status → Type 0
TellsOptions line old new (Ok o) = HasOptions line o.choices × (new ≡ old)
TellsOptions line old new (Err status) = StopsAtLine status line old new

-- the source failed no more often than before
abbrev pub IsFaultless : Devices → Devices → Type 0
IsFaultless old new = new.source.faults ≡ old.source.faults

-- a call that reads the options ends with this status, which is no success
abbrev pub StopsAtOptions : Status → Devices → Devices → Type 0
StopsAtOptions ReadFault old new = Rose old.source.faults new.source.faults × (bytes : List ℕ) × Consumes old.source.left new.source.left bytes × IsUnbroken bytes × (new.sink ≡ old.sink)
StopsAtOptions NoMemory old new = IsFaultless old new × (new.sink ≡ old.sink)
StopsAtOptions Refused old new = IsFaultless old new × (bytes : List ℕ) × (text : List ℕ) × IsInput old.source.left bytes × HasNoOptions (first_line bytes) Refused text × WritesSome old.sink new.sink text
StopsAtOptions status old new = IsFaultless old new × (bytes : List ℕ) × IsInput old.source.left bytes × HasNoOptions (first_line bytes) status [] × (new.sink ≡ old.sink)

-- what a call does that reads the options
abbrev pub ReadsOptions : Devices → Devices → Result Options Status → Type 0
ReadsOptions old new (Ok o) = IsFaultless old new × (bytes : List ℕ) × IsInput old.source.left bytes × HasOptions (first_line bytes) o.choices × (new.sink ≡ old.sink)
ReadsOptions old new (Err status) = StopsAtOptions status old new

-- what a call does that writes the rows of what is drawn
abbrev pub DrawsRows : Choices → Draws → SinkView → SinkView → Status → Type 0
DrawsRows choices d old new Done = WritesAll old new (all_drawn_rows choices d.seed d.first d.count)
DrawsRows choices d old new NoMemory = (k : ℕ) × (k ≤ d.count) × WritesAll old new (all_drawn_rows choices d.seed d.first k)
DrawsRows choices d old new WriteFault = (k : ℕ) × (k ≤ d.count) × WritesFront old new (all_drawn_rows choices d.seed d.first k)
DrawsRows choices d old new _ = ⊥

-- the text is a line, which says of a scenario that it has these parts
pub record IsShown (parts : ScenarioParts) (text : List ℕ) : Type 0 where
  pub line : List ℕ
  pub value : Data
  pub reads : depth value ≤ max_depth → Reads line value
  pub says : parts_read value ≡ Some parts
  pub text_is : text ≡ line ++ line_feed ∷ []
