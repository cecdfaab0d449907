-- How the first line is read, and what follows it.
use Rattle.std.specs.Prelude.{◌≡◌, ℕ, ◌≤◌, ◌⊎◌, Bool, true, false, List, [], ◌∷◌, ◌++◌, length, Result, Ok, Err}
use Rattle.std.specs.Io.KnownBytes.{Consumes, IsAtEnd}
use Rattle.span_io.specs.Causes.{Rose}
use Rattle.input_lines.specs.Lines.{line_feed, IsUnbroken}
use Rattle.input_lines.specs.Reading.{IsLong, SourceView, GivesBytes}
use Rattle.live_node.specs.Live.{LiveView}
use Rattle.input_lines.specs.Devices.{SinkView, WritesSome}
use Rattle.controller.specs.Input.{scenario_limit}
use Rattle.controller.specs.Course.{closing}
use Rattle.controller.specs.Outcome.{capacity, first_event, IsUnreadable, IsScenarioRefused, IsNode}
use Rattle.controller.specs.Session.{Stand, Concludes, Runs}
use Rattle.controller.specs.declared.control.FirstLine.{FirstLine}
use Rattle.program_words.specs.declared.status.Status.{Status}
use Rattle.program_words.specs.declared.status.Status.TheVariants.{Usage, Unreadable, Refused, ReadFault, NoMemory, TooLong}

-- the bytes are the first line and nothing more, at the end of the input; or they are it, a line feed, and the rest
abbrev pub IsFirst : FirstLine → SourceView → List ℕ → Bool → Type 0
IsFirst first now bytes true = IsAtEnd now.left × (bytes ≡ first.lines.line) × (first.lines.rest ≡ [])
IsFirst first now bytes false = bytes ≡ first.lines.line ++ line_feed ∷ first.lines.rest

-- the first line of the bytes was taken, and is not too long
pub record HasFirst (first : FirstLine) (now : SourceView) (bytes : List ℕ) : Type 0 where
  pub is : IsFirst first now bytes first.ends_input
  pub unbroken : IsUnbroken first.lines.line
  pub short : length first.lines.line ≤ scenario_limit

-- a call that reads the first line ends with this status, which is no success
abbrev pub StopsFirst : Status → SourceView → SourceView → Type 0
StopsFirst TooLong before now = (bytes : List ℕ) × GivesBytes before now bytes × IsLong scenario_limit bytes
StopsFirst ReadFault before now = (bytes : List ℕ) × Consumes before.left now.left bytes × IsUnbroken bytes × Rose before.faults now.faults
StopsFirst NoMemory before now = now.faults ≡ before.faults
StopsFirst _ before now = ⊥

abbrev pub ReadsFirst : SourceView → SourceView → Result FirstLine Status → Type 0
ReadsFirst before now (Ok first) = (bytes : List ℕ) × GivesBytes before now bytes × HasFirst first now bytes
ReadsFirst before now (Err status) = StopsFirst status before now

-- where a node of the first line's scenario stands before the first event
abbrev pub at_first : LiveView capacity → List ℕ → Stand
at_first v rest = record { node = v; number = first_event; rest = rest }

-- what a node does: nothing more comes behind the first line, or all that comes is read
abbrev pub RunsNode : Bool → LiveView capacity → List ℕ → SourceView → SourceView → SinkView → SinkView → Status → Type 0
RunsNode true v rest before now old new status = (now ≡ before) × Concludes (closing v first_event rest) old new status
RunsNode false v rest before now old new status = Runs (at_first v rest) before now old new status

-- the first line is the scenario of a new node, which then does so
abbrev pub NodeAnswers : FirstLine → ℕ → SourceView → SourceView → SinkView → SinkView → Status → Type 0
NodeAnswers first id before now old new status = (v : LiveView capacity) × IsNode first.lines.line id v × RunsNode first.ends_input v first.lines.rest before now old new status

-- what is answered behind the first line
abbrev pub AnswersFirst : FirstLine → ℕ → SourceView → SourceView → SinkView → SinkView → Status → Type 0
AnswersFirst first id before now old new Usage = ⊥
AnswersFirst first id before now old new Unreadable = IsUnreadable first.lines.line × (now ≡ before) × (new ≡ old)
AnswersFirst first id before now old new NoMemory = (now ≡ before) × (new ≡ old)
AnswersFirst first id before now old new Refused = ((text : List ℕ) × IsScenarioRefused first.lines.line id text × (now ≡ before) × WritesSome old new text) ⊎ NodeAnswers first id before now old new Refused
AnswersFirst first id before now old new status = NodeAnswers first id before now old new status
