-- Where a session stands, and what its calls do.
use Rattle.std.specs.Prelude.{◌≡◌, ℕ, ◌-◌, ◌^◌, ◌<◌, ◌≤◌, ◌⊎◌, Bool, true, false, List, [], ◌++◌, length, Result, Ok, Err}
use Rattle.std.specs.Io.KnownBytes.{Consumes, IsAtEnd}
use Rattle.span_io.specs.Causes.{Rose}
use Rattle.input_lines.specs.Lines.{IsUnbroken}
use Rattle.input_lines.specs.Laws.{Begins}
use Rattle.input_lines.specs.Reading.{IsLong, SourceView, GivesBytes, GivesNothing}
use Rattle.live_node.specs.Live.{LiveView, line_step}
use Rattle.live_node.specs.Live.Step.{Goes, Refuses}
use Rattle.input_lines.specs.declared.lines.LineError.{LineError}
use Rattle.input_lines.specs.declared.lines.LineError.TheVariants as lines
use Rattle.input_lines.specs.Devices.{told_left, SinkView, WritesAll, WritesFront, WritesSome}
use Rattle.input_lines.specs.Numbers.{number_behind}
use Rattle.controller.specs.Input.{event_limit}
use Rattle.controller.specs.Course.{Ending, course, line_refusal, ending_of}
use Rattle.controller.specs.Course.Course.{Stands, Ends}
use Rattle.controller.specs.Outcome.{capacity}
use Rattle.controller.specs.declared.session.Session.{Session}
use Rattle.program_words.specs.declared.status.Status.{Status}
use Rattle.program_words.specs.declared.status.Status.TheVariants.{Done, Refused, ReadFault, WriteFault, NoMemory, TooLong}

-- the node, the number of the line that comes next, and what was read and not taken
pub record Stand : Type 0 where
  pub node : LiveView capacity
  pub number : ℕ
  pub rest : List ℕ

abbrev pub stand : Session → Stand
stand s = record { node = s.live; number = s.number; rest = s.lines.rest }

-- what the calls of a session keep: the limit of a line, room for one, and that the node takes lines of that length
pub record IsReady (s : Session) : Type 0 where
  pub limit : s.lines.limit ≡ event_limit
  pub room : event_limit < s.lines.room
  pub longest : s.live.longest ≡ event_limit

-- how a call ends in which no line was taken, or nothing was read
abbrev pub line_status : LineError → Status
line_status lines.Failed = ReadFault
line_status lines.TooLong = TooLong
line_status lines.NoMemory = NoMemory

-- ---- a line

-- a call that takes line n ends with this status, which is no success
abbrev pub StopsAtLine : Status → LiveView capacity → List ℕ → ℕ → SinkView → SinkView → Type 0
StopsAtLine Refused v line n old new = (rule : ℕ) × (line_step v line ≡ Refuses rule) × WritesSome old new (line_refusal rule n).text
StopsAtLine WriteFault v line n old new = (w : LiveView capacity) × (text : List ℕ) × (line_step v line ≡ Goes w text) × WritesFront old new text
StopsAtLine _ v line n old new = ⊥

-- what a call does that takes line n
abbrev pub AnswersLine : LiveView capacity → LiveView capacity → List ℕ → ℕ → SinkView → SinkView → Result (Unit {0}) Status → Type 0
AnswersLine v w line n old new (Ok u) = (text : List ℕ) × (line_step v line ≡ Goes w text) × WritesAll old new text
AnswersLine v w line n old new (Err status) = StopsAtLine status v line n old new

-- ---- lines

-- these lines were taken, and this text answers them
pub record Took (from to : Stand) (lines : List (List ℕ)) (text : List ℕ) : Type 0 where
  pub begins : Begins from.rest lines to.rest
  pub stands : course from.node from.number lines ≡ Stands to.node text
  pub number : to.number ≡ number_behind from.number lines

-- all whole lines were taken, and this text answers them; the rest has no line feed, and is not too long
pub record CaughtUp (from to : Stand) (text : List ℕ) : Type 0 where
  pub lines : List (List ℕ)
  pub took : Took from to lines text
  pub unbroken : IsUnbroken to.rest
  pub short : length to.rest ≤ event_limit

-- Lines are taken up to one with which the call ends: it is too long, a rule refuses it, or its answer could not be written
abbrev pub Stops : Status → Stand → SinkView → SinkView → Type 0
Stops TooLong from old new = (to : Stand) × (lines : List (List ℕ)) × (text : List ℕ) × Took from to lines text × IsLong event_limit to.rest × WritesAll old new text
Stops Refused from old new = (rest : List ℕ) × (lines : List (List ℕ)) × (text : List ℕ) × Begins from.rest lines rest
    × (course from.node from.number lines ≡ Ends (record { status = Refused; text = text })) × WritesSome old new text
Stops WriteFault from old new = (to : Stand) × (lines : List (List ℕ)) × (text : List ℕ) × Took from to lines text × WritesFront old new text
Stops _ from old new = ⊥

-- what a call does that takes all whole lines
abbrev pub TakesLines : Stand → Stand → SinkView → SinkView → Result (Unit {0}) Status → Type 0
TakesLines from to old new (Ok u) = (text : List ℕ) × CaughtUp from to text × WritesAll old new text
TakesLines from to old new (Err status) = Stops status from old new

-- ---- rounds

-- more was read behind the rest
abbrev pub with_more : Stand → List ℕ → Stand
with_more s more = record s { rest = s.rest ++ more }

abbrev pub StopsRound : Status → Stand → SourceView → SourceView → SinkView → SinkView → Type 0
StopsRound ReadFault from before now old new = GivesNothing before now × Rose before.faults now.faults × (new ≡ old)
StopsRound status from before now old new = (more : List ℕ) × GivesBytes before now more × Stops status (with_more from more) old new

-- What a round does: it reads once, and then takes all whole lines
abbrev pub Rounds : Stand → Stand → SourceView → SourceView → SinkView → SinkView → Result Bool Status → Type 0
Rounds from to before now old new (Ok true) = (more : List ℕ) × (text : List ℕ) × (0 < length more) × GivesBytes before now more
    × CaughtUp (with_more from more) to text × WritesAll old new text
Rounds from to before now old new (Ok false) = IsAtEnd now.left × GivesBytes before now [] × (to ≡ from) × (new ≡ old)
Rounds from to before now old new (Err status) = StopsRound status from before now old new

-- what a call does whose last text and status are these
abbrev pub Concludes : Ending → SinkView → SinkView → Status → Type 0
Concludes e old new Done = (e.status ≡ Done) × WritesAll old new e.text
Concludes e old new Refused = (e.status ≡ Refused) × WritesSome old new e.text
Concludes e old new WriteFault = (e.status ≡ Done) × WritesFront old new e.text
Concludes e old new _ = ⊥

-- ---- a whole run

-- the events that were read behind the rest, and what is left of them where that is told, end so
abbrev pub RunsTo : Stand → List ℕ → SourceView → Status → List ℕ → Type 0
RunsTo from more now status text = ending_of from.node from.number ((from.rest ++ more) ++ told_left now.left) ≡ record { status = status; text = text }

-- so many bytes were read that no more is read
pub record IsFull (from : Stand) (more text : List ℕ) : Type 0 where
  pub many : 2 ^ 64 - 1 ≤ length more
  pub to : Stand
  pub lines : List (List ℕ)
  pub took : Took (with_more from more) to lines text

-- the text answers lines, or it is all of the text
abbrev pub IsPart : Stand → List ℕ → SourceView → List ℕ → Type 0
IsPart from more now text = ((to : Stand) × (lines : List (List ℕ)) × Took (with_more from more) to lines text) ⊎ RunsTo from more now Done text

-- what a call does that takes all lines up to the end of the input
abbrev pub Runs : Stand → SourceView → SourceView → SinkView → SinkView → Status → Type 0
Runs from before now old new Done = (more : List ℕ) × (text : List ℕ) × GivesBytes before now more × IsAtEnd now.left × RunsTo from more now Done text × WritesAll old new text
Runs from before now old new Refused = (more : List ℕ) × (text : List ℕ) × GivesBytes before now more × RunsTo from more now Refused text × WritesSome old new text
Runs from before now old new TooLong = (more : List ℕ) × (text : List ℕ) × GivesBytes before now more × (RunsTo from more now TooLong text ⊎ IsFull from more text) × WritesAll old new text
Runs from before now old new WriteFault = (more : List ℕ) × (text : List ℕ) × GivesBytes before now more × IsPart from more now text × WritesFront old new text
Runs from before now old new ReadFault = (more : List ℕ) × (text : List ℕ) × (to : Stand) × Consumes before.left now.left more × Rose before.faults now.faults
    × CaughtUp (with_more from more) to text × WritesAll old new text
Runs from before now old new _ = ⊥
