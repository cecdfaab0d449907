-- Where a session stands, and what its calls do.
use Rattle.std.specs.Prelude.{◌≡◌, ℕ, ◌-◌, ◌^◌, ◌<◌, ◌≤◌, ◌⊎◌, Bool, true, false, List, [], ◌++◌, length, Result, Ok, Err}
use Rattle.std.specs.Io.KnownBytes.{Consumes, IsAtEnd}
use Rattle.span_io.specs.Causes.{Rose}
use Rattle.input_lines.specs.Lines.{IsUnbroken, lines_of}
use Rattle.input_lines.specs.Laws.{Begins}
use Rattle.input_lines.specs.Reading.{IsLong, SourceView, GivesBytes, GivesNothing}
use Rattle.input_lines.specs.Devices.{SinkView, WritesAll, WritesFront, told_left}
use Rattle.input_lines.specs.declared.lines.LineError.{LineError}
use Rattle.input_lines.specs.declared.lines.LineError.TheVariants as lines
use Rattle.input_lines.specs.Numbers.{number_behind}
use Rattle.judge.specs.Rows.{limit, last_line, all_lines, AreRows, AreFrontRows, AreCutShort}
use Rattle.judge.specs.declared.bench.RowError.{RowError}
use Rattle.judge.specs.declared.bench.RowError.TheVariants as rows
use Rattle.judge.specs.declared.lines.Session.{Session}
use Rattle.program_words.specs.declared.status.Status.{Status}
use Rattle.program_words.specs.declared.status.Status.TheVariants.{Done, ReadFault, WriteFault, NoMemory, TooLong}

-- the number of the line that comes next, and what was read and not taken
pub record Stand : Type 0 where
  pub number : ℕ
  pub rest : List ℕ

abbrev pub stand : Session → Stand
stand s = record { number = s.number; rest = s.lines.rest }

-- what the calls of a session keep: the limit of a line
pub record IsReady (s : Session) : Type 0 where
  pub limit : s.lines.limit ≡ limit

-- how a call ends in which no line was taken, or nothing was read
abbrev pub line_status : LineError → Status
line_status lines.Failed = ReadFault
line_status lines.TooLong = TooLong
line_status lines.NoMemory = NoMemory

-- how a call ends that couldn't write rows
abbrev pub row_status : RowError → Status
row_status rows.NoMemory = NoMemory
row_status rows.WriteFault = WriteFault

-- ---- lines

-- these lines were taken, and the text is their rows
pub record Took (from to : Stand) (lines : List (List ℕ)) (text : List ℕ) : Type 0 where
  pub begins : Begins from.rest lines to.rest
  pub rows : AreRows from.number lines text
  pub number : to.number ≡ number_behind from.number lines

-- all whole lines were taken; the rest has no line feed, and is not too long
pub record CaughtUp (from to : Stand) (text : List ℕ) : Type 0 where
  pub lines : List (List ℕ)
  pub took : Took from to lines text
  pub unbroken : IsUnbroken to.rest
  pub short : length to.rest ≤ limit

-- why no further line is taken: it is too long, there is no memory, or rows could not be written
abbrev pub EndsAt : Status → List ℕ → SinkView → SinkView → List ℕ → Type 0
EndsAt TooLong rest old new text = IsLong limit rest × WritesAll old new text
EndsAt NoMemory rest old new text = WritesAll old new text
EndsAt WriteFault rest old new text = WritesFront old new text
EndsAt _ rest old new text = ⊥

abbrev pub Stops : Status → Stand → SinkView → SinkView → Type 0
Stops status from old new = (to : Stand) × (lines : List (List ℕ)) × (text : List ℕ) × Took from to lines text × EndsAt status to.rest old new text

-- what a call does that takes all whole lines
abbrev pub TakesLines : Stand → Stand → SinkView → SinkView → Result (Unit {0}) Status → Type 0
TakesLines from to old new (Ok u) = (text : List ℕ) × CaughtUp from to text × WritesAll old new text
TakesLines from to old new (Err status) = Stops status from old new

-- what a call does that judges what stands behind the last line feed
abbrev pub Concludes : ℕ → List ℕ → SinkView → SinkView → Status → Type 0
Concludes number rest old new Done = (text : List ℕ) × AreRows number (last_line rest) text × WritesAll old new text
Concludes number rest old new WriteFault = (text : List ℕ) × AreRows number (last_line rest) text × WritesFront old new text
Concludes number rest old new NoMemory = new ≡ old
Concludes number rest old new _ = ⊥

-- ---- rounds

-- more was read behind the rest
abbrev pub with_more : Stand → List ℕ → Stand
with_more s more = record s { rest = s.rest ++ more }

abbrev pub StopsRound : Status → Stand → SourceView → SourceView → SinkView → SinkView → Type 0
StopsRound ReadFault from before now old new = GivesNothing before now × Rose before.faults now.faults × (new ≡ old)
StopsRound status from before now old new = (more : List ℕ) × GivesBytes before now more × Stops status (with_more from more) old new

-- What a round does: it reads once, and then takes all whole lines
abbrev pub Rounds : Stand → Stand → SourceView → SourceView → SinkView → SinkView → Result Bool Status → Type 0
Rounds from to before now old new (Ok true) = (more : List ℕ) × (text : List ℕ) × (0 < length more) × GivesBytes before now more
    × CaughtUp (with_more from more) to text × WritesAll old new text
Rounds from to before now old new (Ok false) = IsAtEnd now.left × GivesBytes before now [] × (to ≡ from) × (new ≡ old)
Rounds from to before now old new (Err status) = StopsRound status from before now old new

-- ---- a whole run

-- the lines that were read behind the rest, and what is left of them where that is told
abbrev pub lines_from : Stand → List ℕ → SourceView → List (List ℕ)
lines_from from more now = all_lines ((from.rest ++ more) ++ told_left now.left)

-- the text is the rows of the lines before one that is too long, or so many bytes were read that no more is read
abbrev pub IsTooMuch : Stand → List ℕ → SourceView → List ℕ → Type 0
IsTooMuch from more now text = AreCutShort from.number (lines_from from more now) text
    ⊎ ((2 ^ 64 - 1 ≤ length more) × AreFrontRows from.number (lines_from from more now) text)

-- what a call does that takes all lines up to the end of the input
abbrev pub Runs : Stand → SourceView → SourceView → SinkView → SinkView → Status → Type 0
Runs from before now old new Done = (more : List ℕ) × (text : List ℕ) × GivesBytes before now more × IsAtEnd now.left × AreRows from.number (lines_from from more now) text × WritesAll old new text
Runs from before now old new TooLong = (more : List ℕ) × (text : List ℕ) × GivesBytes before now more × IsTooMuch from more now text × WritesAll old new text
Runs from before now old new NoMemory = (more : List ℕ) × (text : List ℕ) × GivesBytes before now more × AreFrontRows from.number (lines_from from more now) text × WritesAll old new text
Runs from before now old new WriteFault = (more : List ℕ) × (text : List ℕ) × GivesBytes before now more × AreFrontRows from.number (lines_from from more now) text × WritesFront old new text
Runs from before now old new ReadFault = (more : List ℕ) × (text : List ℕ) × Consumes before.left now.left more × Rose before.faults now.faults
    × AreRows from.number (lines_of (from.rest ++ more)) text × WritesAll old new text
Runs from before now old new _ = ⊥
