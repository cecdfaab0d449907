-- What the top call says of its status.
use Rattle.std.specs.Prelude.{◌≡◌, ℕ, ◌-◌, ◌^◌, ◌≤◌, ◌⊎◌, List, [], ◌++◌, length}
use Rattle.std.specs.Io.KnownBytes.{Consumes, IsAtEnd}
use Rattle.span_io.specs.Causes.{Rose}
use Rattle.input_lines.specs.Lines.{IsUnbroken, lines_of}
use Rattle.input_lines.specs.FirstLine.{first_line}
use Rattle.input_lines.specs.Reading.{SourceView}
use Rattle.input_lines.specs.Devices.{Devices, IsUntouched, IsInput, WritesAll, WritesFront, WritesSome}
use Rattle.judge_text.specs.Rows.{header_text}
use Rattle.drawn_scenarios.specs.Drawn.{drawn_parts}
use Rattle.drawn_scenarios.specs.declared.choices.Choices.{Choices}
use Rattle.judge.specs.Words.{Calls}
use Rattle.judge.specs.Rows.{AreRows, AreFrontRows, AreCutShort, all_lines, all_drawn_rows}
use Rattle.judge.specs.Options.{HasOptions, HasNoOptions, IsFaultless, IsShown}
use Rattle.judge.specs.declared.words.Command.{Command}
use Rattle.judge.specs.declared.words.Command.TheVariants.{Lines, Draw, Show}
use Rattle.program_words.specs.declared.status.Status.{Status}
use Rattle.program_words.specs.declared.status.Status.TheVariants.{Done, Usage, Unreadable, Refused, ReadFault, WriteFault, NoMemory, TooLong}

-- ---- what is written of an input

-- the names of the columns
unfoldable pub header : List ℕ
header = header_text

-- the header, and rows behind it
abbrev pub IsTable : (List ℕ → Type 0) → List ℕ → Type 0
IsTable AreSuch text = (rows : List ℕ) × AreSuch rows × (text ≡ header ++ rows)

-- the number of the first line
abbrev pub first_number : ℕ
first_number = 1

-- the rows of the lines before one that is too long; or so many bytes are read that no call reads more
abbrev pub AreTooMuch : List ℕ → List ℕ → Type 0
AreTooMuch bytes rows = AreCutShort first_number (all_lines bytes) rows ⊎ ((2 ^ 64 - 1 ≤ length bytes) × AreFrontRows first_number (all_lines bytes) rows)

-- the input of a call without words ends so, and then this text was written; other ends are no matter of the bytes
abbrev pub LinesEnd : List ℕ → Status → List ℕ → Type 0
LinesEnd bytes Done text = IsTable (AreRows first_number (all_lines bytes)) text
LinesEnd bytes TooLong text = IsTable (AreTooMuch bytes) text
LinesEnd bytes _ text = ⊥

-- so does one that begins with a line of options, where such a text is wanted
abbrev pub OptionsEnd : (Choices → List ℕ → Type 0) → List ℕ → Status → List ℕ → Type 0
OptionsEnd IsWanted line Done text = (choices : Choices) × HasOptions line choices × IsWanted choices text
OptionsEnd IsWanted line status text = HasNoOptions line status text

abbrev pub IsOutcome : Command → List ℕ → Status → List ℕ → Type 0
IsOutcome Lines bytes status text = LinesEnd bytes status text
IsOutcome (Draw d) bytes status text = OptionsEnd (λ choices. IsTable (λ rows. rows ≡ all_drawn_rows choices d.seed d.first d.count)) (first_line bytes) status text
IsOutcome (Show d) bytes status text = OptionsEnd (λ choices. IsShown (drawn_parts choices d.seed d.index)) (first_line bytes) status text

-- the text is the header, and the rows of the first scenarios
abbrev pub IsFront : Command → List ℕ → List ℕ → Type 0
IsFront Lines bytes text = IsTable (AreFrontRows first_number (all_lines bytes)) text
IsFront (Draw d) bytes text = (choices : Choices) × HasOptions (first_line bytes) choices × IsTable (λ rows. (k : ℕ) × (k ≤ d.count) × (rows ≡ all_drawn_rows choices d.seed d.first k)) text
IsFront (Show d) bytes text = ⊥

-- the text is all that is written of these bytes before more is read
abbrev pub IsUpToDate : Command → List ℕ → List ℕ → Type 0
IsUpToDate Lines bytes text = IsTable (AreRows first_number (lines_of bytes)) text
IsUpToDate (Draw d) bytes text = IsUnbroken bytes × (text ≡ [])
IsUpToDate (Show d) bytes text = IsUnbroken bytes × (text ≡ [])

-- the call reads the whole input; or no more is wanted than the line of options
abbrev pub ReadsAll : Command → SourceView → Type 0
ReadsAll Lines now = IsAtEnd now.left
ReadsAll (Draw d) now = Unit {0}
ReadsAll (Show d) now = Unit {0}

-- ---- what a call does

-- the source didn't fail, and its whole input has this text by its status
abbrev pub HasText : (List ℕ → List ℕ → Type 0) → Devices → Devices → List ℕ → Type 0
HasText IsTextOf old new text = IsFaultless old new × (bytes : List ℕ) × IsInput old.source.left bytes × IsTextOf bytes text

abbrev pub Ends : Command → Status → Devices → Devices → List ℕ → Type 0
Ends command status old new text = HasText (λ bytes. IsOutcome command bytes status) old new text

-- what each status says of a command
abbrev pub Does : Command → Devices → Devices → Status → Type 0
Does command old new Done = (text : List ℕ) × Ends command Done old new text × ReadsAll command new.source × WritesAll old.sink new.sink text
Does command old new Unreadable = (text : List ℕ) × Ends command Unreadable old new text × WritesAll old.sink new.sink text
Does command old new Refused = (text : List ℕ) × Ends command Refused old new text × WritesSome old.sink new.sink text
Does command old new TooLong = (text : List ℕ) × Ends command TooLong old new text × WritesAll old.sink new.sink text
Does command old new ReadFault = Rose old.source.faults new.source.faults × (bytes : List ℕ) × (text : List ℕ) × Consumes old.source.left new.source.left bytes × IsUpToDate command bytes text × WritesAll old.sink new.sink text
Does command old new WriteFault = (text : List ℕ) × (HasText (IsFront command) old new text ⊎ Ends command Done old new text) × WritesFront old.sink new.sink text
Does command old new NoMemory = IsFaultless old new × (WritesAll old.sink new.sink [] ⊎ ((text : List ℕ) × HasText (IsFront command) old new text × WritesAll old.sink new.sink text))
Does command old new Usage = ⊥

-- the words are no form: nothing was read or written
pub record IsUsage (words : List (List ℕ)) (old new : Devices) (status : Status) : Type 0 where
  pub no_form : (command : Command) → Calls words command → ⊥
  pub usage : status ≡ Usage
  pub untouched : IsUntouched old new

-- all that the top call promises of its status
abbrev pub IsStatusOf : List (List ℕ) → Devices → Devices → Status → Type 0
IsStatusOf words old new status = IsUsage words old new status ⊎ ((command : Command) × Calls words command × Does command old new status)
