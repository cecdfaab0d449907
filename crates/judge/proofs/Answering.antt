-- What a call for a command does, by what its parts do.
use Rattle.std.proofs.Common.{◌≡◌, ℕ, List, [], ◌++◌, length-append, append-nil, arith, refl, sym, ap, ◌∙◌, subst, inl, inr, Option, None, Some, Ok}
use Rattle.input_lines.specs.Lines.{IsUnbroken}
use Rattle.input_lines.specs.FirstLine.{first_line}
use Rattle.input_lines.specs.Reading.{LinesView, SourceView}
use Rattle.input_lines.specs.Devices.{Devices, SinkView, IsInput, told_left, input_is, WritesAll, WritesFront, wrote_nothing, all_all, all_front}
use Rattle.judge_text.specs.Rows.{header_text}
use Rattle.drawn_scenarios.specs.Drawn.{drawn_parts}
use Rattle.drawn_scenarios.specs.declared.choices.Choices.{Choices}
use Rattle.judge.specs.Rows.{all_lines, all_drawn_rows}
use Rattle.judge.specs.Session.{Runs, stand}
use Rattle.judge.specs.declared.lines.Session.{Session}
use Rattle.judge.specs.declared.bench.Bench.{Bench}
use Rattle.judge.specs.Options.{HasOptions, HasNoOptions, IsShown, StopsAtOptions, ReadsOptions, DrawsRows}
use Rattle.drawn_scenarios.specs.declared.options.Options.{Options}
use Rattle.judge.specs.Answers.{header, OptionsEnd, IsOutcome, IsUpToDate, Does}
use Rattle.judge.specs.declared.words.Command.{Command}
use Rattle.judge.specs.declared.words.Command.TheVariants.{Lines, Draw, Show}
use Rattle.judge.specs.declared.words.Draws.{Draws}
use Rattle.judge.specs.declared.words.Draw.{Draw as Drawn}
use Rattle.program_words.specs.declared.status.Status.{Status}
use Rattle.program_words.specs.declared.status.Status.TheVariants.{Done, Usage, Unreadable, Refused, ReadFault, WriteFault, NoMemory, TooLong}

-- the input of which nothing was read
pub input_told : (left : Option (List ℕ)) → IsInput left (told_left left)
input_told None = tt
input_told (Some xs) = refl

-- there was no memory before anything was written
pub no_memory : (command : Command) (a b : SourceView) (k : SinkView) → b.faults ≡ a.faults → Does command (record { source = a; sink = k }) (record { source = b; sink = k }) NoMemory
no_memory command a b k h = (h, inl (wrote_nothing k))

-- the header that was written is the table's
pub header_whole : (old new : SinkView) → WritesAll old new header_text → WritesAll old new header
unfolding header
header_whole old new h = h

pub header_front : (old new : SinkView) → WritesFront old new header_text → WritesFront old new header
unfolding header
header_front old new h = h

-- a table without rows is the header
pub header_alone : header ≡ header ++ []
header_alone = sym (append-nil header)

-- ---- lines

-- a new session stands before the first line
pub first_from : (s : Session) (bench : Bench) (ls : LinesView) → s ≡ record { bench = bench; lines = ls; number = 1 } → ls.rest ≡ [] → stand s ≡ record { number = 1; rest = [] }
first_from s bench ls is nothing = ap stand is ∙ ap (λ r. record { number = 1; rest = r }) nothing

-- the header could not be written
pub lines_without_header : (a : SourceView) (old new : SinkView) → WritesFront old new header → Does Lines (record { source = a; sink = old }) (record { source = a; sink = new }) WriteFault
lines_without_header a old new wrote = (
  header,
  inl (refl, told_left a.left, input_told a.left, ([], record { front = []; others = all_lines (told_left a.left); splits = refl; rows = refl }, header_alone)),
  wrote,
)

-- and what a session does behind it
pub lines_done : (status : Status) (a b : SourceView) (old mid new : SinkView) → WritesAll old mid header → Runs (record { number = 1; rest = [] }) a b mid new status → Does Lines (record { source = a; sink = old }) (record { source = b; sink = new }) status
lines_done Done a b old mid new head (more, text, gave, over, rows, wrote) =
    (header ++ text, (gave.faults, more ++ told_left b.left, input_is a.left b.left more gave.left, (text, rows, refl)), over, all_all old mid new header text head wrote)
lines_done TooLong a b old mid new head (more, text, gave, inl cut, wrote) =
    (header ++ text, (gave.faults, more ++ told_left b.left, input_is a.left b.left more gave.left, (text, inl cut, refl)), all_all old mid new header text head wrote)
lines_done TooLong a b old mid new head (more, text, gave, inr full, wrote) =
    (header ++ text, (gave.faults, more ++ told_left b.left, input_is a.left b.left more gave.left, (text, inr (omega (arith, full.0, length-append more (told_left b.left)), full.1), refl)), all_all old mid new header text head wrote)
lines_done NoMemory a b old mid new head (more, text, gave, front, wrote) =
    (gave.faults, inr (header ++ text, (gave.faults, more ++ told_left b.left, input_is a.left b.left more gave.left, (text, front, refl)), all_all old mid new header text head wrote))
lines_done WriteFault a b old mid new head (more, text, gave, front, wrote) =
    (header ++ text, inl (gave.faults, more ++ told_left b.left, input_is a.left b.left more gave.left, (text, front, refl)), all_front old mid new header text head wrote)
lines_done ReadFault a b old mid new head (more, text, consumes, rose, rows, wrote) =
    (rose, more, header ++ text, consumes, (text, rows, refl), all_all old mid new header text head wrote)
lines_done Usage a b old mid new head h = absurd h
lines_done Unreadable a b old mid new head h = absurd h
lines_done Refused a b old mid new head h = absurd h

-- ---- options

ends_without : (IsWanted : Choices → List ℕ → Type 0) (line : List ℕ) (status : Status) (text : List ℕ) → HasNoOptions line status text → OptionsEnd IsWanted line status text
ends_without IsWanted line Done text h = absurd h
ends_without IsWanted line Usage text h = h
ends_without IsWanted line Unreadable text h = h
ends_without IsWanted line Refused text h = h
ends_without IsWanted line ReadFault text h = h
ends_without IsWanted line WriteFault text h = h
ends_without IsWanted line NoMemory text h = h
ends_without IsWanted line TooLong text h = h

-- the calls that read options
abbrev pub WantsOptions : Command → Type 0
WantsOptions Lines = ⊥
WantsOptions (Draw d) = Unit {0}
WantsOptions (Show d) = Unit {0}

outcome_without : (command : Command) → WantsOptions command → (bytes : List ℕ) (status : Status) (text : List ℕ) → HasNoOptions (first_line bytes) status text → IsOutcome command bytes status text
outcome_without Lines w bytes status text h = absurd w
outcome_without (Draw d) w bytes status text h = ends_without _ (first_line bytes) status text h
outcome_without (Show d) w bytes status text h = ends_without _ (first_line bytes) status text h

up_to_date_without : (command : Command) → WantsOptions command → (bytes : List ℕ) → IsUnbroken bytes → (text : List ℕ) × IsUpToDate command bytes text × (text ≡ [])
up_to_date_without Lines w bytes h = absurd w
up_to_date_without (Draw d) w bytes h = ([], (h, refl), refl)
up_to_date_without (Show d) w bytes h = ([], (h, refl), refl)

wrote_none : (old new : SinkView) → new ≡ old → WritesAll old new []
wrote_none old new same = subst (λ k. WritesAll old k []) (sym same) (wrote_nothing old)

-- there are none
pub stopped_at_options : (command : Command) → WantsOptions command → (old new : Devices) (status : Status) → StopsAtOptions status old new → Does command old new status
stopped_at_options command w old new Unreadable (faultless, bytes, input, none, same) = ([], (faultless, bytes, input, outcome_without command w bytes Unreadable [] none), wrote_none old.sink new.sink same)
stopped_at_options command w old new TooLong (faultless, bytes, input, none, same) = ([], (faultless, bytes, input, outcome_without command w bytes TooLong [] none), wrote_none old.sink new.sink same)
stopped_at_options command w old new Refused (faultless, bytes, text, input, none, wrote) = (text, (faultless, bytes, input, outcome_without command w bytes Refused text none), wrote)
stopped_at_options command w old new NoMemory (faultless, same) = (faultless, inl (wrote_none old.sink new.sink same))
stopped_at_options command w old new ReadFault (rose, bytes, consumes, unbroken, same) =
    let u = up_to_date_without command w bytes unbroken in (rose, bytes, u.0, consumes, u.1, subst (λ t. WritesAll old.sink new.sink t) (sym u.2) (wrote_none old.sink new.sink same))
stopped_at_options command w old new Done (faultless, bytes, input, none, same) = absurd none
stopped_at_options command w old new Usage (faultless, bytes, input, none, same) = absurd none
stopped_at_options command w old new WriteFault (faultless, bytes, input, none, same) = absurd none

-- ---- what is drawn

module _ (d : Draws) (choices : Choices) (a b : SourceView) (bytes : List ℕ) (faultless : b.faults ≡ a.faults) (input : IsInput a.left bytes) (has : HasOptions (first_line bytes) choices) where
  -- the header could not be written
  pub draws_without_header : (old new : SinkView) → WritesFront old new header → Does (Draw d) (record { source = a; sink = old }) (record { source = b; sink = new }) WriteFault
  draws_without_header old new wrote = (header, inl (faultless, bytes, input, (choices, has, ([], (0, omega arith, refl), header_alone))), wrote)

  -- the rows behind it
  pub draws_done : (status : Status) (old mid new : SinkView) → WritesAll old mid header → DrawsRows choices d mid new status → Does (Draw d) (record { source = a; sink = old }) (record { source = b; sink = new }) status
  draws_done Done old mid new head wrote =
      let rows = all_drawn_rows choices d.seed d.first d.count in
      (header ++ rows, (faultless, bytes, input, (choices, has, (rows, refl, refl))), tt, all_all old mid new header rows head wrote)
  draws_done NoMemory old mid new head (k, few, wrote) =
      let rows = all_drawn_rows choices d.seed d.first k in
      (faultless, inr (header ++ rows, (faultless, bytes, input, (choices, has, (rows, (k, few, refl), refl))), all_all old mid new header rows head wrote))
  draws_done WriteFault old mid new head (k, few, wrote) =
      let rows = all_drawn_rows choices d.seed d.first k in
      (header ++ rows, inl (faultless, bytes, input, (choices, has, (rows, (k, few, refl), refl))), all_front old mid new header rows head wrote)
  draws_done Usage old mid new head h = absurd h
  draws_done Unreadable old mid new head h = absurd h
  draws_done Refused old mid new head h = absurd h
  draws_done ReadFault old mid new head h = absurd h
  draws_done TooLong old mid new head h = absurd h

module _ (d : Drawn) (choices : Choices) (a b : SourceView) (bytes text : List ℕ) (faultless : b.faults ≡ a.faults) (input : IsInput a.left bytes) (has : HasOptions (first_line bytes) choices)
    (shown : IsShown (drawn_parts choices d.seed d.index) text) where
  pub shows : (old new : SinkView) → WritesAll old new text → Does (Show d) (record { source = a; sink = old }) (record { source = b; sink = new }) Done
  shows old new wrote = (text, (faultless, bytes, input, (choices, has, shown)), tt, wrote)

  pub shows_front : (old new : SinkView) → WritesFront old new text → Does (Show d) (record { source = a; sink = old }) (record { source = b; sink = new }) WriteFault
  shows_front old new wrote = (text, inr (faultless, bytes, input, (choices, has, shown)), wrote)

-- ---- what comes behind options that were read

module _ (a b : SourceView) (old read : SinkView) (o : Options) where
  pub no_memory_behind : (command : Command) → ReadsOptions (record { source = a; sink = old }) (record { source = b; sink = read }) (Ok o) → Does command (record { source = a; sink = old }) (record { source = b; sink = read }) NoMemory
  no_memory_behind command (faultless, bytes, input, has, same) = (faultless, inl (wrote_none old read same))

  pub draws_behind : (d : Draws) (status : Status) (mid new : SinkView) → ReadsOptions (record { source = a; sink = old }) (record { source = b; sink = read }) (Ok o) → WritesAll read mid header_text → DrawsRows o.choices d mid new status
      → Does (Draw d) (record { source = a; sink = old }) (record { source = b; sink = new }) status
  draws_behind d status mid new (faultless, bytes, input, has, same) head rows =
      draws_done d o.choices a b bytes faultless input has status old mid new (header_whole old mid (subst (λ k. WritesAll k mid header_text) same head)) rows

  pub header_failed_behind : (d : Draws) (new : SinkView) → ReadsOptions (record { source = a; sink = old }) (record { source = b; sink = read }) (Ok o) → WritesFront read new header_text
      → Does (Draw d) (record { source = a; sink = old }) (record { source = b; sink = new }) WriteFault
  header_failed_behind d new (faultless, bytes, input, has, same) head =
      draws_without_header d o.choices a b bytes faultless input has old new (header_front old new (subst (λ k. WritesFront k new header_text) same head))

  pub shows_behind : (d : Drawn) (text : List ℕ) (new : SinkView) → IsShown (drawn_parts o.choices d.seed d.index) text → ReadsOptions (record { source = a; sink = old }) (record { source = b; sink = read }) (Ok o) → WritesAll read new text
      → Does (Show d) (record { source = a; sink = old }) (record { source = b; sink = new }) Done
  shows_behind d text new shown (faultless, bytes, input, has, same) wrote =
      shows d o.choices a b bytes text faultless input has shown old new (subst (λ k. WritesAll k new text) same wrote)

  pub shows_front_behind : (d : Drawn) (text : List ℕ) (new : SinkView) → IsShown (drawn_parts o.choices d.seed d.index) text → ReadsOptions (record { source = a; sink = old }) (record { source = b; sink = read }) (Ok o) → WritesFront read new text
      → Does (Show d) (record { source = a; sink = old }) (record { source = b; sink = new }) WriteFault
  shows_front_behind d text new shown (faultless, bytes, input, has, same) wrote =
      shows_front d o.choices a b bytes text faultless input has shown old new (subst (λ k. WritesFront k new text) same wrote)
