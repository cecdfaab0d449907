-- What the program says of the bytes that it reads.
use Rattle.std.specs.Prelude.{◌≡◌, ℕ, ◌<◌, ◌≤◌, ◌↔◌, ◌⊎◌, List, length, Option, Some, IfSome, Result, Ok, Err}
use Rattle.std.specs.Io.KnownBytes.{Appends, Keeps, IsAtEnd}
use Rattle.span_io.specs.Causes.{Rose, AppendsPrefix, GivenPast}
use Rattle.serde_json.specs.Data.{Data}
use Rattle.scenario_reading.specs.Reading.{Reads}
use Rattle.scenario.specs.Scenario.{ScenarioView}
use Rattle.scenario_reading.specs.Verdict.{IsAcceptedValue, value_refusal}
use Rattle.run_text.specs.PeriodText.{refused_text}
use Rattle.node_alone.specs.Log.{RecordView}
use Rattle.node_alone.specs.Rules.{IsAcceptedRecord, record_refusal}
use Rattle.storm_sum.specs.Laws.{storm_summary, IsStormSummary, Withstands}
use Rattle.run_text.specs.StormText.{storm_text}
use Rattle.top_call.specs.declared.form.Reading.{Reading}
use Rattle.top_call.specs.declared.form.Reading.TheVariants.{Scenario, Log}
use Rattle.top_call.specs.declared.form.Command.{Command}
use Rattle.top_call.specs.declared.form.Command.TheVariants.{Read, Storm}
use Rattle.program_words.specs.declared.status.Status.{Status}
use Rattle.program_words.specs.declared.status.Status.TheVariants.{Done, Usage, Unreadable, Refused, ReadFault, WriteFault, NoMemory, TooLong}
use Rattle.top_call.specs.declared.form.Form.{Form}
use Rattle.top_call.specs.declared.replay.ReplayError.{ReplayError}
use Rattle.top_call.specs.declared.replay.ReplayError.TheVariants as errors
use Rattle.top_call.specs.Words.{Calls}
use Rattle.top_call.specs.Run.{run_text, IsSafeRun}
use Rattle.top_call.specs.Alone.{log_text}

-- how many bytes an input may have
abbrev pub input_limit : ℕ
input_limit = 4194304

-- how many nodes a scenario that is read has room for
abbrev pub capacity : ℕ
capacity = 16

-- the bytes are JSON text of an accepted scenario
pub record IsAcceptedText (bytes : List ℕ) (sc : ScenarioView capacity) : Type 0 where
  pub value : Data
  pub reads : Reads bytes value
  pub accepted : IsAcceptedValue value sc

-- they are JSON text of the accepted log of a node
pub record IsAcceptedLog (bytes : List ℕ) (id : ℕ) (log : RecordView capacity) : Type 0 where
  pub value : Data
  pub reads : Reads bytes value
  pub accepted : IsAcceptedRecord id value log

-- they are an accepted input of this kind
abbrev pub IsAcceptedInput : Reading → List ℕ → Type 0
IsAcceptedInput (Scenario form) bytes = (sc : ScenarioView capacity) × IsAcceptedText bytes sc
IsAcceptedInput (Log id) bytes = (log : RecordView capacity) × IsAcceptedLog bytes id log

-- what the rules say of a JSON value
abbrev pub refusal_for : Reading → Data → Option (ℕ × ℕ)
refusal_for (Scenario form) d = value_refusal capacity d
refusal_for (Log id) d = record_refusal capacity id d

-- they are JSON text that a rule refuses at a place
pub record IsRefused (reading : Reading) (bytes : List ℕ) (rule place : ℕ) : Type 0 where
  pub value : Data
  pub reads : Reads bytes value
  pub refused : refusal_for reading value ≡ Some (rule, place)

-- the text of the bytes, and what holds of it: of a run, that each claimed period is safe
abbrev pub HasTextOf : Reading → List ℕ → List ℕ → Type 0
HasTextOf (Scenario form) bytes text = (sc : ScenarioView capacity) × IsAcceptedText bytes sc × (text ≡ run_text form sc) × IsSafeRun sc
HasTextOf (Log id) bytes text = (log : RecordView capacity) × IsAcceptedLog bytes id log × (text ≡ log_text log)

-- The text that is written where nothing fails. Of a storm, for which nothing is read, all periods are claimed, and keep what is promised
abbrev pub HasText : Command → List ℕ → List ℕ → Type 0
HasText (Read reading) bytes text = HasTextOf reading bytes text
HasText (Storm seed) bytes text = (text ≡ storm_text (storm_summary seed)) × IsStormSummary (storm_summary seed) × Withstands seed

-- they are no JSON text
abbrev pub IsUnreadable : List ℕ → Type 0
IsUnreadable bytes = (d : Data) → Reads bytes d → ⊥

-- the source was read to its end, and these are its bytes: where it tells what was left, all of that
pub record IsWhole (old new : Option (List ℕ)) (bytes : List ℕ) : Type 0 where
  pub all : IfSome old (λ xs. bytes ≡ xs)
  pub end : IsAtEnd new
  pub short : length bytes ≤ input_limit

-- nothing was read: the source gave no byte, and where it tells what is left, that is what was left
pub record IsUnread (left_old left_new : Option (List ℕ)) (given_old given_new : ℕ) : Type 0 where
  pub left : Keeps left_old left_new
  pub given : given_new ≡ given_old

-- what was read: all bytes of the source, or nothing for a storm
abbrev pub IsRead : Command → (left_old left_new : Option (List ℕ)) → (given_old given_new : ℕ) → List ℕ → Type 0
IsRead (Read reading) left_old left_new given_old given_new bytes = IsWhole left_old left_new bytes
IsRead (Storm seed) left_old left_new given_old given_new bytes = IsUnread left_old left_new given_old given_new

-- nothing was read or written
pub record IsUntouched (left_old left_new : Option (List ℕ)) (given_old given_new : ℕ) (written_old written_new : Option (List ℕ)) : Type 0 where
  pub left : Keeps left_old left_new
  pub given : given_new ≡ given_old
  pub written : Keeps written_old written_new

-- the text was written and no fault was counted, or a prefix of it where the count of faults rose
abbrev pub WritesSome : Option (List ℕ) → Option (List ℕ) → ℕ → ℕ → List ℕ → Type 0
WritesSome old new before now text = (Appends old new text × (now ≡ before)) ⊎ (AppendsPrefix old new text × Rose before now)

-- what must be answered of these bytes, if not that there was no memory, where neither count of faults rose
pub record Decides (reading : Reading) (bytes : List ℕ) (before now : ℕ) (status : Status) : Type 0 where
  pub too_long : input_limit < length bytes → (status ≡ TooLong) ⊎ (status ≡ NoMemory)
  pub unreadable : length bytes ≤ input_limit → IsUnreadable bytes → (status ≡ Unreadable) ⊎ (status ≡ NoMemory)
  pub refused : length bytes ≤ input_limit → (rule place : ℕ) → IsRefused reading bytes rule place → (status ≡ Refused) ⊎ (status ≡ NoMemory)
  pub accepted : length bytes ≤ input_limit → IsAcceptedInput reading bytes → ¬ Rose before now → (status ≡ Done) ⊎ (status ≡ NoMemory)

-- the same of a command, by what was left in the source, and the counts of faults of source and sink
abbrev pub IsDecided : Command → Option (List ℕ) → ℕ → ℕ → ℕ → ℕ → Status → Type 0
IsDecided (Read reading) left source_before source_now before now status = ¬ Rose source_before source_now → IfSome left (λ bytes. Decides reading bytes before now status)
IsDecided (Storm seed) left source_before source_now before now status = ¬ Rose before now → (status ≡ Done) ⊎ (status ≡ NoMemory)

-- what is answered of the bytes of an input that is not too long, and written
abbrev pub Answers : Reading → List ℕ → Option (List ℕ) → Option (List ℕ) → ℕ → ℕ → Status → Type 0
Answers reading bytes old new before now Done = (text : List ℕ) × HasTextOf reading bytes text × Appends old new text × (now ≡ before)
Answers reading bytes old new before now WriteFault = (text : List ℕ) × HasTextOf reading bytes text × AppendsPrefix old new text × Rose before now
Answers reading bytes old new before now Unreadable = IsUnreadable bytes × Keeps old new × (now ≡ before)
Answers reading bytes old new before now Refused = (rule : ℕ) × (place : ℕ) × IsRefused reading bytes rule place × WritesSome old new before now (refused_text rule place)
Answers reading bytes old new before now NoMemory = Keeps old new × (now ≡ before)
Answers reading bytes old new before now Usage = ⊥
Answers reading bytes old new before now ReadFault = ⊥
Answers reading bytes old new before now TooLong = ⊥

abbrev pub error_status : ReplayError → Status
error_status errors.WriteFault = WriteFault
error_status errors.NoMemory = NoMemory

-- how a call ends whose run was written so
abbrev pub status_of : Result (Unit {0}) ReplayError → Status
status_of (Ok u) = Done
status_of (Err e) = error_status e

-- what is answered of the JSON value of a scenario, and written
abbrev pub AnswersValue : Form → Data → Option (List ℕ) → Option (List ℕ) → ℕ → ℕ → Status → Type 0
AnswersValue form d old new before now status = (bytes : List ℕ) → Reads bytes d → Answers (Scenario form) bytes old new before now status

-- what is answered of a storm, and written
abbrev pub AnswersStorm : ℕ → Option (List ℕ) → Option (List ℕ) → ℕ → ℕ → Status → Type 0
AnswersStorm seed old new before now Done = IsStormSummary (storm_summary seed) × Withstands seed × Appends old new (storm_text (storm_summary seed)) × (now ≡ before)
AnswersStorm seed old new before now WriteFault = IsStormSummary (storm_summary seed) × Withstands seed × AppendsPrefix old new (storm_text (storm_summary seed)) × Rose before now
AnswersStorm seed old new before now NoMemory = Keeps old new × (now ≡ before)
AnswersStorm seed old new before now Usage = ⊥
AnswersStorm seed old new before now Unreadable = ⊥
AnswersStorm seed old new before now Refused = ⊥
AnswersStorm seed old new before now ReadFault = ⊥
AnswersStorm seed old new before now TooLong = ⊥

-- what is seen of a source and a sink: what is left to read, how many bytes the source gave, and how many faults it counted; what was written,
-- and how many faults the sink counted
pub record Devices : Type 0 where
  pub left : Option (List ℕ)
  pub given : ℕ
  pub source_faults : ℕ
  pub written : Option (List ℕ)
  pub sink_faults : ℕ

-- all that the top call promises of its status, clause by clause under the same names
pub record IsStatusOf (words : List (List ℕ)) (old new : Devices) (status : Status) : Type 0 where
  pub usage : (status ≡ Usage) ↔ ((command : Command) → Calls words command → ⊥)
  pub usage_untouched : status ≡ Usage → IsUntouched old.left new.left old.given new.given old.written new.written
  pub read_fault : status ≡ ReadFault → Rose old.source_faults new.source_faults × Keeps old.written new.written
  pub faults : (status ≡ ReadFault) ⊎ (new.source_faults ≡ old.source_faults)
  pub sink_faults : (status ≡ WriteFault) ⊎ ((status ≡ Refused) ⊎ (new.sink_faults ≡ old.sink_faults))
  pub too_long : status ≡ TooLong → IfSome old.left (λ bytes. input_limit < length bytes) × GivenPast input_limit old.given new.given × Keeps old.written new.written
  pub unreadable : status ≡ Unreadable → (bytes : List ℕ) × IsWhole old.left new.left bytes × IsUnreadable bytes × Keeps old.written new.written
  pub refused : status ≡ Refused → (reading : Reading) × (bytes : List ℕ) × (rule : ℕ) × (place : ℕ) × Calls words (Read reading) × IsWhole old.left new.left bytes
      × IsRefused reading bytes rule place × WritesSome old.written new.written old.sink_faults new.sink_faults (refused_text rule place)
  pub write_fault : status ≡ WriteFault → (command : Command) × (bytes : List ℕ) × (text : List ℕ) × Calls words command
      × IsRead command old.left new.left old.given new.given bytes × HasText command bytes text × AppendsPrefix old.written new.written text
      × Rose old.sink_faults new.sink_faults
  pub no_memory : status ≡ NoMemory → Keeps old.written new.written
  pub done : status ≡ Done → (command : Command) × (bytes : List ℕ) × (text : List ℕ) × Calls words command
      × IsRead command old.left new.left old.given new.given bytes × HasText command bytes text × Appends old.written new.written text
  pub decided : (status ≡ Usage) ⊎ ((command : Command) × Calls words command
      × IsDecided command old.left old.source_faults new.source_faults old.sink_faults new.sink_faults status)
