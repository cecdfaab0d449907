-- What the top call says of its status.
use Rattle.std.specs.Prelude.{◌≡◌, ℕ, ◌-◌, ◌^◌, ◌<◌, ◌≤◌, ◌↔◌, ◌⊎◌, List, [], length, Option, IfSome}
use Rattle.std.specs.Io.KnownBytes.{Consumes, IsAtEnd}
use Rattle.span_io.specs.Causes.{Rose}
use Rattle.scenario.specs.Scenario.{ScenarioView}
use Rattle.live_node.specs.Live.{LiveView}
use Rattle.input_lines.specs.Lines.{IsUnbroken}
use Rattle.input_lines.specs.FirstLine.{first_line, behind_first}
use Rattle.input_lines.specs.Devices.{IsInput, WritesAll, WritesFront, WritesSome, Devices, IsUntouched}
use Rattle.controller.specs.Words.{Calls}
use Rattle.controller.specs.Input.{scenario_limit}
use Rattle.controller.specs.Course.{ending_of}
use Rattle.controller.specs.Outcome.{capacity, first_event, IsAcceptedText, IsUnreadable, IsRefusedText, IsNode, IsAnswered, EndsSo, IsOutcome}
use Rattle.program_words.specs.declared.status.Status.{Status}
use Rattle.program_words.specs.declared.status.Status.TheVariants.{Done, Usage, Unreadable, Refused, ReadFault, WriteFault, NoMemory, TooLong}

-- the words call for a node, whose whole input ends so
pub record HasOutcome (words : List (List ℕ)) (left : Option (List ℕ)) (status : Status) (text : List ℕ) : Type 0 where
  pub id : ℕ
  pub calls : Calls words id
  pub bytes : List ℕ
  pub input : IsInput left bytes
  pub outcome : IsOutcome id bytes status text

-- the words call for a node, and the text answers lines that its whole input begins with, or is all of its text
pub record HasPart (words : List (List ℕ)) (left : Option (List ℕ)) (text : List ℕ) : Type 0 where
  pub id : ℕ
  pub calls : Calls words id
  pub bytes : List ℕ
  pub input : IsInput left bytes
  pub part : ((v : LiveView capacity) × (rest : List ℕ) × IsNode (first_line bytes) id v × IsAnswered v (behind_first bytes) rest text) ⊎ EndsSo bytes id Done text

-- The text answers all whole lines of the bytes. The scenario's line has no answer
abbrev pub IsUpToDate : ℕ → List ℕ → List ℕ → Type 0
IsUpToDate id bytes text = (IsUnbroken bytes × (text ≡ []))
    ⊎ ((v : LiveView capacity) × (rest : List ℕ) × IsNode (first_line bytes) id v × IsAnswered v (behind_first bytes) rest text × IsUnbroken rest)

-- the words call for a node, these bytes were read, and the text answers all of their lines
pub record IsAnsweredSoFar (words : List (List ℕ)) (before now : Option (List ℕ)) (text : List ℕ) : Type 0 where
  pub id : ℕ
  pub calls : Calls words id
  pub bytes : List ℕ
  pub read : Consumes before now bytes
  pub answered : IsUpToDate id bytes text

-- all new nodes of this number, of the scenario of this line, come to this end
abbrev pub AllEnd : List ℕ → ℕ → Status → Type 0
AllEnd bytes id status = (v : LiveView capacity) → IsNode (first_line bytes) id v → (ending_of v first_event (behind_first bytes)).status ≡ status

-- what must be answered to these bytes, if not that there was no memory, where no device failed
pub record Decides (id : ℕ) (bytes : List ℕ) (status : Status) : Type 0 where
  pub too_long : scenario_limit < length (first_line bytes) → (status ≡ TooLong) ⊎ (status ≡ NoMemory)
  pub unreadable : length (first_line bytes) ≤ scenario_limit → IsUnreadable (first_line bytes) → (status ≡ Unreadable) ⊎ (status ≡ NoMemory)
  pub refused : length (first_line bytes) ≤ scenario_limit → (rule place : ℕ) → IsRefusedText (first_line bytes) rule place → (status ≡ Refused) ⊎ (status ≡ NoMemory)
  pub foreign : length (first_line bytes) ≤ scenario_limit → (sc : ScenarioView capacity) → IsAcceptedText (first_line bytes) sc → sc.config.nodes ≤ id → (status ≡ Refused) ⊎ (status ≡ NoMemory)
  pub node : length (first_line bytes) ≤ scenario_limit → (sc : ScenarioView capacity) → IsAcceptedText (first_line bytes) sc → id < sc.config.nodes → length bytes < 2 ^ 64 - 1
      → (wanted : Status) → AllEnd bytes id wanted → (status ≡ wanted) ⊎ (status ≡ NoMemory)

-- the same of what was left in the source, where it is told
abbrev pub IsDecided : ℕ → Devices → Devices → Status → Type 0
IsDecided id old new status = ¬ Rose old.source.faults new.source.faults → ¬ Rose old.sink.faults new.sink.faults → IfSome old.source.left (λ bytes. Decides id bytes status)

-- all that the top call promises of its status, clause by clause under the same names
pub record IsStatusOf (words : List (List ℕ)) (old new : Devices) (status : Status) : Type 0 where
  pub usage : (status ≡ Usage) ↔ ((id : ℕ) → Calls words id → ⊥)
  pub usage_untouched : status ≡ Usage → IsUntouched old new
  pub read_fault : status ≡ ReadFault → Rose old.source.faults new.source.faults × (text : List ℕ) × IsAnsweredSoFar words old.source.left new.source.left text × WritesAll old.sink new.sink text
  pub faults : (status ≡ ReadFault) ⊎ (new.source.faults ≡ old.source.faults)
  pub sink_faults : (status ≡ WriteFault) ⊎ ((status ≡ Refused) ⊎ (new.sink.faults ≡ old.sink.faults))
  pub too_long : status ≡ TooLong → (text : List ℕ) × HasOutcome words old.source.left TooLong text × WritesAll old.sink new.sink text
  pub unreadable : status ≡ Unreadable → HasOutcome words old.source.left Unreadable [] × WritesAll old.sink new.sink []
  pub refused : status ≡ Refused → (text : List ℕ) × HasOutcome words old.source.left Refused text × WritesSome old.sink new.sink text
  pub write_fault : status ≡ WriteFault → (text : List ℕ) × HasPart words old.source.left text × WritesFront old.sink new.sink text
  pub no_memory : status ≡ NoMemory → WritesAll old.sink new.sink []
  pub done : status ≡ Done → (text : List ℕ) × HasOutcome words old.source.left Done text × IsAtEnd new.source.left × WritesAll old.sink new.sink text
  pub decided : (status ≡ Usage) ⊎ ((id : ℕ) × Calls words id × IsDecided id old new status)
