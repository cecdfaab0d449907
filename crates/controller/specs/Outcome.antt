-- What is answered to an input, and written.
use Rattle.std.specs.Prelude.{◌≡◌, ℕ, ◌-◌, ◌^◌, ◌<◌, ◌≤◌, ◌⊎◌, List, [], length, Some}
use Rattle.serde_json.specs.Data.{Data}
use Rattle.json_parts.specs.Reading.{Reads}
use Rattle.scenario.specs.Scenario.{ScenarioView}
use Rattle.scenario_reading.specs.Verdict.{IsAcceptedValue, value_refusal}
use Rattle.run_text.specs.PeriodText.{refused_text}
use Rattle.live_node.specs.Live.{LiveView, IsNewLive}
use Rattle.input_lines.specs.Laws.{Begins}
use Rattle.input_lines.specs.FirstLine.{first_line, behind_first}
use Rattle.controller.specs.Input.{scenario_limit}
use Rattle.controller.specs.Course.{course, ending_of}
use Rattle.controller.specs.Course.Course.{Stands}
use Rattle.program_words.specs.declared.status.Status.{Status}
use Rattle.program_words.specs.declared.status.Status.TheVariants.{Done, Usage, Unreadable, Refused, ReadFault, WriteFault, NoMemory, TooLong}

-- how many nodes a cluster has room for
abbrev pub capacity : ℕ
capacity = 16

-- the number of the first event's line
abbrev pub first_event : ℕ
first_event = 2

-- the line is JSON text of an accepted scenario
pub record IsAcceptedText (line : List ℕ) (sc : ScenarioView capacity) : Type 0 where
  pub value : Data
  pub reads : Reads line value
  pub accepted : IsAcceptedValue value sc

-- it is no JSON text
abbrev pub IsUnreadable : List ℕ → Type 0
IsUnreadable line = (d : Data) → Reads line d → ⊥

-- it is JSON text that a rule refuses at a place
pub record IsRefusedText (line : List ℕ) (rule place : ℕ) : Type 0 where
  pub value : Data
  pub reads : Reads line value
  pub refused : value_refusal capacity value ≡ Some (rule, place)

-- it is JSON text of an accepted scenario that has no node of this number: rule 16
pub record IsForeign (line : List ℕ) (id rule place : ℕ) : Type 0 where
  pub sc : ScenarioView capacity
  pub accepted : IsAcceptedText line sc
  pub none : sc.config.nodes ≤ id
  pub rule_is : rule ≡ 16
  pub place_is : place ≡ 0

-- the scenario's line is not too long, and a rule refuses it with this text
pub record IsScenarioRefused (line : List ℕ) (id : ℕ) (text : List ℕ) : Type 0 where
  pub short : length line ≤ scenario_limit
  pub rule : ℕ
  pub place : ℕ
  pub cause : IsRefusedText line rule place ⊎ IsForeign line id rule place
  pub text_is : text ≡ refused_text rule place

-- v is node id of the scenario of this line, and was told nothing yet
pub record IsNode (line : List ℕ) (id : ℕ) (v : LiveView capacity) : Type 0 where
  pub short : length line ≤ scenario_limit
  pub sc : ScenarioView capacity
  pub accepted : IsAcceptedText line sc
  pub below : id < sc.config.nodes
  pub new : IsNewLive sc id v

-- the text answers lines that the events begin with, and behind them this rest comes
pub record IsAnswered (v : LiveView capacity) (events : List ℕ) (rest text : List ℕ) : Type 0 where
  pub lines : List (List ℕ)
  pub begins : Begins events lines rest
  pub node : LiveView capacity
  pub stands : course v first_event lines ≡ Stands node text

-- the events of node id end so
abbrev pub EndsSo : List ℕ → ℕ → Status → List ℕ → Type 0
EndsSo bytes id status text = (v : LiveView capacity) × IsNode (first_line bytes) id v × (ending_of v first_event (behind_first bytes) ≡ record { status = status; text = text })

-- so many bytes are read that no call reads more
pub record IsEndless (bytes : List ℕ) (id : ℕ) (text : List ℕ) : Type 0 where
  pub many : 2 ^ 64 - 1 ≤ length bytes
  pub v : LiveView capacity
  pub node : IsNode (first_line bytes) id v
  pub rest : List ℕ
  pub answered : IsAnswered v (behind_first bytes) rest text

-- the input of node id ends with this status, and then this text was written; the others are no matter of the bytes
abbrev pub IsOutcome : ℕ → List ℕ → Status → List ℕ → Type 0
IsOutcome id bytes Done text = EndsSo bytes id Done text
IsOutcome id bytes Unreadable text = (length (first_line bytes) ≤ scenario_limit) × IsUnreadable (first_line bytes) × (text ≡ [])
IsOutcome id bytes Refused text = IsScenarioRefused (first_line bytes) id text ⊎ EndsSo bytes id Refused text
IsOutcome id bytes TooLong text = ((scenario_limit < length (first_line bytes)) × (text ≡ [])) ⊎ (EndsSo bytes id TooLong text ⊎ IsEndless bytes id text)
IsOutcome id bytes Usage text = ⊥
IsOutcome id bytes ReadFault text = ⊥
IsOutcome id bytes WriteFault text = ⊥
IsOutcome id bytes NoMemory text = ⊥
