-- The rows of scenarios that are read, and of scenarios that are drawn.
use Rattle.std.specs.Prelude.{◌≡◌, ℕ, zero, suc, ◌<◌, ◌≤◌, nat_le, pos, int_lt, not, Bool, false, List, [], ◌∷◌, ◌++◌, length, codes, Some, option_map, option_and_then, unwrap_or, if◌then◌else◌}
use Rattle.serde_json.specs.Data.{Data}
use Rattle.serde_json.specs.Find.{get}
use Rattle.json_parts.specs.Reading.{Reads, whole}
use Rattle.scenario.specs.Scenario.{ScenarioView}
use Rattle.scenario.specs.Given.{scenario_of}
use Rattle.scenario_reading.specs.Verdict.{IsAcceptedValue, value_refusal}
use Rattle.run_judged.specs.Rows.{row_of, illnesses_of, skews_of}
use Rattle.input_lines.specs.Lines.{lines_of, rest_of}
use Rattle.input_lines.specs.Numbers.{next_number}
use Rattle.drawn_scenarios.specs.Drawn.{drawn_parts}
use Rattle.drawn_scenarios.specs.declared.choices.Choices.{Choices}
use Rattle.judge_text.specs.Rows.{judged_rows, unread_row, refused_row}

-- how many bytes a line may have
abbrev pub limit : ℕ
limit = 4194304

-- the rows of a scenario that is accepted
unfoldable pub scenario_rows : {N : ℕ} → ℕ → ScenarioView N → List ℕ
scenario_rows number sc = judged_rows number (row_of sc) (illnesses_of sc) (skews_of sc)

-- ---- a line

-- whether a value says that there are at most eight nodes
abbrev pub has_few_nodes : Data → Bool
has_few_nodes d = unwrap_or (option_map (λ z. not (int_lt (pos 8) z)) (option_and_then whole (get (codes "nodes") d))) false

-- for how many nodes there is room where it is judged
abbrev pub room_for : Data → ℕ
room_for d = if has_few_nodes d then 8 else 16

-- the rows of a JSON value, which is accepted with so much room, or refused
pub data HasRows (N number : ℕ) (d : Data) (text : List ℕ) : Type 0 where
  Accepted : (sc : ScenarioView N) → IsAcceptedValue d sc → text ≡ scenario_rows number sc → HasRows N number d text
  Refused : (rule place : ℕ) → value_refusal N d ≡ Some (rule, place) → text ≡ refused_row number rule place → HasRows N number d text

-- the rows of a line
pub data IsRowsOf (number : ℕ) (line text : List ℕ) : Type 0 where
  Unread : ((d : Data) → Reads line d → ⊥) → text ≡ unread_row number → IsRowsOf number line text
  Read : (d : Data) → Reads line d → HasRows (room_for d) number d text → IsRowsOf number line text

-- ---- lines

-- what stands behind the last line feed is a line too, where it is anything
abbrev pub last_line : List ℕ → List (List ℕ)
last_line [] = []
last_line (c ∷ bytes) = (c ∷ bytes) ∷ []

abbrev pub all_lines : List ℕ → List (List ℕ)
all_lines bytes = lines_of bytes ++ last_line (rest_of bytes)

-- the rows of lines, the first of which has this number
abbrev pub AreRows : ℕ → List (List ℕ) → List ℕ → Type 0
AreRows n [] text = text ≡ []
AreRows n (line ∷ lines) text =
    (length line ≤ limit) × (first : List ℕ) × (rest : List ℕ) × IsRowsOf n line first × AreRows (next_number n) lines rest × (text ≡ first ++ rest)

-- the text is the rows of the first of these lines
pub record AreFrontRows (n : ℕ) (lines : List (List ℕ)) (text : List ℕ) : Type 0 where
  pub front : List (List ℕ)
  pub others : List (List ℕ)
  pub splits : lines ≡ front ++ others
  pub rows : AreRows n front text

-- and the line behind them is too long
pub record AreCutShort (n : ℕ) (lines : List (List ℕ)) (text : List ℕ) : Type 0 where
  pub front : List (List ℕ)
  pub long : List ℕ
  pub others : List (List ℕ)
  pub splits : lines ≡ front ++ long ∷ others
  pub too_long : limit < length long
  pub rows : AreRows n front text

-- ---- what is drawn

-- for how many nodes there is room where it is judged
abbrev pub room_of : Choices → ℕ
room_of choices = if nat_le choices.nodes 8 then 8 else 16

-- the rows of the scenario of an index
unfoldable pub drawn_rows : Choices → ℕ → ℕ → List ℕ
drawn_rows choices seed index = scenario_rows index (scenario_of (room_of choices) (drawn_parts choices seed index))

-- and of as many, from this index on
abbrev pub all_drawn_rows : Choices → ℕ → ℕ → ℕ → List ℕ
all_drawn_rows choices seed first zero = []
all_drawn_rows choices seed first (suc count) = drawn_rows choices seed first ++ all_drawn_rows choices seed (suc first) count
