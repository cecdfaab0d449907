-- What holds of the answers of a node, over the definitions alone.
use Rattle.std.specs.Prelude.{◌≡◌, ℕ, List, ◌++◌}
use Rattle.input_lines.specs.Lines.{lines_of}
use Rattle.live_node.specs.Live.{LiveView}
use Rattle.controller.specs.Course.{Course, course, ending_of}
use Rattle.controller.specs.Course.Course.{Stands, Ends}

-- what is written of a course
abbrev pub text_of : {N : ℕ} → Course N → List ℕ
text_of (Stands v text) = text
text_of (Ends e) = e.text

-- what a node writes of the whole lines of bytes
abbrev pub answers_to : {N : ℕ} → LiveView N → ℕ → List ℕ → List ℕ
answers_to v n bytes = text_of (course v n (lines_of bytes))

-- front stands at the front of the text
abbrev pub IsFrontOf : List ℕ → List ℕ → Type 0
IsFrontOf front text = (later : List ℕ) × (text ≡ front ++ later)

-- what is written of a front of the bytes is a front of what is written of all; and that of what is written to the end
pub record CausalLaw : Type 0 where
  pub fronts : {N : ℕ} (v : LiveView N) (n : ℕ) (front more : List ℕ) → IsFrontOf (answers_to v n front) (answers_to v n (front ++ more))
  pub ends : {N : ℕ} (v : LiveView N) (n : ℕ) (bytes : List ℕ) → IsFrontOf (answers_to v n bytes) (ending_of v n bytes).text
