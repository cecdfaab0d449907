-- What is written of a front of the bytes is a front of what is written of all.
use Rattle.std.proofs.Common.{◌≡◌, ℕ, List, [], ◌++◌, append-nil, refl, sym, ap, ◌∙◌}
use Rattle.input_lines.specs.Lines.{lines_of, rest_of}
use Rattle.input_lines.specs.Splits.{front_law}
use Rattle.live_node.specs.Live.{LiveView}
use Rattle.input_lines.specs.Numbers.{number_behind}
use Rattle.controller.specs.Course.{Course, behind, course, closing, course_end}
use Rattle.controller.specs.Course.Course.{Stands, Ends}
use Rattle.controller.specs.Laws.{text_of, IsFrontOf, CausalLaw}
use Rattle.controller.proofs.Courses.{course_both, course_ended}

text_behind : {N : ℕ} (text : List ℕ) (c : Course N) → text_of (behind text c) ≡ text ++ text_of c
text_behind text (Stands v more) = refl
text_behind text (Ends e) = refl

front_lines : {N : ℕ} (v : LiveView N) (n : ℕ) (lines more : List (List ℕ)) (c : Course N) → course v n lines ≡ c → IsFrontOf (text_of c) (text_of (course v n (lines ++ more)))
front_lines v n lines more (Stands w text) h = (text_of (course w (number_behind n lines) more), ap text_of (course_both v w n lines more text h) ∙ text_behind text (course w (number_behind n lines) more))
front_lines v n lines more (Ends e) h = ([], ap text_of (course_ended v n lines more e h) ∙ sym (append-nil e.text))

front_of_end : {N : ℕ} (n : ℕ) (rest : List ℕ) (c : Course N) → IsFrontOf (text_of c) (course_end n rest c).text
front_of_end n rest (Stands v text) = ((closing v n rest).text, refl)
front_of_end n rest (Ends e) = ([], sym (append-nil e.text))

pub causal : CausalLaw
causal = record {
  fronts = λ v n front more.
      let f = front_lines v n (lines_of front) (lines_of (rest_of front ++ more)) (course v n (lines_of front)) refl in
      (f.0, ap (λ ls. text_of (course v n ls)) (front_law.lines front more) ∙ f.1);
  ends = λ v n bytes. front_of_end (number_behind n (lines_of bytes)) (rest_of bytes) (course v n (lines_of bytes));
}
