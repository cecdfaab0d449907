-- Lines that are taken one after another.
use Rattle.std.proofs.Common.{◌≡◌, ℕ, ◌≤◌, List, [], ◌∷◌, ◌++◌, length, append_assoc, refl, sym, ap, ◌∙◌}
use Rattle.input_lines.specs.Lines.{line_feed, IsUnbroken}
use Rattle.input_lines.specs.Laws.{Begins}
use Rattle.input_lines.specs.Splits.{begin, take_line, begins_both, begins_same}
use Rattle.live_node.specs.Live.{LiveView, line_step}
use Rattle.live_node.specs.Live.Step.{Goes, Refuses}
use Rattle.input_lines.specs.Numbers.{next_number, number_behind, number_behind_both}
use Rattle.controller.specs.Input.{event_limit}
use Rattle.controller.specs.Course.{behind, line_refusal, course}
use Rattle.controller.specs.Course.Course.{Ends}
use Rattle.controller.specs.Outcome.{capacity}
use Rattle.controller.specs.Session.{Stand, Took, with_more}
use Rattle.program_words.specs.declared.status.Status.TheVariants.{Refused}
use Rattle.controller.proofs.Courses.{course_both, line_goes, line_refused}

pub took_nothing : (s : Stand) → Took s s [] []
took_nothing s = record { begins = begin s.rest; stands = refl; number = refl }

-- one more line
pub took_line : (from to : Stand) (lines : List (List ℕ)) (text line rest more : List ℕ) (w : LiveView capacity) → Took from to lines text → to.rest ≡ line ++ line_feed ∷ rest → IsUnbroken line
    → length line ≤ event_limit → line_step to.node line ≡ Goes w more → Took from (record { node = w; number = next_number to.number; rest = rest }) (lines ++ line ∷ []) (text ++ more)
took_line from to lines text line rest more w t splits unbroken short goes = record {
  begins = take_line from.rest lines to.rest line rest t.begins splits unbroken;
  stands = course_both from.node to.node from.number lines (line ∷ []) text t.stands ∙ ap (behind text) (line_goes to.node w (number_behind from.number lines) line more short goes);
  number = ap next_number t.number ∙ sym (number_behind_both from.number lines (line ∷ []));
}

-- a line that a rule refuses
pub took_refused : (from to : Stand) (lines : List (List ℕ)) (text line rest : List ℕ) (rule : ℕ) → Took from to lines text → to.rest ≡ line ++ line_feed ∷ rest → IsUnbroken line
    → length line ≤ event_limit → line_step to.node line ≡ Refuses rule → Begins from.rest (lines ++ line ∷ []) rest
    × (course from.node from.number (lines ++ line ∷ []) ≡ Ends (record { status = Refused; text = text ++ (line_refusal rule to.number).text }))
took_refused from to lines text line rest rule t splits unbroken short refuses = (
  take_line from.rest lines to.rest line rest t.begins splits unbroken,
  course_both from.node to.node from.number lines (line ∷ []) text t.stands ∙ ap (behind text) (line_refused to.node (number_behind from.number lines) line rule short refuses)
      ∙ ap (λ n. Ends (record { status = Refused; text = text ++ (line_refusal rule n).text })) (sym t.number),
)

-- more lines, of more bytes
pub took_more : (from mid to : Stand) (first second : List ℕ) (lines others : List (List ℕ)) (text more : List ℕ) → Took (with_more from first) mid lines text → Took (with_more mid second) to others more
    → Took (with_more from (first ++ second)) to (lines ++ others) (text ++ more)
took_more from mid to first second lines others text more a b = record {
  begins = begins_same _ _ (lines ++ others) to.rest (append_assoc from.rest first second) (begins_both (from.rest ++ first) second to.rest lines others mid.rest a.begins b.begins);
  stands = course_both from.node mid.node from.number lines others text a.stands ∙ ap (λ n. behind text (course mid.node n others)) (sym a.number) ∙ ap (behind text) b.stands;
  number = b.number ∙ ap (λ n. number_behind n others) a.number ∙ sym (number_behind_both from.number lines others);
}
