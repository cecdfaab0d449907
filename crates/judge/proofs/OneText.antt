-- That the bytes of a line decide its rows.
use Rattle.std.proofs.Common.{◌≡◌, ℕ, List, [], ◌∷◌, ◌++◌, sym, ap, ◌∙◌, subst, Option, Some, None}
use Rattle.node_grid.specs.NumberFacts.{nothing_told}
use Rattle.scenario.specs.Facts.{same_parts}
use Rattle.scenario_reading.specs.Facts.{same_value}
use Rattle.serde_json.specs.Data.{Data}
use Rattle.scenario.specs.Scenario.{ScenarioView}
use Rattle.scenario.specs.Given.{scenario_of}
use Rattle.scenario_reading.specs.Verdict.{IsAcceptedValue, value_refusal, refusal_on}
use Rattle.judge_text.specs.Rows.{refused_row}
use Rattle.input_lines.specs.Numbers.{next_number}
use Rattle.judge.specs.Rows.{scenario_rows, room_for, HasRows, IsRowsOf, AreRows}
use Rattle.judge.specs.Rows.HasRows.{Accepted, Refused}
use Rattle.judge.specs.Rows.IsRowsOf.{Unread, Read}
use Rattle.judge.specs.Laws.{OneTextLaw}

same_scenario : {N : ℕ} (d : Data) (a b : ScenarioView N) → IsAcceptedValue d a → IsAcceptedValue d b → a ≡ b
same_scenario {N} d a b x y = x.says ∙ ap (scenario_of N) (same_parts x.parts y.parts _ x.reads y.reads) ∙ sym y.says

same_refusal : (o : Option (ℕ × ℕ)) (r p s q : ℕ) → o ≡ Some (r, p) → o ≡ Some (s, q) → (r ≡ s) × (p ≡ q)
same_refusal o r p s q h k = let e : ◌≡◌ {A = Option (ℕ × ℕ)} (Some (r, p)) (Some (s, q)) = sym h ∙ k in let pair : ◌≡◌ {A = ℕ × ℕ} (r, p) (s, q) = cc in (ap (λ (x : ℕ × ℕ). x.0) pair, ap (λ (x : ℕ × ℕ). x.1) pair)

unrefused : {N : ℕ} (d : Data) (a : ScenarioView N) → IsAcceptedValue d a → value_refusal N d ≡ None
unrefused {N} d a x = ap (refusal_on N) x.reads ∙ x.unrefused

same_rows : (N n : ℕ) (d : Data) (s t : List ℕ) → HasRows N n d s → HasRows N n d t → s ≡ t
same_rows N n d s t (Accepted a x is) (Accepted b y also) = is ∙ ap (scenario_rows n) (same_scenario d a b x y) ∙ sym also
same_rows N n d s t (Refused r p x is) (Refused q o y also) =
    let e = same_refusal (value_refusal N d) r p q o x y in is ∙ ap (λ k. refused_row n k p) e.0 ∙ ap (refused_row n q) e.1 ∙ sym also
same_rows N n d s t (Accepted a x is) (Refused r p y also) = absurd (nothing_told r p (sym (unrefused d a x) ∙ y))
same_rows N n d s t (Refused r p x is) (Accepted b y also) = absurd (nothing_told r p (sym (unrefused d b y) ∙ x))

of_line : (n : ℕ) (line s t : List ℕ) → IsRowsOf n line s → IsRowsOf n line t → s ≡ t
of_line n line s t (Unread none is) (Unread none_too also) = is ∙ sym also
of_line n line s t (Unread none is) (Read d x h) = absurd (none d x)
of_line n line s t (Read d x h) (Unread none is) = absurd (none d x)
of_line n line s t (Read d x h) (Read e y k) =
    let same = same_value line d e x y in same_rows (room_for d) n d s t h (subst (λ v. HasRows (room_for v) n v t) (sym same) k)

of_lines : (n : ℕ) (lines : List (List ℕ)) (s t : List ℕ) → AreRows n lines s → AreRows n lines t → s ≡ t
of_lines n [] s t a b = a ∙ sym b
of_lines n (line ∷ lines) s t a b =
    a.5 ∙ ap (λ x. x ++ a.2) (of_line n line a.1 b.1 a.3 b.3) ∙ ap (λ x. b.1 ++ x) (of_lines (next_number n) lines a.2 b.2 a.4 b.4) ∙ sym b.5

pub one_text : OneTextLaw
one_text = record { of_line = of_line; of_lines = of_lines }
