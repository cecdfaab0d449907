-- Rows that were written, or not.
use Rattle.std.proofs.Common.{◌≡◌, ℕ, ◌<◌, ◌≤◌, List, true, false, Bool, arith, sym, ap, ap₂, ◌∙◌, subst, Some, Result, Ok, Err, Option, le-leb, leb-true, inl, inr}
use Rattle.std.proofs.lemmas.Bool.{cases_Bool}
use Rattle.std.specs.Prelude.{cond, nat_le}
use Rattle.run_judged.specs.Rows.{row_of, illnesses_of, skews_of}
use Rattle.run_judged.specs.declared.illness.Illness.{Illness}
use Rattle.run_judged.specs.declared.row.RunRow.{RunRow}
use Rattle.judge_text.specs.Rows.{judged_rows, refused_row}
use Rattle.scenario.specs.Given.{scenario_of}
use Rattle.drawn_scenarios.specs.Drawn.{drawn_parts}
use Rattle.drawn_scenarios.specs.declared.choices.Choices.{Choices}
use Rattle.run_print.specs.Printing.{WritesText}
use Rattle.run_print.specs.declared.WriteFault.{WriteFault as Fault}
use Rattle.serde_json.specs.Data.{Data}
use Rattle.json_parts.specs.Reading.{Reads}
use Rattle.scenario.specs.Scenario.{ScenarioView}
use Rattle.scenario_reading.specs.Verdict.{IsAcceptedValue, value_refusal}
use Rattle.input_lines.specs.Devices.{SinkView, sink_seen}
use Rattle.judge.specs.Rows.{scenario_rows, has_few_nodes, room_for, drawn_rows, HasRows, IsRowsOf}
use Rattle.judge.specs.Rows.HasRows.{Accepted, Refused}
use Rattle.judge.specs.Rows.IsRowsOf.{Read}
use Rattle.judge.specs.Writing.{written, WritesRows}
use Rattle.judge.specs.declared.bench.RowError.{RowError}
use Rattle.judge.specs.declared.bench.RowError.TheVariants.{NoMemory, WriteFault}

-- a text was written, which is such rows
pub written_such : {K : Type 0} (written_of : K → Option (List ℕ)) (faults : K → ℕ) (k l : K) (text : List ℕ) (AreSuch : List ℕ → Type 0) (r : Result (Unit {0}) Fault) → AreSuch text
    → WritesText written_of faults k l text r → WritesRows (sink_seen written_of faults k) (sink_seen written_of faults l) AreSuch (written r)
written_such written_of faults k l text AreSuch (Ok u) such w = (text, such, (w.whole, w.faultless))
written_such written_of faults k l text AreSuch (Err e) such w = (text, such, (w.prefix, w.failed))

-- rows of one kind are rows of another
pub rows_as : (old new : SinkView) (AreSuch AreOthers : List ℕ → Type 0) (r : Result (Unit {0}) RowError) → ((text : List ℕ) → AreSuch text → AreOthers text) → WritesRows old new AreSuch r → WritesRows old new AreOthers r
rows_as old new AreSuch AreOthers (Ok u) f (text, such, w) = (text, f text such, w)
rows_as old new AreSuch AreOthers (Err WriteFault) f (text, such, w) = (text, f text such, w)
rows_as old new AreSuch AreOthers (Err NoMemory) f w = w

-- those of an accepted scenario
pub accepted_rows : {N : ℕ} (number : ℕ) (d : Data) (sc : ScenarioView N) → IsAcceptedValue d sc → (text : List ℕ) → text ≡ scenario_rows number sc → HasRows N number d text
accepted_rows number d sc accepted text is = Accepted sc accepted is

-- those of a value, with the room that it wants
pub few_rows : (number : ℕ) (d : Data) (b : Bool) → b ≡ has_few_nodes d → b ≡ true → (text : List ℕ) → HasRows 8 number d text → HasRows (room_for d) number d text
few_rows number d b is fits text h = subst (λ n. HasRows n number d text) (ap (λ x. cond x 8 16) (sym fits ∙ is)) h

pub many_rows : (number : ℕ) (d : Data) (b : Bool) → b ≡ has_few_nodes d → b ≡ false → (text : List ℕ) → HasRows 16 number d text → HasRows (room_for d) number d text
many_rows number d b is wide text h = subst (λ n. HasRows n number d text) (ap (λ x. cond x 8 16) (sym wide ∙ is)) h

-- those of a line that is JSON text of it
pub line_rows : (number : ℕ) (line : List ℕ) (d : Data) → Reads line d → (text : List ℕ) → HasRows (room_for d) number d text → IsRowsOf number line text
line_rows number line d reads text h = Read d reads h

-- what is told of a run that was judged is the rows of its scenario
pub judged_is : {N : ℕ} (number : ℕ) (sc : ScenarioView N) (row : RunRow) (ill : List Illness) (apart : List ℕ) → row ≡ row_of sc → ill ≡ illnesses_of sc → apart ≡ skews_of sc → judged_rows number row ill apart ≡ scenario_rows number sc
unfolding scenario_rows
judged_is number sc row ill apart a b c =
    ap (λ r. judged_rows number r ill apart) a ∙ ap (λ i. judged_rows number (row_of sc) i apart) b ∙ ap (judged_rows number (row_of sc) (illnesses_of sc)) c

-- the rows of what is drawn, with the room that it wants
pub drawn_few : (choices : Choices) (seed index : ℕ) → choices.nodes ≤ 8 → (text : List ℕ) → text ≡ scenario_rows index (scenario_of 8 (drawn_parts choices seed index)) → text ≡ drawn_rows choices seed index
unfolding drawn_rows
drawn_few choices seed index few text is = is ∙ ap (λ b. scenario_rows index (scenario_of (cond b 8 16) (drawn_parts choices seed index))) (sym (le-leb choices.nodes 8 few))

many_wide : (n : ℕ) → 8 < n → nat_le n 8 ≡ false
many_wide n many = elim (cases_Bool (nat_le n 8)) [ inl fits ↦ absurd (omega (arith, many, leb-true n 8 fits)) | inr wide ↦ wide ]

pub drawn_many : (choices : Choices) (seed index : ℕ) → 8 < choices.nodes → (text : List ℕ) → text ≡ scenario_rows index (scenario_of 16 (drawn_parts choices seed index)) → text ≡ drawn_rows choices seed index
unfolding drawn_rows
drawn_many choices seed index many text is = is ∙ ap (λ b. scenario_rows index (scenario_of (cond b 8 16) (drawn_parts choices seed index))) (sym (many_wide choices.nodes many))

-- the row of a value that a rule refuses was written
pub refused_such : {K : Type 0} (written_of : K → Option (List ℕ)) (faults : K → ℕ) (k l : K) (N number : ℕ) (d : Data) (rule place : ℕ) (r : Result (Unit {0}) Fault) {told_rule told_place : ℕ} → told_rule ≡ rule → told_place ≡ place
    → value_refusal N d ≡ Some (rule, place) → WritesText written_of faults k l (refused_row number told_rule told_place) r → WritesRows (sink_seen written_of faults k) (sink_seen written_of faults l) (HasRows N number d) (written r)
refused_such written_of faults k l N number d rule place r {told_rule = told_rule} {told_place = told_place} a b refused w =
    written_such written_of faults k l (refused_row number told_rule told_place) (HasRows N number d) r (Refused rule place refused (ap₂ (refused_row number) a b)) w
