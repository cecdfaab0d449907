use Rattle.std.proofs.Common.{Err, ap, lit<, inl, inr}
use Rattle.std.proofs.lemmas.Result.{IfOk-weaker, IfErr-at_err}
use Rattle.serde_json.specs.Data.{Data}
use Rattle.json_parts.specs.Meaning.{view}
use Rattle.json_parts.specs.Reading.{Reads}
use Rattle.scenario.specs.Verdict.{Tells}
use Rattle.scenario_reading.specs.Verdict.{IsAcceptedValue, value_refusal}
use Rattle.scenario.specs.declared.scenario.Scenario.{Scenario}
use Rattle.scenario_reading.proofs.accepting.read.Goals as goal

pub returns-in-Ok-clause-accepted : goal.returns-in-Ok-clause-accepted
returns-in-Ok-clause-accepted g c =
    let read = view c.in-Ok.value in
    IfOk-weaker c.from_value.result (λ (s : Scenario g.row.N). IsAcceptedValue {capacity = g.row.N} read s) (λ (s : Scenario g.row.N). (d : Data) × Reads c.args.bytes.now d × IsAcceptedValue {capacity = g.row.N} d s)
    (λ s is. (read, c.in-Ok.ensures.value, is)) c.from_value.ensures.accepted

pub returns-in-Ok-clause-system : goal.returns-in-Ok-clause-system
returns-in-Ok-clause-system g c = c.from_value.ensures.system

pub returns-in-Ok-clause-unreadable : goal.returns-in-Ok-clause-unreadable
returns-in-Ok-clause-unreadable g c = λ is d reads. IfErr-at_err (Tells (value_refusal g.row.N (view c.in-Ok.value))) is c.from_value.ensures.refused

pub returns-in-Ok-clause-refused : goal.returns-in-Ok-clause-refused
returns-in-Ok-clause-refused g c = λ rule place is.
    (view c.in-Ok.value, c.in-Ok.ensures.value, IfErr-at_err (Tells (value_refusal g.row.N (view c.in-Ok.value))) is c.from_value.ensures.refused)

pub returns-in-Err-Unreadable-clause-accepted : goal.returns-in-Err-Unreadable-clause-accepted
returns-in-Err-Unreadable-clause-accepted g c = tt

pub returns-in-Err-Unreadable-clause-system : goal.returns-in-Err-Unreadable-clause-system
returns-in-Err-Unreadable-clause-system g c = tt

pub returns-in-Err-Unreadable-clause-unreadable : goal.returns-in-Err-Unreadable-clause-unreadable
returns-in-Err-Unreadable-clause-unreadable g c = λ is. c.in-Err-Unreadable.ensures.unreadable (ap Err c.in-Err-Unreadable.field-0-is)

pub returns-in-Err-Unreadable-clause-refused : goal.returns-in-Err-Unreadable-clause-refused
returns-in-Err-Unreadable-clause-refused g c = λ rule place is. absurd (cc)

pub returns-clause-accepted : goal.returns-clause-accepted
returns-clause-accepted g c = tt

pub returns-clause-system : goal.returns-clause-system
returns-clause-system g c = tt

pub returns-clause-unreadable : goal.returns-clause-unreadable
returns-clause-unreadable g c = λ is d reads. cc

pub returns-clause-refused : goal.returns-clause-refused
returns-clause-refused g c = λ rule place is. absurd (cc)

pub from_value-requires : goal.from_value-requires
from_value-requires g c = elim g.bound-1.eight_or_sixteen [ inl cap ↦ rw cap (lit< tt) | inr cap ↦ rw cap (lit< tt) ]
