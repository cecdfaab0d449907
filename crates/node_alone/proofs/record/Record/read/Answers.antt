use Rattle.std.proofs.Common.{inl, inr, lit<}
use Rattle.std.proofs.lemmas.Result.{IfOk-weaker, IfErr-at_err}
use Rattle.json_parts.specs.Meaning.{view}
use Rattle.scenario.specs.Verdict.{Tells}
use Rattle.node_alone.specs.Rules.{record_refusal, IsAcceptedRecord}
use Rattle.node_alone.proofs.record.Record.read.Goals as goal

pub from_value-requires : goal.from_value-requires
from_value-requires g c = elim g.bound-1.eight_or_sixteen [ inl e ↦ rw e (lit< tt) | inr e ↦ rw e (lit< tt) ]

pub returns-in-Ok-clause-accepted : goal.returns-in-Ok-clause-accepted
returns-in-Ok-clause-accepted g c =
    let read = view c.in-Ok.value in
    IfOk-weaker c.from_value.result (IsAcceptedRecord {capacity = g.row.N} c.args.id read) _ (λ r is. (read, c.in-Ok.ensures.value, is)) c.from_value.ensures.accepted

pub returns-in-Ok-clause-unreadable : goal.returns-in-Ok-clause-unreadable
returns-in-Ok-clause-unreadable g c = λ is d reads. IfErr-at_err (Tells (record_refusal g.row.N c.args.id (view c.in-Ok.value))) is c.from_value.ensures.refused

pub returns-in-Ok-clause-refused : goal.returns-in-Ok-clause-refused
returns-in-Ok-clause-refused g c = λ rule place is.
    (view c.in-Ok.value, c.in-Ok.ensures.value, IfErr-at_err (Tells (record_refusal g.row.N c.args.id (view c.in-Ok.value))) is c.from_value.ensures.refused)

pub returns-in-Err-Unreadable-clause-accepted : goal.returns-in-Err-Unreadable-clause-accepted
returns-in-Err-Unreadable-clause-accepted g c = tt

pub returns-in-Err-Unreadable-clause-refused : goal.returns-in-Err-Unreadable-clause-refused
returns-in-Err-Unreadable-clause-refused g c = λ rule place is. absurd cc

pub returns-clause-accepted : goal.returns-clause-accepted
returns-clause-accepted g c = tt

pub returns-clause-unreadable : goal.returns-clause-unreadable
returns-clause-unreadable g c = λ is d reads. absurd cc

pub returns-clause-refused : goal.returns-clause-refused
returns-clause-refused g c = λ rule place is. absurd cc
