use Rattle.std.proofs.Common.{◌≡◌, None, Err, ap, subst, lit<, inl, inr}
use Rattle.json_parts.specs.Meaning.{view}
use Rattle.json_parts.specs.Part.{Gives}
use Rattle.json_parts.specs.declared.error.PartError.{PartError}
use Rattle.scenario_reading.specs.Keys.{parts_read}
use Rattle.scenario.specs.Seen.{parts_view}
use Rattle.scenario_reading.specs.Verdict.{refusal_on}
use Rattle.scenario.specs.declared.scenario.Scenario.{Scenario}
use Rattle.scenario_reading.proofs.Passed.{accepted_value, refused_value}
use Rattle.scenario_reading.proofs.accepting.from_value.Goals as goal

pub returns-in-Ok-clause-accepted : goal.returns-in-Ok-clause-accepted
returns-in-Ok-clause-accepted g c =
    accepted_value g.row.N (view c.args.value.now) (parts_view c.in-Ok.parts) (λ (s : Scenario g.row.N). s) c.from_parts.result c.in-Ok.ensures
    c.from_parts.ensures.unrefused c.from_parts.ensures.says

pub returns-in-Ok-clause-system : goal.returns-in-Ok-clause-system
returns-in-Ok-clause-system g c = c.from_parts.ensures.system

pub returns-in-Ok-clause-refused : goal.returns-in-Ok-clause-refused
returns-in-Ok-clause-refused g c = refused_value g.row.N (view c.args.value.now) (parts_view c.in-Ok.parts) c.from_parts.result c.in-Ok.ensures c.from_parts.ensures.refused

pub returns-in-Err-NoPart-clause-accepted : goal.returns-in-Err-NoPart-clause-accepted
returns-in-Err-NoPart-clause-accepted g c = tt

pub returns-in-Err-NoPart-clause-system : goal.returns-in-Err-NoPart-clause-system
returns-in-Err-NoPart-clause-system g c = tt

pub returns-in-Err-NoPart-clause-refused : goal.returns-in-Err-NoPart-clause-refused
returns-in-Err-NoPart-clause-refused g c =
    let none : parts_read (view c.args.value.now) ≡ None =
    subst (λ (e : PartError). Gives parts_view (parts_read (view c.args.value.now)) (Err e)) c.in-Err-NoPart.field-0-is c.in-Err-NoPart.ensures in
    ap (refusal_on g.row.N) none

pub returns-in-Err-NoMemory-clause-accepted : goal.returns-in-Err-NoMemory-clause-accepted
returns-in-Err-NoMemory-clause-accepted g c = tt

pub returns-in-Err-NoMemory-clause-system : goal.returns-in-Err-NoMemory-clause-system
returns-in-Err-NoMemory-clause-system g c = tt

pub returns-in-Err-NoMemory-clause-refused : goal.returns-in-Err-NoMemory-clause-refused
returns-in-Err-NoMemory-clause-refused g c = tt

pub from_parts-requires : goal.from_parts-requires
from_parts-requires g c = elim g.bound-1.eight_or_sixteen [ inl cap ↦ rw cap (lit< tt) | inr cap ↦ rw cap (lit< tt) ]
