use Rattle.json_parts.specs.Meaning.{view}
use Rattle.top_call.proofs.Few.{answered_run}
use Rattle.top_call.proofs.program.answer_value.Goals as goal

pub returns-in-Ok : goal.returns-in-Ok
returns-in-Ok g c bytes reads =
    let many = c.write_few.ensures (view c.args.value.now) c.in-Ok.ensures.accepted in
    rw c.ended.ensures (answered_run c.args.form bytes many.0 _ _ _ _ c.write_few.result (record { value = view c.args.value.now; reads = reads; accepted = many.1 }) many.2)

pub returns-in-Ok-from_value : goal.returns-in-Ok-from_value
returns-in-Ok-from_value g c bytes reads =
    rw c.ended-in-Ok-from_value.ensures
    (answered_run c.args.form bytes c.in-Ok-from_value.scenario _ _ _ _ c.write_form.result (record { value = view c.args.value.now; reads = reads; accepted = c.in-Ok-from_value.ensures.accepted }) c.write_form.ensures)
