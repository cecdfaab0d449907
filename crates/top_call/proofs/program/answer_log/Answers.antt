use Rattle.top_call.proofs.Few.{answered_log}
use Rattle.top_call.proofs.program.answer_log.Goals as goal

pub returns : goal.returns
returns g c =
    let read = c.in-Ok.ensures.accepted in
    rw c.ended.ensures
    (answered_log c.args.id c.args.bytes.now c.in-Ok.log _ _ _ _ c.write_log.result (record { value = read.0; reads = read.1; accepted = read.2 }) c.write_log.ensures)
