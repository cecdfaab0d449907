use Rattle.live_node.specs.Live.{line_step}
use Rattle.program_words.specs.declared.status.Status.TheVariants.{Refused}
use Rattle.controller.proofs.Courses.{step_longest}
use Rattle.controller.proofs.Steps.{goes_ok, stops_unknown, stops_not_now, stops_fault}
use Rattle.controller.proofs.session.answer_line.Goals as goal

pub returns-in-Ok-clause-answers : goal.returns-in-Ok-clause-answers
returns-in-Ok-clause-answers g c = goes_ok g.K.Sink.written g.K.Sink.faults c.args.live.now c.take.new.self c.args.sink.now c.take.new.sink (line_step c.args.live.now c.args.line.now) _ c.in-Ok.ensures

pub returns-in-Ok-clause-longest : goal.returns-in-Ok-clause-longest
returns-in-Ok-clause-longest g c =
    let h = goes_ok g.K.Sink.written g.K.Sink.faults c.args.live.now c.take.new.self c.args.sink.now c.take.new.sink (line_step c.args.live.now c.args.line.now) _ c.in-Ok.ensures in
    step_longest c.args.live.now c.take.new.self c.args.line.now h.0 h.1

pub returns-in-Err-Unknown-clause-answers : goal.returns-in-Err-Unknown-clause-answers
returns-in-Err-Unknown-clause-answers g c =
    stops_unknown g.K.Sink.written g.K.Sink.faults c.args.live.now c.take.new.self c.args.line.now c.args.number c.args.sink.now c.take.new.sink c.refuse.new.sink c.refuse.result
    c.in-Err-Unknown.field-0 c.in-Err-Unknown.field-0-is c.in-Err-Unknown.ensures c.refuse.ensures.status c.refuse.ensures.wrote

pub returns-in-Err-NotNow-clause-answers : goal.returns-in-Err-NotNow-clause-answers
returns-in-Err-NotNow-clause-answers g c =
    stops_not_now g.K.Sink.written g.K.Sink.faults c.args.live.now c.take.new.self c.args.line.now c.args.number c.args.sink.now c.take.new.sink c.refuse-in-Err-NotNow.new.sink c.refuse-in-Err-NotNow.result
    c.in-Err-NotNow.field-0 c.in-Err-NotNow.field-0-is c.in-Err-NotNow.ensures c.refuse-in-Err-NotNow.ensures.status c.refuse-in-Err-NotNow.ensures.wrote

pub returns-in-Err-WriteFault-clause-answers : goal.returns-in-Err-WriteFault-clause-answers
returns-in-Err-WriteFault-clause-answers g c =
    stops_fault g.K.Sink.written g.K.Sink.faults c.args.live.now c.take.new.self c.args.line.now c.args.number c.args.sink.now c.take.new.sink c.take.new.sink Refused
    c.in-Err-WriteFault.field-0 c.in-Err-WriteFault.field-0-is c.in-Err-WriteFault.ensures
