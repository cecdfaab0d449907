use Rattle.std.proofs.Common.{inr, refl}
use Rattle.top_call.specs.Answers.{capacity}
use Rattle.top_call.proofs.laws.accepted_logs.Goals as goal

pub returns : goal.returns
returns c = λ bytes id log h of_run.
    let is = c.accepted_records.ensures capacity id h.value log (inr refl) h.accepted in
    c.alone_text.ensures capacity log is.scenario of_run is.id
