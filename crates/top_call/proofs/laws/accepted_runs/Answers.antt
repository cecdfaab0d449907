use Rattle.std.proofs.Common.{inr, refl}
use Rattle.top_call.specs.Answers.{capacity}
use Rattle.top_call.proofs.laws.accepted_runs.Goals as goal

pub returns : goal.returns
returns c = λ bytes sc h. c.safe_runs.ensures capacity sc (c.accepted_values.ensures capacity h.value sc (inr refl) h.accepted)
