use Rattle.std.proofs.Common.{get_or}
use Rattle.heard_states.specs.Hearing.{heard_kind}
use Rattle.heard_states.specs.declared.hearing.Heard.TheVariants.{Bad}
use Rattle.heard_states.proofs.hearing.note_heard.Goals as goal

pub returns : goal.returns
returns g c = c.note_each.ensures.row (λ j. heard_kind (get_or c.args.heard.now j (Bad 0))) (λ j kind low used other ran. ran)
