use Rattle.std.proofs.Common.{ap, ◌∙◌, Some}
use Rattle.fault_classes.specs.Change.{change_of}
use Rattle.protocol.specs.Talk.{arrives}
use Rattle.touched_frames.proofs.Effects.{cut_short}
use Rattle.touched_frames.proofs.effect.unread_kind.Goals as goal

pub returns-then-count-gt0-clause-found : goal.returns-then-count-gt0-clause-found
returns-then-count-gt0-clause-found c = λ sender receiver content range.
    ap (λ e. arrives Some (Some (change_of e)) sender receiver content) c.in-Cut.is ∙ cut_short sender receiver content c.in-Cut.count c.if-count-gt0.true range
