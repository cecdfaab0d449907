use Rattle.std.proofs.Common.{inr, refl}
use Rattle.top_call.proofs.laws.few_nodes.Goals as goal

pub returns : goal.returns
returns c d small h =
    let large = c.one_text.ensures.more_room d small h in
    (large.0, large.1, large.2, c.safe_runs.ensures 16 large.0 (c.accepted_values.ensures 16 d large.0 (inr refl) large.1))
