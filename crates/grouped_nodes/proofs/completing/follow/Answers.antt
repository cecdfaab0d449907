use Rattle.std.proofs.Common.{ap, ◌∙◌}
use Rattle.list_scheduler.specs.Copies.{table}
use Rattle.list_scheduler.specs.Schedule.{completed, copies_completed}
use Rattle.agreed_state.specs.Agreed.{AgreedView}
use Rattle.grouped_nodes.proofs.completing.follow.Goals as goal

pub returns-clause-due : goal.returns-clause-due
unfolding copies_completed
returns-clause-due g c =
    c.due_after-belief.ensures c.args.belief.now.done
    (c.complete-verdicts.ensures.copies
    ∙ ap (λ (v : AgreedView). table g.row.N (completed c.args.config.now.graph v.standing.members v.copies c.args.belief.now.done)) c.state.view_is)
