use Rattle.std.proofs.Common.{lit<, sym, ap, ◌∙◌}
use Rattle.std.proofs.lemmas.Bool.{cond-true, cond-false}
use Rattle.node_grid.specs.NodeSet.{has_id}
use Rattle.list_scheduler.specs.Copies.{works}
use Rattle.node_grid.specs.Kinds.{no_claim}
use Rattle.list_scheduler.specs.Facts.{works_low}
use Rattle.agreed_state.specs.Agreed.{AgreedView}
use Rattle.protocol.specs.View.{claim_at, own_claim}
use Rattle.node_core.proofs.claim.own_claim.Goals as goal

pub claim_at-requires : goal.claim_at-requires
claim_at-requires g c = works_low c.agreed.inside.copies c.args.me c.running.result c.running.ensures

pub returns-then-has : goal.returns-then-has
returns-then-has g c =
    let n = c.agreed.inside in
    let run = c.args.inputs.now.run in
    c.claim_at.ensures ∙ ap (claim_at run) c.running.ensures
    ∙ sym (cond-true (has_id n.members c.args.me) (claim_at run (works n.copies c.args.me)) no_claim (sym c.has.ensures ∙ c.if-has.true))
    ∙ ap (λ (a : AgreedView). own_claim c.args.me c.args.inputs.now a) c.agreed.view_is

pub returns-else-has : goal.returns-else-has
returns-else-has g c =
    let n = c.agreed.inside in
    sym (cond-false (has_id n.members c.args.me) (claim_at c.args.inputs.now.run (works n.copies c.args.me)) no_claim (sym c.has.ensures ∙ c.if-has.false))
    ∙ ap (λ (a : AgreedView). own_claim c.args.me c.args.inputs.now a) c.agreed.view_is

pub has-requires : goal.has-requires
has-requires g c = lit< tt
