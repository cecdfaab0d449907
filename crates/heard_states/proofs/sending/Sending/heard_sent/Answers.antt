use Rattle.std.proofs.Common.{None, Option, sym, ap, ◌∙◌}
use Rattle.std.proofs.lemmas.Bool.{cond-false}
use Rattle.agreed_state.specs.Agreed.{AgreedView}
use Rattle.agreed_state.specs.Body.{body}
use Rattle.shared_states.specs.Sharing.{state_at}
use Rattle.node_grid.specs.NodeSet.{has_id}
use Rattle.heard_states.specs.Hearing.{told_as, told_by}
use Rattle.heard_states.specs.declared.sending.Told.TheVariants.{Sent}
use Rattle.heard_states.proofs.Hearings.{heard_good, own_sent}
use Rattle.heard_states.proofs.Sendings.{sent_full}
use Rattle.heard_states.proofs.sending.Sending.heard_sent.Goals as goal

pub returns-then-has : goal.returns-then-has
returns-then-has g c = λ i alike sent.
    let x = c.args.self.now in
    let ok = c.requires.sending in
    let config = x.slot.config.now in
    let b = sent_full x ok c.args.from (sym c.has.ensures ∙ c.if-has.true) in
    heard_good config (state_at x.states.now i) c.has-then-has.result c.good_where.result (told_by x i c.args.from) (body config b.0) c.good_where.ensures (sym sent ∙ b.2)
    (λ a mine. c.has-then-has.ensures
    ∙ own_sent config x.states.now i c.args.from (has_id c.args.alike.now c.args.from) a b.0 ok.slot_is.capacity ok.slot_is.config (ok.agreed i a mine) (ok.agreed c.args.from b.0 b.1) mine b.1 alike)

pub returns-else-has : goal.returns-else-has
returns-else-has g c = λ i alike sent.
    let x = c.args.self.now in
    sym sent ∙ ap (λ (o : Option AgreedView). told_as x.slot.config.now o Sent) (cond-false (has_id x.senders.full c.args.from) (state_at x.states.now c.args.from) None (sym c.has.ensures ∙ c.if-has.false))
