use Rattle.std.proofs.Common.{List, ℕ, sym, ap, ◌∙◌}
use Rattle.node_grid.specs.NodeSet.{has_id, common_of}
use Rattle.heard_states.proofs.Leaders.{teller_is}
use Rattle.heard_states.proofs.sending.Sending.tellers.Goals as goal

pub returns : goal.returns
returns g c = λ j on.
    teller_is c.args.self.now c.args.leader j c.sharers.result c.sharers.ensures.shared
    (ap (λ (plain : List ℕ). has_id (common_of plain c.sharers.result) j) (sym c.minus-plain.ensures) ∙ ap (λ (s : List ℕ). has_id s j) (sym c.common.ensures) ∙ on)
