use Rattle.std.proofs.Common.{ℕ, sym, ap, ◌∙◌}
use Rattle.node_grid.specs.NodeSet.{has_id}
use Rattle.protocol.specs.View.{value_from}
use Rattle.told_values.specs.Slot.{slot_of, own_of, values_at}
use Rattle.told_values.proofs.Arriving.{own_from, other_from}
use Rattle.told_values.proofs.listener.Listener.values_from.Goals as goal

pub returns-then-from-self : goal.returns-then-from-self
returns-then-from-self g c = λ x hears k on.
    let d = slot_of g.D.Dues.dues c.args.self.now.slot.now in
    let i : ℕ = c.args.self.now.node in
    c.own_values.ensures k (λ full. on) ∙ sym (own_from d i k x)
    ∙ ap (λ (n : ℕ). value_from i (has_id d.full i) (d.due i) (own_of d i) x k n) (sym c.if-from-self.true)

pub returns : goal.returns
returns g c = λ x hears k on.
    let d = slot_of g.D.Dues.dues c.args.self.now.slot.now in
    let i : ℕ = c.args.self.now.node in
    let from : ℕ = c.args.from in
    c.values.ensures (d.due i) (values_at d from i) (c.hear.ensures (hears.in_range from c.requires)) k on
    ∙ sym (other_from d i from k x hears c.requires c.if-from-self.false)
