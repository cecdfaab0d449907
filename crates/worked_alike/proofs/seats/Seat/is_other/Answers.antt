use Rattle.std.proofs.Common.{ℕ, List, arith, ap, sym, ◌∙◌}
use Rattle.node_grid.specs.NodeSet.{has_id}
use Rattle.omh_paths.specs.PathLists.{has-of-without}
use Rattle.worked_alike.proofs.seats.Seat.is_other.Goals as goal

pub returns-clause-low : goal.returns-clause-low
returns-clause-low c = λ on.
    let self = c.args.self.now in
    let q = c.args.q in
    let below = self.low q (has-of-without self.members self.me q (ap (λ (s : List ℕ). has_id s q) (sym c.without.ensures) ∙ sym c.has.ensures ∙ on)) in
    omega (arith, below, self.few)
