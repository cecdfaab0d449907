use Rattle.std.proofs.Common.{ℕ, List, length, arith, ap, sym, ◌∙◌, lit<}
use Rattle.node_grid.specs.NodeSet.{has_id}
use Rattle.omh_paths.specs.PathLists.{has-of-without}
use Rattle.worked_alike.proofs.Paths.{root_among, root_avoids}
use Rattle.worked_alike.proofs.tables.Pair.hear_item.Goals as goal

pub put-requires : goal.put-requires
put-requires c =
    let self = c.args.self.now in
    let q = c.args.member in
    let other = sym c.is_other.ensures.is ∙ c.if-is_other.true in
    let member = has-of-without self.seat.members self.seat.me q other in (
      lit< tt,
      (
        (λ x on. ap (λ (s : List ℕ). has_id s x) self.members.0 ∙ root_among self.seat.members q member x (ap (λ (p : List ℕ). has_id p x) (sym c.root.ensures) ∙ on)),
        (rw (c.root.ensures, self.me.0) (root_avoids self.seat.members self.seat.me q other), (omega (arith, ap length c.root.ensures), c.heard.ensures)),
      ),
    )
