use Rattle.std.proofs.Common.{ℕ, List, arith, ap, ◌∙◌, lit<}
use Rattle.node_grid.specs.NodeSet.{has_id}
use Rattle.worked_alike.proofs.Paths.{among_members, avoids}
use Rattle.worked_alike.proofs.tables.Pair.relay_alike.Goals as goal

pub relay-plain-requires : goal.relay-plain-requires
relay-plain-requires c =
    let self = c.args.self.now in
    let others = c.without-others.result in
    let path = c.unrank-path.result in
    let within = c.unrank-path.ensures.within in (
      lit< tt,
      (
        (λ x on. ap (λ (s : List ℕ). has_id s x) self.members.0 ∙ among_members self.seat.members others path self.seat.me c.without-others.ensures within x on),
        (rw self.me.0 (avoids self.seat.members others path self.seat.me c.without-others.ensures within), omega (arith, c.unrank-path.ensures.long, self.seat.within, self.rounds.0)),
      ),
    )
