use Rattle.std.proofs.Common.{ap, sym, ◌∙◌, refl, inl, arith}
use Rattle.node_grid.specs.NodeSet.{has_id}
use Rattle.node_grid.specs.SetFacts.{member-lt}
use Rattle.worked_paths.proofs.room.Room.settle.Goals as goal

pub settle_all-requires : goal.settle_all-requires
settle_all-requires c =
    let is = c.exchange-exchange.ensures in
    let room = c.args.self.now in (
      omega arith,
      (
        record {
          capacity_ok = inl refl;
          rounds_are = ap (λ e. e.rounds) is ∙ sym room.rounds_are;
          nodes_ok = λ q on. omega (arith, member-lt 8 c.exchange-exchange.result.members q c.len.ensures.ids on, room.nodes);
          member_ok = ap (λ e. has_id e.members e.commander) is ∙ c.args.item.now.member;
        },
        (tt, refl),
      ),
    )
