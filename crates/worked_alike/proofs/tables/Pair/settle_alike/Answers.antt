use Rattle.std.proofs.Common.{◌<◌, ◌-◌, length, refl, sym, ap, subst, ◌∙◌, lit<, arith}
use Rattle.node_grid.specs.NodeSet.{has_id, without_id}
use Rattle.omh_paths.specs.Paths.{path_count}
use Rattle.worked_alike.proofs.Rounds.{table_walks}
use Rattle.worked_alike.proofs.tables.Pair.settle_alike.Goals as goal

pub settle_round-requires : goal.settle_round-requires
settle_round-requires c =
    let self = c.args.self.now in
    let seat = self.seat in
    let relays = c.args.relays.now in
    let same = c.requires.relays in (
      lit< tt,
      (
        lit< tt,
        (
          subst (λ m. 0 < m) (sym self.rounds.1) (omega (arith, seat.some, seat.within)),
          (
            refl,
            table_walks self.live seat.members relays.came seat.me relays.entries self.live.rounds c.round-frames.result self.members.1 self.me.1
                (relays.count ∙ ap (λ s. path_count (length s.members - 1) s.round) same ∙ ap (path_count (length seat.members - 1)) (c.requires.last ∙ sym self.rounds.1))
                (λ q on. ap (λ s. has_id (without_id s.members s.me) q) (sym same) ∙ relays.others q on) c.round-frames.ensures,
          ),
        ),
      ),
    )
