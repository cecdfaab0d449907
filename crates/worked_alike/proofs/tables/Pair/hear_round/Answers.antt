use Rattle.std.proofs.Common.{◌<◌, ◌-◌, length, sym, ap, subst, ◌∙◌, lit<}
use Rattle.node_grid.specs.NodeSet.{has_id, without_id}
use Rattle.omh_paths.specs.Paths.{path_count}
use Rattle.relay_table.specs.Tabled.{kept_nodes}
use Rattle.worked_alike.proofs.Rounds.{table_walks}
use Rattle.worked_alike.proofs.tables.Pair.hear_round.Goals as goal

pub hear_round-requires : goal.hear_round-requires
hear_round-requires c =
    let self = c.args.self.now in
    let seat = self.seat in
    let relays = c.args.relays.now in
    let r = seat.round in
    let same = c.requires in (
      lit< tt,
      (
        lit< tt,
        (
          seat.some,
          (
            subst (λ m. r < kept_nodes m) (sym self.rounds.1) (c.is_kept.ensures c.if-is_kept.true),
            table_walks self.live seat.members relays.came seat.me relays.entries r c.round-frames.result self.members.1 self.me.1
                (relays.count ∙ ap (λ s. path_count (length s.members - 1) s.round) same)
                (λ q on. ap (λ s. has_id (without_id s.members s.me) q) (sym same) ∙ relays.others q on) c.round-frames.ensures,
          ),
        ),
      ),
    )
