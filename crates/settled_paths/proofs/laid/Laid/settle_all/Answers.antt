use Rattle.std.proofs.Common.{length, ap, arith, lit<}
use Rattle.node_grid.specs.SetFacts.{member-lt}
use Rattle.settled_paths.proofs.Rooms.{room_for}
use Rattle.settled_paths.proofs.laid.Laid.settle_all.Goals as goal

pub settle_heard-requires : goal.settle_heard-requires
settle_heard-requires g c =
    let e = c.args.exchange.now in
    (lit< tt, (c.if-exchange-eq0.true, (member-lt g.row.N e.members e.commander c.len.ensures.ids c.requires.room.member_ok, c.requires.places)))

pub lay-requires : goal.lay-requires
lay-requires g c =
    let e = c.args.exchange.now in
    let room = room_for g.row.N e.rounds c.self.inside.nodes c.self.inside.rounds e.members c.args.self.now c.self.view_is c.requires.room.rounds_are c.len.ensures.ids c.requires.room.nodes_ok in (
      lit< tt,
      (
        record { capacity_ok = c.requires.room.capacity_ok; rounds_ok = omega (arith, room.2, c.self.invariant.rounds_ok); members_ok = c.len.ensures.ids; member_ok = c.requires.room.member_ok },
        (c.requires.own, omega (arith, room.0, ap length c.as_mut_slice.ensures.value, c.self.invariant.laid_ok)),
      ),
    )

pub settle_relayed-requires : goal.settle_relayed-requires
settle_relayed-requires g c =
    let e = c.args.exchange.now in
    let room = room_for g.row.N e.rounds c.self.inside.nodes c.self.inside.rounds e.members c.args.self.now c.self.view_is c.requires.room.rounds_are c.len.ensures.ids c.requires.room.nodes_ok in
    let laid = c.self.inside.laid.ok.0 in (
      lit< tt,
      (
        record { capacity_ok = c.requires.room.capacity_ok; rounds_ok = omega (arith, room.2, c.self.invariant.rounds_ok); members_ok = c.len.ensures.ids; member_ok = c.requires.room.member_ok },
        (
          record {
            relayed = omega (arith, c.if-exchange-eq0.false);
            laid_ok = omega (arith, room.0, c.as_slice.ensures.len, laid, c.self.invariant.laid_ok);
            longest_ok = omega (arith, room.1, ap length c.as_mut_slice-2.ensures.value, c.self.invariant.longest_ok);
            work_ok = omega (arith, room.1, ap length c.as_mut_slice-3.ensures.value, c.self.invariant.work_ok);
            terms_ok = omega (arith, ap length c.as_mut_slice-3.ensures.value, c.self.invariant.work_ok);
          },
          c.requires.places,
        ),
      ),
    )
