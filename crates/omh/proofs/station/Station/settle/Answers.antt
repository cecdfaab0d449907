use Rattle.std.proofs.Common.{◌-◌, ◌+◌, ◌∙◌, arith}
use Rattle.omh_paths.specs.MemberLaws.{Distinct-ids}
use Rattle.omh.specs.Flat.{flat_ear, IsShorter}
use Rattle.omh.proofs.Folding.{copied_settled, copied_room, settled_moved_to, root_settled}
use Rattle.omh.proofs.station.Station.settle.Goals as goal

pub copy_part-requires : goal.copy_part-requires
copy_part-requires g c =
    let b = c.branch-longest.ensures in
    record { within = omega (arith, b.within, c.requires.room.flat_ok); room = omega (arith, b.room, c.requires.room.work_ok); small = b.small }

pub loop-done-init : goal.loop-done-init
loop-done-init g c =
    let a = c.args in
    let s = a.self.now in
    let b = c.branch-longest.ensures in
    let x = flat_ear s.nodes s.rounds s.members s.me s.full a.heard.now in
    record {
      settled = settled_moved_to g.V.PartialEq.eq x c.member_place-place.result s.rounds (s.rounds - 0) c.copy_part.new.work (omega arith)
          (copied_settled g.V.PartialEq.eq s.nodes s.rounds s.members s.me s.full a.heard.now a.work.now c.copy_part.new.work c.member_place-place.result c.branch-longest.result
          (Distinct-ids g.row.N s.members c.requires.station.members_ok) c.member_place-place.ensures.in_range b c.requires.room.flat_ok c.copy_part.ensures);
      room = copied_room s.nodes s.rounds a.heard.now a.work.now c.copy_part.new.work c.branch-longest.result.begins c.branch-longest.result.paths c.requires.room (omega (arith, b.room, c.requires.room.work_ok))
          (omega (arith, b.within, c.requires.room.flat_ok)) c.copy_part.ensures;
    }

pub settle_shorter-requires : goal.settle_shorter-requires
settle_shorter-requires g c =
    let s = c.args.self.now in
    let x = flat_ear s.nodes s.rounds s.members s.me s.full c.args.heard.now in
    let shorter : IsShorter s.rounds s.members c.member_place-place.result (s.rounds - c.loop-done.done - 1) = record { member = c.member_place-place.ensures.in_range; shorter = omega (arith, c.loop-done-test.true) } in
    let settled = settled_moved_to g.V.PartialEq.eq x c.member_place-place.result (s.rounds - c.loop-done.done) (s.rounds - c.loop-done.done - 1 + 1) c.loop-done.work (omega (arith, c.loop-done-test.true)) c.loop-done.invariant.settled in
    (omega arith, (c.requires.station, (c.loop-done.invariant.room, (shorter, settled))))

pub loop-done-preserved : goal.loop-done-preserved
loop-done-preserved g c =
    let s = c.args.self.now in
    let x = flat_ear s.nodes s.rounds s.members s.me s.full c.args.heard.now in
    let room = c.loop-done.invariant.room in
    record {
      settled = settled_moved_to g.V.PartialEq.eq x c.member_place-place.result (s.rounds - c.loop-done.done - 1) (s.rounds - (c.loop-done.done + 1)) c.settle_shorter.new.work (omega arith) c.settle_shorter.ensures;
      room = record { flat_ok = room.flat_ok; work_ok = c.settle_shorter.auto.work ∙ room.work_ok; known = room.known };
    }

pub returns : goal.returns
returns g c =
    let s = c.args.self.now in
    let x = flat_ear s.nodes s.rounds s.members s.me s.full c.args.heard.now in
    root_settled g.V.PartialEq.eq x c.member_place-place.result c.args.commander (s.rounds - c.loop-done.done) c.loop-done.work c.first_value.result (Distinct-ids g.row.N s.members c.requires.station.members_ok)
    c.requires.member c.requires.other c.member_place-place.ensures.place (omega (arith, c.loop-done-test.false)) c.loop-done.invariant.settled c.first_value.ensures
