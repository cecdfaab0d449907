use Rattle.std.proofs.Common.{ℕ, ◌+◌, ◌-◌, length, refl, ◌∙◌, arith, lit<}
use Rattle.omh_paths.specs.Paths.{index_in}
use Rattle.omh_paths.specs.MemberLaws.{Distinct-ids}
use Rattle.omh.proofs.Folding.{settled_moved_to, root_settled}
use Rattle.settled_paths.specs.Levels.{ear_in}
use Rattle.settled_paths.proofs.Places.{level_at-le, level_at-next}
use Rattle.settled_paths.proofs.Folds.{copied}
use Rattle.settled_paths.proofs.exchange.Exchange.settle_from.Goals as goal

pub loop-done-init : goal.loop-done-init
loop-done-init g c =
    let s = c.args.self.now in
    let last : ℕ = s.rounds - 1 in
    let room = level_at-next (length s.members - 1) last in
    let up = level_at-le (length s.members - 1) (last + 1) s.rounds (omega (arith, c.requires.room.relayed)) in
    record {
      work = refl;
      settled = λ full h own longest.
          let x = ear_in s.rounds s.members c.args.i full h in
          settled_moved_to g.V.PartialEq.eq x (index_in s.members s.commander) last (last - 0) c.copy_front.new.work (omega arith)
          (copied g.V.PartialEq.eq x (index_in s.members s.commander) last c.level.result.paths c.args.longest.now c.args.work.now c.copy_front.new.work c.level.ensures.paths_are
          (omega (arith, c.level.ensures.paths_are, room, up, c.requires.room.longest_ok)) c.copy_front.ensures longest);
    }

pub loop-done-preserved : goal.loop-done-preserved
loop-done-preserved g c =
    let s = c.args.self.now in
    let last : ℕ = s.rounds - 1 in
    record {
      work = c.settle_shorter.ensures.work ∙ c.loop-done.invariant.work;
      settled = λ full h own longest.
          let x = ear_in s.rounds s.members c.args.i full h in
          settled_moved_to g.V.PartialEq.eq x (index_in s.members s.commander) (last - c.loop-done.done - 1) (last - (c.loop-done.done + 1)) c.settle_shorter.new.work (omega arith)
          (c.settle_shorter.ensures.settled full h own
          (settled_moved_to g.V.PartialEq.eq x (index_in s.members s.commander) (last - c.loop-done.done) (last - c.loop-done.done - 1 + 1) c.loop-done.work (omega (arith, c.loop-done-test.true)) (c.loop-done.invariant.settled full h own longest)));
    }

pub value_at-requires : goal.value_at-requires
value_at-requires g c =
    let s = c.args.self.now in
    let up = level_at-le (length s.members - 1) 1 s.rounds (omega (arith, c.requires.room.relayed)) in
    omega (arith, up, c.requires.room.work_ok, c.loop-done.auto.work, c.copy_front.auto.work)

pub returns-clause-settled : goal.returns-clause-settled
returns-clause-settled g c = λ full h own longest.
    let s = c.args.self.now in
    let x = c.requires.exchange in
    let last : ℕ = s.rounds - 1 in
    root_settled g.V.PartialEq.eq (ear_in s.rounds s.members c.args.i full h) (index_in s.members s.commander) s.commander (last - c.loop-done.done) c.loop-done.work c.value_at.result (Distinct-ids g.row.N s.members x.members_ok)
    x.member_ok c.requires.other refl (omega (arith, c.loop-done-test.false)) (c.loop-done.invariant.settled full h own longest) c.value_at.ensures

pub settle_shorter-requires : goal.settle_shorter-requires
settle_shorter-requires g c =
    let room = c.requires.room in
    (lit< tt, (c.requires.exchange, (omega (arith, c.loop-done-test.true), (room.laid_ok, omega (arith, c.loop-done.invariant.work, c.copy_front.auto.work, room.work_ok)))))
