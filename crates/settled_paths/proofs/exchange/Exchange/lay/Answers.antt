use Rattle.std.proofs.Common.{◌<◌, ◌+◌, ◌-◌, length, refl, ap, ◌∙◌, arith}
use Rattle.std.proofs.lemmas.List.{length-set}
use Rattle.omh_paths.specs.Paths.{index_in}
use Rattle.omh_paths.specs.MemberLaws.{Distinct-ids}
use Rattle.settled_paths.proofs.Places.{level_at-le}
use Rattle.settled_paths.proofs.Layers.{first_laid, first_small, laid_moved}
use Rattle.settled_paths.proofs.exchange.Exchange.lay.Goals as goal

pub set_value-requires : goal.set_value-requires
set_value-requires g c = omega (arith, level_at-le (length c.args.self.now.members - 1) 1 (c.args.self.now.rounds + 1) (omega arith), c.requires.room)

pub loop-relays-init : goal.loop-relays-init
loop-relays-init g c =
    let s = c.args.self.now in
    let x = c.requires.exchange in
    let room : 0 < length c.args.laid.now = omega (arith, level_at-le (length s.members - 1) 1 (s.rounds + 1) (omega arith), c.requires.room) in
    record {
      room = refl;
      small = first_small s.members c.args.own c.args.laid.now c.set_value.new.values room c.set_value.ensures c.requires.own;
      done = first_laid s.members s.full c.args.own (g.T.Touched.says c.args.touched.now) s.commander (index_in s.members s.commander) c.args.laid.now c.set_value.new.values (Distinct-ids g.row.N s.members x.members_ok) x.member_ok refl room c.set_value.ensures;
    }

pub lay_longer-requires : goal.lay_longer-requires
lay_longer-requires g c =
    let room = c.loop-relays.invariant.room ∙ ap length c.set_value.ensures ∙ length-set c.args.laid.now 0 c.args.own in
    (omega arith, (c.requires.exchange, (c.loop-relays-test.true, (c.loop-relays.invariant.small, omega (arith, room, c.requires.room)))))

pub loop-relays-preserved : goal.loop-relays-preserved
loop-relays-preserved g c = record {
  room = c.lay_longer.ensures.room ∙ c.loop-relays.invariant.room;
  small = c.lay_longer.ensures.small;
  done = c.lay_longer.ensures.laid c.args.own c.loop-relays.invariant.done;
}

pub returns-clause-laid : goal.returns-clause-laid
returns-clause-laid g c =
    let s = c.args.self.now in
    laid_moved s.members s.full c.args.own (g.T.Touched.says c.args.touched.now) (index_in s.members s.commander) c.loop-relays.relays s.rounds c.loop-relays.laid
    (omega (arith, c.loop-relays-test.false, c.loop-relays.auto.relays-end)) c.loop-relays.invariant.done
