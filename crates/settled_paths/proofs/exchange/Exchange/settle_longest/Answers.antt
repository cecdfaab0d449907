use Rattle.std.proofs.Common.{ℕ, ◌-◌, arith}
use Rattle.omh_paths.specs.Paths.{index_in}
use Rattle.omh_paths.specs.PathLists.{index_in-lt}
use Rattle.omh_paths.specs.MemberLaws.{Distinct-ids}
use Rattle.settled_paths.specs.Levels.{ear_in}
use Rattle.settled_paths.proofs.Untouched.{last_untouched}
use Rattle.settled_paths.proofs.exchange.Exchange.settle_longest.Goals as goal

pub returns-then-is_untouched-clause-settled : goal.returns-then-is_untouched-clause-settled
returns-then-is_untouched-clause-settled g c me full h lasts =
    let s = c.args.self.now in
    let x = c.requires.exchange in
    let last : ℕ = s.rounds - 1 in
    c.settle_level.ensures.settled me full h
    (last_untouched g.V.PartialEq.eq (ear_in s.rounds s.members me full h) (index_in s.members s.commander) c.args.i (g.T.Touched.says c.args.touched.now) last c.args.laid.now
    (Distinct-ids g.row.N s.members x.members_ok) (index_in-lt s.members s.commander x.member_ok)
    (λ j path long. c.is_untouched.ensures c.if-is_untouched.true j path (omega (arith, long, c.requires.room.relayed))) lasts)
