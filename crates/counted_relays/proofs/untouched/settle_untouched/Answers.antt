use Rattle.std.proofs.Common.{◌∙◌, sym, arith}
use Rattle.node_grid.specs.SetFacts.{member-lt}
use Rattle.omh_paths.specs.MemberLaws.{Distinct-ids}
use Rattle.counted_relays.proofs.Reaching.{untouched_law}
use Rattle.counted_relays.proofs.untouched.settle_untouched.Goals as goal

pub settle_counted-requires : goal.settle_counted-requires
settle_counted-requires g c =
    let s = c.args.exchange.now in
    (omega arith, (member-lt g.row.N s.members s.commander c.len.ensures.ids c.requires.member, c.requires.places))

pub returns-clause-settled : goal.returns-clause-settled
returns-clause-settled g c = λ told i on ne.
    let s = c.args.exchange.now in
    c.settle_counted.ensures.settled i on ne
    ∙ sym (untouched_law g.V.PartialEq.eq g.met.V.Exact.exact s.rounds s.members s.full c.args.own (g.T.Touched.says c.args.touched.now) (Distinct-ids g.row.N s.members c.len.ensures.ids) (c.is_untouched.ensures c.if-not-is_untouched.false) s.commander i ne)
