use Rattle.std.proofs.Common.{sym, subst, ◌∙◌, arith}
use Rattle.omh_paths.specs.MemberLaws.{Distinct-ids}
use Rattle.settled_items.specs.Relayed.{IsToldByNode}
use Rattle.settled_items.proofs.Relaying.{few_settle}
use Rattle.settled_items.proofs.relayed.Relayed.settle_told.Goals as goal

pub settle_all-requires : goal.settle_all-requires
settle_all-requires g c = (omega arith, (omega arith, (c.requires.few, (c.requires.item.awake, (omega arith, c.requires.places)))))

pub returns-clause-settled : goal.returns-clause-settled
returns-clause-settled g c =
    let x = c.args.self.now in
    let e = x.exchange in
    let is = c.requires.item in
    let told = subst (IsToldByNode g.T.Touched.says x) (sym c.as_slice.ensures.value) c.requires.told in
    λ i on ne. c.settle_all.ensures.settled i on ne
    ∙ few_settle e.rounds e.members e.full e.commander x.odd e.awake x.own.now (g.T.Touched.says x.touched.now) c.as_slice.result.now is.rounds_ok (Distinct-ids g.row.N e.members c.len.ensures.ids) is.member is.awake is.own_small is.said_small is.odd_heard told.told_are
    g.V.PartialEq.eq g.met.V.Exact.exact c.requires.few i on ne
