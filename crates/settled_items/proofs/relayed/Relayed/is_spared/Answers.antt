use Rattle.std.specs.Prelude.{slice_index_or}
use Rattle.omh_paths.specs.declared.wrapped.Wrapped.TheVariants.{Fault}
use Rattle.omh_paths.specs.MemberLaws.{Distinct-ids}
use Rattle.settled_items.proofs.Relaying.{few_spare}
use Rattle.settled_items.proofs.relayed.Relayed.is_spared.Goals as goal

pub returns-then-are_alike : goal.returns-then-are_alike
returns-then-are_alike g c = λ yes.
    let x = c.args.self.now in
    let e = x.exchange in
    let is = c.requires.item in
    few_spare e.rounds e.members e.full e.commander x.odd e.awake x.own.now (g.T.Touched.says x.touched.now) c.args.told.now is.rounds_ok (Distinct-ids g.row.N e.members c.len.ensures.ids) is.member is.awake is.own_small is.said_small is.odd_heard c.requires.told.told_are
    g.V.PartialEq.eq g.met.V.Exact.exact (c.has_few_odd.ensures.0 yes) (slice_index_or c.args.told.now c.in-Some.first (Fault 0)) (λ k here ne. c.are_alike.ensures c.if-are_alike.true k (c.requires.nodes k here ne))
