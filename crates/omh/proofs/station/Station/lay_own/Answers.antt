use Rattle.std.proofs.Common.{◌≡◌, sym, ap, ◌∙◌, ◌+◌, ◌<◌, true, length, arith, lit<}
use Rattle.node_grid.specs.NodeSet.{has_id}
use Rattle.node_grid.specs.Count.{Distinct}
use Rattle.node_grid.specs.NumberFacts.{offset_fits}
use Rattle.node_grid.specs.SetFacts.{member-lt}
use Rattle.omh_paths.specs.Paths.{outside}
use Rattle.omh_paths.specs.PathLists.{Distinct-filter}
use Rattle.omh_paths.specs.MemberLaws.{Distinct-ids}
use Rattle.omh.proofs.Flats.{laid_at, laid_low, unlaid, only_me}
use Rattle.omh.proofs.station.Station.lay_own.Goals as goal
use Rattle.omh.proofs.station.Station.lay_own.Given as given

low : (g : given.Over) (c : goal.After-rank g) → c.args.from + c.rank.result < length c.args.work.now
low g c =
    let others = outside c.args.self.now.members c.args.path.now in
    let on : has_id others c.args.self.now.me ≡ true = ap (λ s. has_id s c.args.self.now.me) (sym c.outside-others.ensures) ∙ sym c.has.ensures ∙ c.if-has.true in
    let d : Distinct others = Distinct-filter _ c.args.self.now.members (Distinct-ids g.row.N c.args.self.now.members c.requires.station.members_ok) in
    laid_low others c.outside-others.result c.args.self.now.me c.args.from c.rank.result (length c.args.work.now) c.root.result d on c.outside-others.ensures c.root.ensures c.rank.ensures.place c.requires.room

pub offset_bounds-work-from : goal.offset_bounds-work-from
offset_bounds-work-from g c = record { fits = offset_fits (c.args.from + c.rank.result) (length c.args.work.now) _ (low g c) c.well_formed.1.1.1.1.0.1 }

pub root-requires : goal.root-requires
root-requires g c = tt

pub outside-others-requires : goal.outside-others-requires
outside-others-requires g c = (omega arith, λ q on. member-lt g.row.N c.args.self.now.members q c.requires.station.members_ok (c.requires.within q on))

pub has-requires : goal.has-requires
has-requires g c = lit< tt

pub rank-requires : goal.rank-requires
rank-requires g c = (lit< tt, λ q on. only_me c.outside-others.result c.root.result c.args.self.now.me q c.root.ensures (sym c.has.ensures ∙ c.if-has.true) on)

pub overflow_add-from : goal.overflow_add-from
overflow_add-from g c = omega (arith, low g c)

pub bounds-work-from : goal.bounds-work-from
bounds-work-from g c = low g c

pub returns-else-has : goal.returns-else-has
returns-else-has g c = unlaid (outside c.args.self.now.members c.args.path.now) c.outside-others.result c.args.self.now.me c.args.from c.args.own c.args.work.now c.outside-others.ensures (sym c.has.ensures ∙ c.if-has.false)

pub returns-then-has : goal.returns-then-has
returns-then-has g c =
    let others = outside c.args.self.now.members c.args.path.now in
    let on : has_id others c.args.self.now.me ≡ true = ap (λ s. has_id s c.args.self.now.me) (sym c.outside-others.ensures) ∙ sym c.has.ensures ∙ c.if-has.true in
    let d : Distinct others = Distinct-filter _ c.args.self.now.members (Distinct-ids g.row.N c.args.self.now.members c.requires.station.members_ok) in
    laid_at others c.outside-others.result c.args.self.now.me c.args.from c.rank.result c.root.result c.args.own c.args.work.now d on c.outside-others.ensures c.root.ensures c.rank.ensures.place
