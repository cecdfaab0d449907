use Rattle.omh.specs.Heard.{forgotten}
use Rattle.std.proofs.Common.{ap, subst, ◌∙◌, lit<}
use Rattle.node_grid.specs.Count.{Distinct}
use Rattle.omh_paths.specs.MemberLaws.{Distinct-ids}
use Rattle.relaying.proofs.LastRound.{guilty_last, still_heard, same_forgotten}
use Rattle.relaying.proofs.settling.settle.Goals as goal

pub hear_kept-requires : goal.hear_kept-requires
hear_kept-requires g c = (assumption, (lit< tt, c.requires.heard))

pub convicted-guilty-requires : goal.convicted-guilty-requires
convicted-guilty-requires g c = (assumption, lit< tt)

pub settle_items-requires : goal.settle_items-requires
settle_items-requires g c =
    (assumption, (lit< tt, (still_heard g.V.PartialEq.eq g.V.RelayedItem.form c.args.watch.now g.row.N g.V.RelayedItem.kind c.args.table.now c.hear_kept.new.table c.hear_kept.ensures c.requires.heard, c.requires.room)))

pub forget-requires : goal.forget-requires
forget-requires g c = assumption

pub returns-clause-settled : goal.returns-clause-settled
returns-clause-settled g c = c.settle_items.ensures.settled c.args.table.now c.hear_kept.ensures

pub returns-clause-guilty : goal.returns-clause-guilty
returns-clause-guilty g c =
    c.convicted-guilty.ensures
    ∙ guilty_last g.V.PartialEq.eq g.V.RelayedItem.form c.args.watch.now g.row.N c.args.table.now c.hear_kept.new.table
    (subst Distinct c.members-members.ensures.members (Distinct-ids g.row.N c.members-members.result c.members-members.ensures.ids)) c.hear_kept.ensures

pub returns-clause-forgotten : goal.returns-clause-forgotten
returns-clause-forgotten g c =
    c.forget.ensures ∙ ap forgotten c.settle_items.ensures.kept ∙ same_forgotten g.V.PartialEq.eq g.V.RelayedItem.form c.args.watch.now c.args.table.now c.hear_kept.new.table c.hear_kept.ensures
