use Rattle.std.proofs.Common.{inl, inr, lit<, sym, ap, ◌∙◌}
use Rattle.node_grid.specs.NodeSet.{has_id}
use Rattle.clock_skew.proofs.Sums.{reading_kept}
use Rattle.protocol.specs.View.Mode.{Full, Joining, Cold}
use Rattle.node_core.specs.Modes.{mode_of}
use Rattle.live_node.proofs.Told.{not_read, corrects_kept}
use Rattle.live_node.proofs.correcting.correction_by.Goals as goal

pub correction-requires : goal.correction-requires
correction-requires g c = (
  lit< tt,
  (
    elim g.bound-1.eight_or_sixteen [ inl e ↦ rw e (lit< tt) | inr e ↦ rw e (lit< tt) ],
    (
      c.told_numbers-readings.ensures.readings,
      ap (λ s. has_id s c.args.id) c.good_told-good.ensures ∙ not_read c.outcome.inside.sync c.args.ahead.now c.args.id c.requires.own,
    ),
  ),
)

pub good_told-good-requires : goal.good_told-good-requires
good_told-good-requires g c = elim g.bound-1.eight_or_sixteen [ inl e ↦ rw e (lit< tt, lit< tt) | inr e ↦ rw e (lit< tt, lit< tt) ]

pub told_numbers-readings-requires : goal.told_numbers-readings-requires
told_numbers-readings-requires g c = (elim g.bound-1.eight_or_sixteen [ inl e ↦ rw e (lit< tt) | inr e ↦ rw e (lit< tt) ], (elim g.bound-1.eight_or_sixteen [ inl e ↦ rw e (lit< tt) | inr e ↦ rw e (lit< tt) ], c.requires.values))

pub correction-requires-in-Joining : goal.correction-requires-in-Joining
correction-requires-in-Joining g c = (
  lit< tt,
  (elim g.bound-1.eight_or_sixteen [ inl e ↦ rw e (lit< tt) | inr e ↦ rw e (lit< tt) ], (c.told_numbers-readings.ensures.readings, tt)),
)

pub returns-in-Full : goal.returns-in-Full
returns-in-Full g c =
    reading_kept c.correction.result c.correction.ensures.range ∙ c.correction.ensures.correction
    ∙ corrects_kept c.args.m c.args.id c.args.ahead.now _ c.args.outcome.now Full c.told_numbers-readings.result c.good_told-good.result c.told_numbers-readings.ensures.numbers c.good_told-good.ensures c.outcome.view_is (ap mode_of c.in-Full.is)

pub returns-in-Joining : goal.returns-in-Joining
returns-in-Joining g c =
    reading_kept c.correction-in-Joining.result c.correction-in-Joining.ensures.range ∙ c.correction-in-Joining.ensures.correction
    ∙ corrects_kept c.args.m c.args.id c.args.ahead.now _ c.args.outcome.now Joining c.told_numbers-readings.result c.good_told-good.result c.told_numbers-readings.ensures.numbers c.good_told-good.ensures c.outcome.view_is (ap mode_of c.in-Joining.is)

pub returns-in-Cold : goal.returns-in-Cold
returns-in-Cold g c =
    corrects_kept c.args.m c.args.id c.args.ahead.now _ c.args.outcome.now Cold c.told_numbers-readings.result c.good_told-good.result c.told_numbers-readings.ensures.numbers c.good_told-good.ensures c.outcome.view_is (ap mode_of c.in-Cold.is)
