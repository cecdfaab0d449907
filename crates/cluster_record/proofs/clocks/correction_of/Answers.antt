use Rattle.std.proofs.Common.{ℕ, ◌≡◌, ◌<◌, length, map, refl, sym, ap, subst, ◌∙◌, Some, inl, inr, lit<}
use Rattle.std.specs.Prelude.{slice_get}
use Rattle.std.proofs.lemmas.Option.{slice_get_read, slice_get_past}
use Rattle.node_grid.specs.NodeSet.{has_id, ids_below}
use Rattle.clock_skew.specs.Correction.{IsReading}
use Rattle.protocol.specs.View.Mode.{Full, Joining, Cold}
use Rattle.node_steps.specs.Outcome.{Outcome}
use Rattle.node_core.specs.Modes.{mode_of}
use Rattle.clock_skew.specs.Reading.{read_by}
use Rattle.cluster_record.specs.Clocking.{corrects_by}
use Rattle.cluster_record.proofs.Clocking.{corrects_there, read_alike}
use Rattle.clock_skew.proofs.Sums.{zero_reading, reading_kept}
use Rattle.cluster_record.proofs.clocks.correction_of.Goals as goal

pub correction-requires : goal.correction-requires
correction-requires g c =
    let there : slice_get c.args.records.now c.args.i ≡ Some c.in-Some.record.now = slice_get_read c.args.records.now (length c.args.records.now) c.args.i c.in-Some.record.now refl c.in-Some.ensures.lookup.3.0 c.in-Some.ensures.lookup.1 in (
      lit< tt,
      (
        elim c.requires.steady.capacity [ inl e ↦ rw e (lit< tt) | inr e ↦ rw e (lit< tt) ],
        (c.readings-readings.ensures.range, ap (λ (o : Outcome). has_id o.sync c.args.i) c.record.view_is ∙ c.requires.others c.args.i c.in-Some.record.now there),
      ),
    )

pub returns-in_default-clause-range : goal.returns-in_default-clause-range
returns-in_default-clause-range g c = zero_reading

pub readings-readings-requires : goal.readings-readings-requires
readings-readings-requires g c = (
  lit< tt,
  (
    elim c.requires.steady.capacity [ inl e ↦ rw e (lit< tt) | inr e ↦ rw e (lit< tt) ],
    (c.requires.steady, subst (λ (n : ℕ). c.args.i < n) c.requires.each c.in-Some.ensures.lookup.3.0),
  ),
)

pub correction-requires-in-Joining : goal.correction-requires-in-Joining
correction-requires-in-Joining g c = (
  lit< tt,
  (elim c.requires.steady.capacity [ inl e ↦ rw e (lit< tt) | inr e ↦ rw e (lit< tt) ], (c.readings-readings.ensures.range, tt)),
)

pub returns-in-Full-clause-range : goal.returns-in-Full-clause-range
returns-in-Full-clause-range g c = subst IsReading (sym (reading_kept c.correction.result c.correction.ensures.range)) c.correction.ensures.range

pub returns-in-Joining-clause-range : goal.returns-in-Joining-clause-range
returns-in-Joining-clause-range g c = subst IsReading (sym (reading_kept c.correction-in-Joining.result c.correction-in-Joining.ensures.range)) c.correction-in-Joining.ensures.range

pub returns-in-Cold-clause-range : goal.returns-in-Cold-clause-range
returns-in-Cold-clause-range g c = zero_reading

pub returns-in-Full-clause-correction : goal.returns-in-Full-clause-correction
returns-in-Full-clause-correction g c =
    let there : slice_get c.args.records.now c.args.i ≡ Some c.in-Some.record.now = slice_get_read c.args.records.now (length c.args.records.now) c.args.i c.in-Some.record.now refl c.in-Some.ensures.lookup.3.0 c.in-Some.ensures.lookup.1 in
    reading_kept c.correction.result c.correction.ensures.range ∙ c.correction.ensures.correction
    ∙ corrects_there c.args.m c.args.i c.readings-readings.result _ c.args.records.now _ c.in-Some.record.now Full c.record.view_is there (c.readings-readings.ensures.readings ∙ read_alike c.args.clocks.now.plan.now _ _ c.args.clocks.now.offset.now c.args.clocks.now.period c.args.i g.row.N (sym c.requires.each)) (ap mode_of c.in-Full.is)

pub returns-in-Joining-clause-correction : goal.returns-in-Joining-clause-correction
returns-in-Joining-clause-correction g c =
    let there : slice_get c.args.records.now c.args.i ≡ Some c.in-Some.record.now = slice_get_read c.args.records.now (length c.args.records.now) c.args.i c.in-Some.record.now refl c.in-Some.ensures.lookup.3.0 c.in-Some.ensures.lookup.1 in
    reading_kept c.correction-in-Joining.result c.correction-in-Joining.ensures.range ∙ c.correction-in-Joining.ensures.correction
    ∙ corrects_there c.args.m c.args.i c.readings-readings.result _ c.args.records.now _ c.in-Some.record.now Joining c.record.view_is there (c.readings-readings.ensures.readings ∙ read_alike c.args.clocks.now.plan.now _ _ c.args.clocks.now.offset.now c.args.clocks.now.period c.args.i g.row.N (sym c.requires.each)) (ap mode_of c.in-Joining.is)

pub returns-in-Cold-clause-correction : goal.returns-in-Cold-clause-correction
returns-in-Cold-clause-correction g c =
    let there : slice_get c.args.records.now c.args.i ≡ Some c.in-Some.record.now = slice_get_read c.args.records.now (length c.args.records.now) c.args.i c.in-Some.record.now refl c.in-Some.ensures.lookup.3.0 c.in-Some.ensures.lookup.1 in
    corrects_there c.args.m c.args.i c.readings-readings.result _ c.args.records.now _ c.in-Some.record.now Cold c.record.view_is there (c.readings-readings.ensures.readings ∙ read_alike c.args.clocks.now.plan.now _ _ c.args.clocks.now.offset.now c.args.clocks.now.period c.args.i g.row.N (sym c.requires.each)) (ap mode_of c.in-Cold.is)

pub get-requires : goal.get-requires
get-requires g c = λ k. (refl, tt)

pub returns-in_default-clause-correction : goal.returns-in_default-clause-correction
returns-in_default-clause-correction g c =
    sym (ap (corrects_by c.args.m c.args.i (map (read_by c.args.clocks.now.plan.now (length c.args.records.now) c.args.clocks.now.offset.now c.args.clocks.now.period c.args.i) (ids_below g.row.N))) (slice_get_past c.args.records.now c.args.i c.in_default.ensures.lookup.3))
