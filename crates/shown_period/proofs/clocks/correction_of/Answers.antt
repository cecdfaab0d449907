use Rattle.std.proofs.Common.{ℕ, ◌≡◌, ◌<◌, List, [], length, get_or, false, sym, ap, ap₂, ◌∙◌, inl, inr, lit<, arith}
use Rattle.std.proofs.lemmas.List.{get_or_default}
use Rattle.node_grid.specs.NodeSet.{has_id}
use Rattle.protocol.specs.Clocks.{corrects}
use Rattle.protocol.specs.View.Mode.{Full, Joining, Cold}
use Rattle.node_core.specs.declared.outcome.Mode.TheVariants as modes
use Rattle.node_core.specs.Modes.{mode_of}
use Rattle.clock_skew.proofs.Sums.{reading_kept}
use Rattle.cluster_periods.specs.RecordLaws.{recorded}
use Rattle.shown_period.specs.Outcomes.{outcome_at}
use Rattle.shown_period.proofs.Correcting.{corrects_here, corrects_past}
use Rattle.shown_period.proofs.clocks.correction_of.Goals as goal

pub readings-readings-requires : goal.readings-readings-requires
readings-readings-requires g c = (lit< tt, (elim c.requires.steady.capacity [ inl e ↦ rw e (lit< tt) | inr e ↦ rw e (lit< tt) ], (c.requires.steady, c.if-i-clocks.false)))

pub correction-requires : goal.correction-requires
correction-requires g c =
    let low : c.args.i < length c.args.made.now.sync = omega (arith, c.requires.node) in
    let good : get_or c.args.made.now.sync c.args.i c.index-made-i-2.result ≡ get_or c.args.made.now.sync c.args.i [] = get_or_default c.args.made.now.sync c.args.i _ [] low in
    let others : has_id (get_or c.args.made.now.sync c.args.i []) c.args.i ≡ false = c.requires.others c.args.i (outcome_at c.args.made.now c.args.i) (recorded (outcome_at c.args.made.now) c.args.clocks.now.nodes c.args.i c.if-i-clocks.false) in
    (lit< tt, (elim c.requires.steady.capacity [ inl e ↦ rw e (lit< tt) | inr e ↦ rw e (lit< tt) ], (c.readings-readings.ensures.range, ap (λ (s : List ℕ). has_id s c.args.i) good ∙ others)))

pub returns-then-i-clocks-clause-correction : goal.returns-then-i-clocks-clause-correction
returns-then-i-clocks-clause-correction g c =
    sym (corrects_past g.row.N c.args.clocks.now.plan.now c.args.m c.args.clocks.now.offset.now c.args.clocks.now.period c.args.made.now c.args.clocks.now.nodes c.args.i c.if-i-clocks.true)

pub returns-in-Full-clause-correction : goal.returns-in-Full-clause-correction
returns-in-Full-clause-correction g c =
    let low : c.args.i < length c.args.made.now.modes = omega (arith, c.requires.node) in
    let members_low : c.args.i < length c.args.made.now.members = omega (arith, c.requires.node) in
    let sync_low : c.args.i < length c.args.made.now.sync = omega (arith, c.requires.node) in
    let members : get_or c.args.made.now.members c.args.i c.index-made-i.result ≡ get_or c.args.made.now.members c.args.i [] = get_or_default c.args.made.now.members c.args.i _ [] members_low in
    let good : get_or c.args.made.now.sync c.args.i c.index-made-i-2.result ≡ get_or c.args.made.now.sync c.args.i [] = get_or_default c.args.made.now.sync c.args.i _ [] sync_low in
    reading_kept c.correction.result c.correction.ensures.range ∙ c.correction.ensures.correction
    ∙ ap₂ (λ (ms gs : List ℕ). corrects c.args.m c.args.i c.readings-readings.result ms gs Full) members good
    ∙ corrects_here g.row.N c.args.clocks.now.plan.now c.args.m c.args.clocks.now.offset.now c.args.clocks.now.period c.args.made.now c.args.clocks.now.nodes c.args.i c.readings-readings.result Full c.if-i-clocks.false c.readings-readings.ensures.readings
    (ap mode_of (get_or_default c.args.made.now.modes c.args.i modes.Cold _ low ∙ c.in-Full.is))

pub returns-in-Joining-clause-correction : goal.returns-in-Joining-clause-correction
returns-in-Joining-clause-correction g c =
    let low : c.args.i < length c.args.made.now.modes = omega (arith, c.requires.node) in
    let members_low : c.args.i < length c.args.made.now.members = omega (arith, c.requires.node) in
    let sync_low : c.args.i < length c.args.made.now.sync = omega (arith, c.requires.node) in
    let members : get_or c.args.made.now.members c.args.i c.index-made-i.result ≡ get_or c.args.made.now.members c.args.i [] = get_or_default c.args.made.now.members c.args.i _ [] members_low in
    let good : get_or c.args.made.now.sync c.args.i c.index-made-i-2.result ≡ get_or c.args.made.now.sync c.args.i [] = get_or_default c.args.made.now.sync c.args.i _ [] sync_low in
    reading_kept c.correction-in-Joining.result c.correction-in-Joining.ensures.range ∙ c.correction-in-Joining.ensures.correction
    ∙ ap₂ (λ (ms gs : List ℕ). corrects c.args.m c.args.i c.readings-readings.result ms gs Joining) members good
    ∙ corrects_here g.row.N c.args.clocks.now.plan.now c.args.m c.args.clocks.now.offset.now c.args.clocks.now.period c.args.made.now c.args.clocks.now.nodes c.args.i c.readings-readings.result Joining c.if-i-clocks.false c.readings-readings.ensures.readings
    (ap mode_of (get_or_default c.args.made.now.modes c.args.i modes.Cold _ low ∙ c.in-Joining.is))

pub returns-in-Cold-clause-correction : goal.returns-in-Cold-clause-correction
returns-in-Cold-clause-correction g c =
    let low : c.args.i < length c.args.made.now.modes = omega (arith, c.requires.node) in
    corrects_here g.row.N c.args.clocks.now.plan.now c.args.m c.args.clocks.now.offset.now c.args.clocks.now.period c.args.made.now c.args.clocks.now.nodes c.args.i c.readings-readings.result Cold c.if-i-clocks.false c.readings-readings.ensures.readings
    (ap mode_of (get_or_default c.args.made.now.modes c.args.i modes.Cold _ low ∙ c.in-Cold.is))
