use Rattle.std.proofs.Common.{ℕ, ◌≡◌, ◌<◌, ◌+◌, ◌==◌, true, lit<, inl, inr, List, [], length, get_or, sym, ap, subst, ◌∙◌, arith}
use Rattle.std.specs.Cmp.Lexicographic.{pointwise}
use Rattle.node_grid.specs.ListFacts.{same_at}
use Rattle.item_phase.specs.Settled.{listener}
use Rattle.at_once.specs.Phases.{blames}
use Rattle.error_reports.specs.Notes.{Notes, also_carried}
use Rattle.protocol.specs.Arrival.{row_form}
use Rattle.protocol.specs.Heard.{rounds_bad}
use Rattle.item_phase.specs.Noted.{rounds_of, IsCarrier}
use Rattle.node_grid.specs.Capacity.{IsCapacity}
use Rattle.node_grid.specs.NodeSet.{has_id}
use Rattle.at_once.proofs.RowSteps.{carries_for}
use Rattle.at_once.proofs.NodeNotes.{AreMore, more_none, more_put, more_skip}
use Rattle.at_once.proofs.rows.carry.Goals.{then-has, else-has}
use Rattle.at_once.proofs.rows.carry.Goals as goal

pub carry_at-requires : goal.carry_at-requires
carry_at-requires g c =
    let cap : IsCapacity g.row.N = g.bound-1.eight_or_sixteen in
    let config = c.args.phase.now.config.now in
    let old : List Notes = c.args.notes.now in
    let xs : List Notes = c.loop-i.notes in
    let i : ℕ = c.loop-i.i in
    let low : i < g.row.N = c.loop-i-test.true in
    let room : i < length xs = (let w = c.loop-i.invariant.wide in omega arith) in
    let on : has_id c.args.phase.now.awake i ≡ true = sym c.has.ensures ∙ c.if-has.true in
    let own : Notes = get_or xs i c.index-notes-i.result in
    let ready : IsCarrier config i own =
    carries_for config old i own (c.requires.settled.heard.set.awake i on) c.requires.shaped (c.requires.within i low on)
    (same_at xs i c.index-notes-i.result (record { nodes = 0; me = 0; kinds = 0; row = []; carried = [] }) room ∙ c.loop-i.invariant.rest i (omega arith)) in (
      elim cap [ inl e ↦ rw e (lit< tt) | inr e ↦ rw e (lit< tt) ],
      (elim cap [ inl e ↦ rw e (lit< tt) | inr e ↦ rw e (lit< tt) ], (elim cap [ inl e ↦ rw e (lit< tt) | inr e ↦ rw e (lit< tt) ], (elim cap [ inl e ↦ rw e (lit< tt) | inr e ↦ rw e (lit< tt) ], (c.requires.settled, (on, ready))))),
    )

pub loop-i-init : goal.loop-i-init
loop-i-init g c =
    more_none g.row.N c.args.phase.now.awake (λ k y. also_carried g.row.N (also_carried g.row.N y (rounds_bad c.args.phase.now.config.now.m (rounds_of row_form c.args.phase.now c.args.rows.now.links k))) (blames (pointwise ◌==◌) (listener row_form c.args.phase.now c.args.rows.now.links k))) c.args.notes.now c.requires.shaped.many

pub loop-i-preserved : goal.loop-i-preserved
loop-i-preserved g c =
    let nodes : List ℕ = c.args.phase.now.awake in
    let old : List Notes = c.args.notes.now in
    let xs : List Notes = c.loop-i.notes in
    let i : ℕ = c.loop-i.i in
    let step : ℕ → Notes → Notes = λ k y. also_carried g.row.N (also_carried g.row.N y (rounds_bad c.args.phase.now.config.now.m (rounds_of row_form c.args.phase.now c.args.rows.now.links k))) (blames (pointwise ◌==◌) (listener row_form c.args.phase.now c.args.rows.now.links k)) in
    let low : i < g.row.N = c.loop-i-test.true in
    let room : i < length xs = (let w = c.loop-i.invariant.wide in omega arith) in
    elim c.if-has.branch [
      | then-has w ↦
          subst (AreMore g.row.N nodes step old (i + 1)) (sym w.notes-is)
          (more_put g.row.N nodes step old i xs w.carry_at.new.notes low (sym c.has.ensures ∙ w.if-has.true) c.loop-i.invariant
          (w.carry_at.ensures ∙ ap (step i) (same_at xs i w.index-notes-i.result (record { nodes = 0; me = 0; kinds = 0; row = []; carried = [] }) room)))
      | else-has w ↦ subst (AreMore g.row.N nodes step old (i + 1)) (sym w.notes-is) (more_skip g.row.N nodes step old i xs (sym c.has.ensures ∙ w.if-has.false) c.loop-i.invariant)
    ]

pub returns-clause-notes : goal.returns-clause-notes
returns-clause-notes g c i low = c.loop-i.invariant.so_far i (let t = c.loop-i-test.false in omega arith)

pub returns-clause-many : goal.returns-clause-many
returns-clause-many g c = c.loop-i.invariant.wide

pub bounds-notes-i : goal.bounds-notes-i
bounds-notes-i g c = let w = c.loop-i.invariant.wide in let t = c.loop-i-test.true in omega arith
