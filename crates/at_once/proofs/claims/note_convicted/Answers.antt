use Rattle.std.proofs.Common.{ℕ, ◌≡◌, ◌<◌, ◌+◌, true, lit<, inl, inr, List, [], length, get_or, sym, ap, subst, ◌∙◌, arith}
use Rattle.std.specs.Prelude.{nat_eq}
use Rattle.node_grid.specs.Capacity.{IsCapacity}
use Rattle.node_grid.specs.NodeSet.{has_id}
use Rattle.node_grid.specs.ListFacts.{same_at}
use Rattle.error_reports.specs.Notes.{Notes, also_noted}
use Rattle.protocol.specs.Arrival.{claim_form}
use Rattle.view_law.specs.Laws.{IsWithin}
use Rattle.item_phase.specs.Settled.{listener}
use Rattle.at_once.specs.Kept.{notes_at}
use Rattle.at_once.specs.Phases.{blames}
use Rattle.at_once.proofs.NodeNotes.{AreMore, more_none, more_put, more_skip, blamed_same, unconvicted}
use Rattle.at_once.proofs.claims.note_convicted.Goals.{then-has, else-has}
use Rattle.at_once.proofs.claims.note_convicted.Goals as goal

pub convicted-requires : goal.convicted-requires
convicted-requires g c =
    let cap : IsCapacity g.row.N = g.bound-1.eight_or_sixteen in
    (elim cap [ inl e ↦ rw e (lit< tt) | inr e ↦ rw e (lit< tt) ], (elim cap [ inl e ↦ rw e (lit< tt) | inr e ↦ rw e (lit< tt) ], (lit< tt, (c.requires.settled, (sym c.has.ensures ∙ c.if-has.true, c.if-phase-eq1.false)))))

pub note_against-requires : goal.note_against-requires
note_against-requires g c =
    let i : ℕ = c.loop-i.i in
    let xs : List Notes = c.loop-i.notes in
    let low : i < g.row.N = c.loop-i-test.true in
    let room : i < length xs = (let w = c.loop-i.invariant.wide in omega arith) in
    let at : get_or xs i c.index-notes-i.result ≡ notes_at xs i = same_at xs i c.index-notes-i.result (record { nodes = 0; me = 0; kinds = 0; row = []; carried = [] }) room in
    let cap : IsCapacity g.row.N = g.bound-1.eight_or_sixteen in
    (lit< tt, (elim cap [ inl e ↦ rw e (lit< tt) | inr e ↦ rw e (lit< tt) ], subst (IsWithin g.row.N) (sym (at ∙ c.loop-i.invariant.rest i (omega arith))) (c.requires.within i low (sym c.has.ensures ∙ c.if-has.true))))

pub returns-then-phase-eq1-clause-notes : goal.returns-then-phase-eq1-clause-notes
returns-then-phase-eq1-clause-notes g c i low =
    unconvicted c.args.phase.now.config.now c.args.notes.now i c.args.phase.now.awake nat_eq (listener claim_form c.args.phase.now c.args.claims.now.links i) c.requires.shaped c.if-phase-eq1.true
    (c.requires.settled.heard.set.awake i) (c.requires.within i low)

pub loop-i-init : goal.loop-i-init
loop-i-init g c =
    more_none g.row.N c.args.phase.now.awake (λ k y. also_noted g.row.N y (blames nat_eq (listener claim_form c.args.phase.now c.args.claims.now.links k))) c.args.notes.now c.requires.shaped.many

pub loop-i-preserved : goal.loop-i-preserved
loop-i-preserved g c =
    let nodes : List ℕ = c.args.phase.now.awake in
    let old : List Notes = c.args.notes.now in
    let xs : List Notes = c.loop-i.notes in
    let i : ℕ = c.loop-i.i in
    let step : ℕ → Notes → Notes = λ k y. also_noted g.row.N y (blames nat_eq (listener claim_form c.args.phase.now c.args.claims.now.links k)) in
    let low : i < g.row.N = c.loop-i-test.true in
    let room : i < length xs = (let w = c.loop-i.invariant.wide in omega arith) in
    elim c.if-has.branch [
      | then-has w ↦
          let on : has_id nodes i ≡ true = sym c.has.ensures ∙ w.if-has.true in
          let n : Notes = notes_at xs i in
          let was : Notes = get_or xs i w.index-notes-i.result in
          let at : was ≡ n = same_at xs i w.index-notes-i.result (record { nodes = 0; me = 0; kinds = 0; row = []; carried = [] }) room in
          let me : n.me ≡ i = ap (λ (y : Notes). y.me) (c.loop-i.invariant.rest i (omega arith)) ∙ c.requires.shaped.me i (c.requires.settled.heard.set.awake i on) in
          subst (AreMore g.row.N nodes step old (i + 1)) (sym w.notes-is)
          (more_put g.row.N nodes step old i xs w.note_against.new.notes low on c.loop-i.invariant
          (w.note_against.ensures
          ∙ blamed_same g.row.N was nat_eq (listener claim_form c.args.phase.now c.args.claims.now.links i) w.convicted.result
          (λ k other. w.convicted.ensures k (λ e. other (e ∙ sym (ap (λ (y : Notes). y.me) at ∙ me))))
          ∙ ap (step i) at))
      | else-has w ↦ subst (AreMore g.row.N nodes step old (i + 1)) (sym w.notes-is) (more_skip g.row.N nodes step old i xs (sym c.has.ensures ∙ w.if-has.false) c.loop-i.invariant)
    ]

pub returns-clause-notes : goal.returns-clause-notes
returns-clause-notes g c i low = c.loop-i.invariant.so_far i (let t = c.loop-i-test.false in omega arith)

pub returns-clause-many : goal.returns-clause-many
returns-clause-many g c = c.loop-i.invariant.wide

pub bounds-notes-i : goal.bounds-notes-i
bounds-notes-i g c = let w = c.loop-i.invariant.wide in let t = c.loop-i-test.true in omega arith
