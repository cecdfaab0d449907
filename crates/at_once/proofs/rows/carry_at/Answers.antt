use Rattle.std.proofs.Common.{ℕ, ◌≡◌, ◌≤◌, ◌==◌, Bool, List, sym, ap, subst, ◌∙◌, lit<, inl, inr, arith, eq-eqb}
use Rattle.std.specs.Cmp.Lexicographic.{pointwise}
use Rattle.std.proofs.lemmas.Bool.{cond-true}
use Rattle.node_grid.specs.Capacity.{IsCapacity}
use Rattle.node_grid.specs.NumberFacts.{kinds-few}
use Rattle.error_reports.specs.Notes.{Notes, also_carried}
use Rattle.protocol.specs.Arrival.{row_form}
use Rattle.protocol.specs.Heard.{rounds_bad}
use Rattle.item_phase.specs.Settled.{listener}
use Rattle.item_phase.specs.Noted.{rounds_of}
use Rattle.view_law.specs.Laws.{IsCarriedWithin}
use Rattle.view_law.proofs.Rows.{carried_more}
use Rattle.omh.specs.Omh.{Ear}
use Rattle.at_once.specs.Phases.{blames}
use Rattle.at_once.proofs.NodeNotes.{carried_same, none_late}
use Rattle.at_once.proofs.rows.carry_at.Goals as goal

pub carry-requires : goal.carry-requires
carry-requires g c =
    let cap : IsCapacity g.row.N = c.requires.settled.heard.set.capacity in
    (elim cap [ inl e ↦ rw e (lit< tt) | inr e ↦ rw e (lit< tt) ], (elim cap [ inl e ↦ rw e (lit< tt) | inr e ↦ rw e (lit< tt) ], (elim cap [ inl e ↦ rw e (lit< tt) | inr e ↦ rw e (lit< tt) ], (c.requires.settled, (c.requires.node, c.requires.notes)))))

pub convicted-requires : goal.convicted-requires
convicted-requires g c =
    let cap : IsCapacity g.row.N = c.requires.settled.heard.set.capacity in
    (elim cap [ inl e ↦ rw e (lit< tt) | inr e ↦ rw e (lit< tt) ], (elim cap [ inl e ↦ rw e (lit< tt) | inr e ↦ rw e (lit< tt) ], (lit< tt, (c.requires.settled, (c.requires.node, c.if-phase-ne1.true)))))

pub carry_against-requires : goal.carry_against-requires
carry_against-requires g c =
    let bad : ℕ → ℕ → Bool = rounds_bad c.args.phase.now.config.now.m (rounds_of row_form c.args.phase.now c.args.rows.now.links c.args.i) in
    let few : c.args.notes.now.kinds ≤ 16 = (let e = c.requires.notes.kinds in let f = kinds-few c.args.phase.now.config.now.version in omega arith) in
    let cap : IsCapacity g.row.N = c.requires.settled.heard.set.capacity in
    (lit< tt, (elim cap [ inl e ↦ rw e (lit< tt) | inr e ↦ rw e (lit< tt) ], subst (IsCarriedWithin g.row.N) (sym c.carry.ensures) (carried_more g.row.N c.args.notes.now bad few)))

pub returns-then-phase-ne1 : goal.returns-then-phase-ne1
returns-then-phase-ne1 g c =
    let n : Notes = c.carry.new.notes in
    let ear : Ear (List ℕ) = listener row_form c.args.phase.now c.args.rows.now.links c.args.i in
    let me : n.me ≡ c.args.i = ap (λ (y : Notes). y.me) c.carry.ensures ∙ c.requires.notes.me in
    c.carry_against.ensures ∙ carried_same g.row.N n (pointwise ◌==◌) ear c.convicted.result (λ k other. c.convicted.ensures k (λ e. other (e ∙ sym me)))
    ∙ ap (λ (y : Notes). also_carried g.row.N y (blames (pointwise ◌==◌) ear)) c.carry.ensures

pub returns-else-phase-ne1 : goal.returns-else-phase-ne1
returns-else-phase-ne1 g c =
    let config = c.args.phase.now.config.now in
    let old : Notes = c.args.notes.now in
    let bad : ℕ → ℕ → Bool = rounds_bad config.m (rounds_of row_form c.args.phase.now c.args.rows.now.links c.args.i) in
    let ear : Ear (List ℕ) = listener row_form c.args.phase.now c.args.rows.now.links c.args.i in
    let few : old.kinds ≤ 16 = (let e = c.requires.notes.kinds in let f = kinds-few config.version in omega arith) in
    let one : config.version ≡ 1 = c.if-phase-ne1.false in
    c.carry.ensures
    ∙ sym (none_late g.row.N (also_carried g.row.N old bad) (pointwise ◌==◌) ear (carried_more g.row.N old bad few) (c.requires.notes.kinds ∙ cond-true (config.version == 1) 8 16 (eq-eqb config.version 1 one)))
