use Rattle.std.proofs.Common.{◌≡◌, ◌==◌, arith, inl, inr, lit<, sym, ◌∙◌, eq-eqb}
use Rattle.std.proofs.lemmas.Bool.{cond-true}
use Rattle.slot_plan.specs.declared.slot.Slot.TheVariants.{Sync, Claims, Data, Rows}
use Rattle.node_steps.specs.Parts.{NodeView}
use Rattle.node_steps.specs.Steps.{shut, taken, after_sync}
use Rattle.node_core.proofs.Behind.{stands_in, is_slot, later_taken}
use Rattle.node_core.proofs.controller.Controller.take_slot.Goals as goal

pub hear_states-requires : goal.hear_states-requires
hear_states-requires g c =
    let inv = c.self.invariant in
    let at : c.args.self.now.phase.slot ≡ 0 = stands_in c.self.inside c.args.self.now inv c.self.view_is Sync c.in-Sync.is in
    (elim inv.place.capacity [ inl e ↦ rw e (lit< tt) | inr e ↦ rw e (lit< tt) ], (c.requires.sound, (c.requires.open, at)))

pub hear_claims-requires : goal.hear_claims-requires
hear_claims-requires g c =
    let inv = c.self.invariant in
    let at = stands_in c.self.inside c.args.self.now inv c.self.view_is (Claims c.in-Claims.round) c.in-Claims.is in
    let low = is_slot c.self.inside c.args.self.now inv c.self.view_is (Claims c.in-Claims.round) c.in-Claims.is in
    (elim inv.place.capacity [ inl e ↦ rw e (lit< tt) | inr e ↦ rw e (lit< tt) ], (c.requires.sound, (c.requires.open, (at, low))))

pub hear_values-requires : goal.hear_values-requires
hear_values-requires g c =
    let inv = c.self.invariant in
    let at = stands_in c.self.inside c.args.self.now inv c.self.view_is Data c.in-Data.is in
    (elim inv.place.capacity [ inl e ↦ rw e (lit< tt) | inr e ↦ rw e (lit< tt) ], (c.requires.sound, (c.requires.open, at)))

pub hear_rows-requires : goal.hear_rows-requires
hear_rows-requires g c =
    let inv = c.self.invariant in
    let at = stands_in c.self.inside c.args.self.now inv c.self.view_is (Rows c.in-Rows.round) c.in-Rows.is in
    let early = c.requires.early in
    (elim inv.place.capacity [ inl e ↦ rw e (lit< tt) | inr e ↦ rw e (lit< tt) ], (c.requires.sound, (c.requires.open, (at, omega (arith, at, early)))))

pub returns-in-Sync : goal.returns-in-Sync
returns-in-Sync g c =
    let v : NodeView g.row.N = c.args.self.now in
    let at : v.phase.slot ≡ 0 = stands_in c.self.inside v c.self.invariant c.self.view_is Sync c.in-Sync.is in
    c.hear_states.ensures ∙ sym (cond-true (v.phase.slot == 0) (after_sync (shut v)) (taken (shut v) v.phase.before) (eq-eqb v.phase.slot 0 at))

pub returns-in-Claims : goal.returns-in-Claims
returns-in-Claims g c =
    let v : NodeView g.row.N = c.args.self.now in
    let at = stands_in c.self.inside v c.self.invariant c.self.view_is (Claims c.in-Claims.round) c.in-Claims.is in
    c.hear_claims.ensures ∙ sym (later_taken v (λ e. omega (arith, at, e)))

pub returns-in-Data : goal.returns-in-Data
returns-in-Data g c =
    let v : NodeView g.row.N = c.args.self.now in
    let at = stands_in c.self.inside v c.self.invariant c.self.view_is Data c.in-Data.is in
    c.hear_values.ensures ∙ sym (later_taken v (λ e. omega (arith, at, e)))

pub returns-in-Rows : goal.returns-in-Rows
returns-in-Rows g c =
    let v : NodeView g.row.N = c.args.self.now in
    let at = stands_in c.self.inside v c.self.invariant c.self.view_is (Rows c.in-Rows.round) c.in-Rows.is in
    c.hear_rows.ensures ∙ sym (later_taken v (λ e. omega (arith, at, e)))
