use Rattle.std.proofs.Common.{ℕ, ◌≡◌, ◌≤◌, Option, inl, inr, lit<, sym, ap, subst, ◌∙◌, arith}
use Rattle.std.specs.Prelude.{nat_eq, IfSome}
use Rattle.node_grid.specs.NumberFacts.{kinds-few}
use Rattle.omh.specs.Heard.{Hearing}
use Rattle.std.proofs.lemmas.List.{length-replicate}
use Rattle.error_reports.specs.Notes.{Notes}
use Rattle.agreed_state.specs.Agreed.{AgreedView, IsAgreed}
use Rattle.protocol.specs.Arrival.{claim_form}
use Rattle.relaying.specs.Hearing.{after_round}
use Rattle.relaying.specs.Settling.{settled_in}
use Rattle.data_slot.specs.DueLaws.{dues_are}
use Rattle.node_steps.specs.Parts.{NodeView}
use Rattle.node_steps.specs.Sound.{Hears}
use Rattle.node_steps.specs.Steps.{claims_known}
use Rattle.node_core.specs.Inside.{seen}
use Rattle.node_core.specs.Closing.{IsDoneClosed}
use Rattle.node_core.proofs.KnownClaims.{settled_claims, claims_taken}
use Rattle.node_core.proofs.controller.Controller.know_claims.Goals as goal

pub settle-guilty-requires : goal.settle-guilty-requires
settle-guilty-requires g c = (lit< tt, (lit< tt, (lit< tt, (subst (λ (v : NodeView g.row.N). IsDoneClosed v.done.rounds v) (sym c.self.view_is) c.requires.closed, length-replicate g.row.N _))))

pub claims_of-claims-requires : goal.claims_of-claims-requires
claims_of-claims-requires g c = (elim c.self.invariant.place.capacity [ inl e ↦ rw e (lit< tt) | inr e ↦ rw e (lit< tt) ], elim c.self.invariant.place.capacity [ inl e ↦ rw e (lit< tt) | inr e ↦ rw e (lit< tt) ])

pub preview-preview-requires : goal.preview-preview-requires
preview-preview-requires g c =
    let n = c.self.inside in
    let inv = c.self.invariant in
    let agreed = subst (λ (v : NodeView g.row.N). IfSome v.phase.before (λ a. IsAgreed g.row.N v.config a)) (sym c.self.view_is) c.requires.agreed in
    (elim inv.place.capacity [ inl e ↦ rw e (lit< tt) | inr e ↦ rw e (lit< tt) ], (elim inv.place.capacity [ inl e ↦ rw e (lit< tt) | inr e ↦ rw e (lit< tt) ], (elim inv.place.capacity [ inl e ↦ rw e (lit< tt) | inr e ↦ rw e (lit< tt) ], (elim inv.place.capacity [ inl e ↦ rw e (lit< tt) | inr e ↦ rw e (lit< tt) ], (inv.place.config_is, subst (λ (o : Option AgreedView). IfSome o (λ a. IsAgreed g.row.N n.config.now a)) c.in-Some.is agreed)))))

pub note_verdicts-requires : goal.note_verdicts-requires
note_verdicts-requires g c =
    let n = c.self.inside in
    let inv = c.self.invariant in
    (elim inv.place.capacity [ inl e ↦ rw e (lit< tt) | inr e ↦ rw e (lit< tt) ], (elim inv.place.capacity [ inl e ↦ rw e (lit< tt) | inr e ↦ rw e (lit< tt) ], subst (λ (k : ℕ). k ≤ 16) (sym inv.notes.kinds) (kinds-few n.config.now.version)))

pub invariant_of-self : goal.invariant_of-self
invariant_of-self g c =
    let n = c.self.inside in
    let inv = c.self.invariant in
    let k : c.note_all.new.self ≡ _ = c.note_all.ensures in
    let l = c.note_verdicts.ensures in
    record {
      place = inv.place;
      slot = inv.slot;
      watch = inv.watch;
      kept_notes = inv.kept_notes;
      notes = record {
        nodes = ap (λ (x : Notes). x.nodes) k ∙ ap (λ (x : Notes). x.nodes) l ∙ inv.notes.nodes;
        me_is = ap (λ (x : Notes). x.me) k ∙ ap (λ (x : Notes). x.me) l ∙ inv.notes.me_is;
        kinds = ap (λ (x : Notes). x.kinds) k ∙ ap (λ (x : Notes). x.kinds) l ∙ inv.notes.kinds;
      };
    }

pub returns : goal.returns
returns g c =
    let n = c.self.inside in
    let inv = c.self.invariant in
    let is = c.self.view_is in
    let a : AgreedView = c.in-Some.agreed in
    let claims = c.claims_of-claims.result in
    let y : Notes = c.note_all.new.self in
    let new : NodeView g.row.N = record (seen n) {
      done = c.settle-guilty.new.table;
      found = record (seen n).found { notes = y.row; late = y.carried; claims = claims; due = c.due_channels-self-inside.result.items; own = c.own_values-self-inside.result };
    } in
    let h : Hearing ℕ = after_round claim_form n.done.nodes n.watch n.done.rounds n.done in
    let hears : Hears n.done n.phase.me a =
    subst (λ (o : Option AgreedView). IfSome o (λ b. Hears n.done n.phase.me b)) c.in-Some.is
    (subst (λ (v : NodeView g.row.N). IfSome v.phase.before (λ b. Hears v.done v.phase.me b)) (sym is) c.requires.hears) in
    let settled = c.claims_of-claims.ensures ∙ settled_claims c.settle-guilty.new.items (settled_in nat_eq g.row.N h) c.settle-guilty.ensures.settled in
    let due = c.due_channels-self-inside.ensures ∙ dues_are n.config.now a claims c.preview-preview.result.finished_now c.preview-preview.ensures.finished_now inv.place.config_is in
    let known : new ≡ claims_known (seen n) h a =
    claims_taken n inv a h (record { members = hears.members; me_is = hears.me_is }) claims c.preview-preview.result.verdicts c.note_verdicts.new.notes y c.settle-guilty.result c.due_channels-self-inside.result.items c.own_values-self-inside.result c.settle-guilty.new.table
    settled c.preview-preview.ensures.verdicts c.note_verdicts.ensures c.settle-guilty.ensures.guilty c.note_all.ensures due (c.own_values-self-inside.ensures n.kept.state n.kept.notes.carried) c.settle-guilty.ensures.forgotten in
    subst (λ (v : NodeView g.row.N). IfSome v.phase.before (λ b. new ≡ claims_known v (after_round claim_form v.done.nodes v.arrived v.done.rounds v.done) b)) is
    (subst (λ (o : Option AgreedView). IfSome o (λ b. new ≡ claims_known (seen n) h b)) (sym c.in-Some.is) known)

pub due_channels-self-inside-requires : goal.due_channels-self-inside-requires
due_channels-self-inside-requires g c = (elim c.self.invariant.place.capacity [ inl e ↦ rw e (lit< tt) | inr e ↦ rw e (lit< tt) ], c.self.invariant.place.config_is)

pub note_all-requires : goal.note_all-requires
note_all-requires g c = (elim c.self.invariant.place.capacity [ inl e ↦ rw e (lit< tt) | inr e ↦ rw e (lit< tt) ], lit< tt)

pub own_values-self-inside-requires : goal.own_values-self-inside-requires
own_values-self-inside-requires g c = (elim c.self.invariant.place.capacity [ inl e ↦ rw e (lit< tt) | inr e ↦ rw e (lit< tt) ], (c.self.invariant.place.config_is, (let low = c.self.invariant.place.me_low in let few = c.self.invariant.place.few in omega (arith, low, few))))

pub whole_as_slice-settle : goal.whole_as_slice-settle
whole_as_slice-settle g c = elim g.bound-1.eight_or_sixteen [ inl e ↦ rw e (lit< tt) | inr e ↦ rw e (lit< tt) ]
