use Rattle.std.proofs.Common.{◌≡◌, ◌≤◌, ℕ, true, List, length, inl, inr, lit<, sym, ap, subst, ◌∙◌}
use Rattle.std.specs.Prelude.{vec_capacity}
use Rattle.node_steps.specs.Parts.{NodeView}
use Rattle.node_steps.specs.Ready.{IsReady}
use Rattle.node_steps.specs.Steps.{frame_of}
use Rattle.node_core.proofs.Spelt.{frame_short}
use Rattle.node_core.proofs.node.Node.say.Goals as goal

pub say-requires : goal.say-requires
say-requires g c =
    let inv = c.self.invariant in
    let is = c.self.view_is in
    let ready : IsReady c.self.inside.controller (vec_capacity c.args.out.now) = record {
      sound = inv.sound;
      is_open = ap (λ (v : NodeView g.row.N). v.phase.is_open) is ∙ c.requires.open;
      room = subst (λ (v : NodeView g.row.N). v.arrived.frame_max ≤ vec_capacity c.args.out.now) (sym is) c.requires.fits;
    } in
    (elim inv.capacity [ inl e ↦ rw e (lit< tt) | inr e ↦ rw e (lit< tt) ], ready)

pub returns-clause-bytes : goal.returns-clause-bytes
returns-clause-bytes g c = c.say.ensures.written ∙ ap (λ (v : NodeView g.row.N). frame_of v) c.self.view_is

pub returns-clause-short : goal.returns-clause-short
returns-clause-short g c =
    let inv = c.self.invariant in
    let is = c.self.view_is in
    let open' : c.self.inside.controller.phase.is_open ≡ true = ap (λ (v : NodeView g.row.N). v.phase.is_open) is ∙ c.requires.open in
    let short = frame_short c.self.inside.controller inv.capacity inv.config inv.greatest inv.sound open' in
    subst (λ (bytes : List ℕ). length bytes ≤ c.args.self.now.arrived.frame_max) (sym c.say.ensures.written) (subst (λ (v : NodeView g.row.N). length (frame_of c.self.inside.controller) ≤ v.arrived.frame_max) is short)

pub returns-clause-room : goal.returns-clause-room
returns-clause-room g c = c.say.ensures.room
