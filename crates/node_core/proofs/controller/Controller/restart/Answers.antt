use Rattle.std.proofs.Common.{ap, inl, inr, lit<, ◌∙◌}
use Rattle.error_reports.specs.Notes.{Notes}
use Rattle.node_core.proofs.controller.Controller.restart.Goals as goal

pub forget-requires : goal.forget-requires
forget-requires g c = elim g.bound-1.eight_or_sixteen [ inl e ↦ rw e (lit< tt) | inr e ↦ rw e (lit< tt) ]

pub invariant_of-self : goal.invariant_of-self
invariant_of-self g c =
    let inv = c.self.invariant in
    let k = c.forget.ensures in
    record {
      place = inv.place;
      slot = inv.slot;
      watch = inv.watch;
      kept_notes = record {
        nodes = ap (λ (x : Notes). x.nodes) k ∙ inv.kept_notes.nodes;
        me_is = ap (λ (x : Notes). x.me) k ∙ inv.kept_notes.me_is;
        kinds = ap (λ (x : Notes). x.kinds) k ∙ inv.kept_notes.kinds;
      };
      notes = inv.notes;
    }
