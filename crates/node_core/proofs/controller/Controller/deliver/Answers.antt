use Rattle.std.proofs.Common.{◌<◌, ℕ, lit<, sym, ap, subst, ◌∙◌}
use Rattle.error_detect.specs.Watching.{Watch, delivered}
use Rattle.node_steps.specs.Parts.{NodeView}
use Rattle.node_core.specs.Inside.{seen}
use Rattle.node_core.proofs.Standing.{frame_given}
use Rattle.node_core.proofs.controller.Controller.deliver.Goals as goal

pub deliver-requires : goal.deliver-requires
deliver-requires g c =
    let inv = c.self.invariant in
    let is = c.self.view_is in (
      lit< tt,
      (
        ap (λ (v : NodeView g.row.N). v.arrived.is_open) is ∙ c.requires.open,
        (
          subst (λ (n : ℕ). c.args.from < n) (ap (λ (v : NodeView g.row.N). v.config.nodes) (sym is) ∙ sym inv.watch.nodes) c.requires.node,
          λ e. c.requires.other (e ∙ inv.watch.me_is ∙ ap (λ (v : NodeView g.row.N). v.phase.me) is),
        ),
      ),
    )

pub invariant_of-self : goal.invariant_of-self
invariant_of-self g c =
    frame_given c.self.inside c.deliver.new.self c.args.from c.args.tick c.args.bytes.now c.deliver.ensures c.self.invariant

pub returns : goal.returns
returns g c =
    let n = c.self.inside in
    ap (λ (w : Watch). record (seen n) { arrived = w }) c.deliver.ensures
    ∙ ap (λ (v : NodeView g.row.N). record v { arrived = delivered v.arrived c.args.from c.args.tick c.args.bytes.now }) c.self.view_is
