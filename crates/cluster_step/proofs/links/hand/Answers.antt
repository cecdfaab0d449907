use Rattle.std.proofs.Common.{ℕ, ◌≡◌, ◌<◌, inl, inr, lit<, refl, ap, sym, subst, ◌∙◌, arith, map, replicate}
use Rattle.node_steps.specs.Parts.{NodeView}
use Rattle.cluster_periods.specs.Slots.{arriving, handed}
use Rattle.cluster_periods.proofs.Handing.{handed_more}
use Rattle.cluster_step.proofs.links.hand.Goals as goal

pub loop-init : goal.loop-init
loop-init g c = refl

pub deliver-requires : goal.deliver-requires
deliver-requires g c = (
  elim g.bound-1.eight_or_sixteen [ inl e ↦ rw e (lit< tt) | inr e ↦ rw e (lit< tt) ],
  (
    ap (λ (v : NodeView g.row.N). v.phase.is_open) c.loop.invariant ∙ c.requires.takes.is_open,
    (
      subst (λ (n : ℕ). c.args.from < n) (ap (λ (v : NodeView g.row.N). v.config.nodes) (sym c.loop.invariant)) c.requires.takes.in_use,
      λ e. c.requires.other (e ∙ ap (λ (v : NodeView g.row.N). v.phase.me) c.loop.invariant),
    ),
  ),
)

pub loop-preserved : goal.loop-preserved
loop-preserved g c =
    c.deliver.ensures ∙ handed_more c.args.node.now c.loop.node c.args.from (c.args.arrived.now.tick, c.args.arrived.now.bytes.now) c.loop.counter c.loop.invariant

pub returns : goal.returns
returns g c =
    let all : c.loop.counter ≡ c.args.arrived.now.copies = omega (arith, c.loop-test.false, c.loop.auto.counter-end) in
    c.loop.invariant ∙ ap (λ (n : ℕ). handed c.args.node.now (map (arriving c.args.from) (replicate n (c.args.arrived.now.tick, c.args.arrived.now.bytes.now)))) all
