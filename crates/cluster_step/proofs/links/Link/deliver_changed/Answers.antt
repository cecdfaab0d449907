use Rattle.std.proofs.Common.{ℕ, ◌≤◌, List, [], map, length, inl, inr, lit<, ap, sym, ◌∙◌, ◌==◌, ne_eqb, arith}
use Rattle.std.proofs.lemmas.List.{length-take-le}
use Rattle.std.proofs.lemmas.Bool.{cond-false}
use Rattle.error_detect.specs.Finding.{Delivery}
use Rattle.fault_classes.specs.Line.{effect_at}
use Rattle.fault_link.specs.Arrival.{delivered_of}
use Rattle.cluster_periods.specs.Slots.{arriving, handed}
use Rattle.cluster_periods.proofs.Handing.{ready_takes}
use Rattle.cluster_step.proofs.links.Link.deliver_changed.Goals as goal

pub me-requires : goal.me-requires
me-requires g c = elim g.bound-1.eight_or_sixteen [ inl e ↦ rw e (lit< tt) | inr e ↦ rw e (lit< tt) ]

pub hand-requires : goal.hand-requires
hand-requires g c = (
  elim g.bound-1.eight_or_sixteen [ inl e ↦ rw e (lit< tt) | inr e ↦ rw e (lit< tt) ],
  (ready_takes c.args.self.now.plan.now c.args.self.now.from c.args.node.now c.args.self.now.in_use c.requires.ready, c.requires.other),
)

pub returns : goal.returns
returns g c =
    let me : ℕ = c.args.node.now.phase.me in
    let from : ℕ = c.args.self.now.from in
    c.hand.ensures
    ∙ ap (λ (ds : List Delivery). handed c.args.node.now (map (arriving from) ds))
    (c.deliveries-arrived.ensures ∙ ap (λ (i : ℕ). delivered_of (effect_at c.args.self.now.plan.now.lines c.args.self.now.period c.args.self.now.slot from i) c.args.sent.now) c.me.ensures)
    ∙ ap (handed c.args.node.now)
    (sym (cond-false (from == me) [] (map (arriving from) (delivered_of (effect_at c.args.self.now.plan.now.lines c.args.self.now.period c.args.self.now.slot from me) c.args.sent.now)) (ne_eqb from me c.requires.other)))

pub deliveries-arrived-requires : goal.deliveries-arrived-requires
deliveries-arrived-requires g c =
    let few : length c.args.sent.now ≤ length c.as_mut_slice.result.now = omega (arith, c.fit.ensures, ap length c.as_mut_slice.ensures.value, ap length c.scratch.view_is) in (
      lit< tt,
      (
        record {
          period = c.args.self.now.in_plan;
          slot = c.args.self.now.in_period;
          from = c.args.self.now.in_use;
          to = omega (arith, c.me.ensures, c.requires.ready.me);
          link = λ e. c.requires.other (e ∙ c.me.ensures);
        },
        length-take-le (length c.args.sent.now) c.as_mut_slice.result.now few,
      ),
    )

pub fit-requires : goal.fit-requires
fit-requires g c = c.requires.short

pub invariant_of-scratch : goal.invariant_of-scratch
invariant_of-scratch g c = c.scratch.invariant

pub slice_bounds-room-end : goal.slice_bounds-room-end
slice_bounds-room-end g c =
    let few : length c.args.sent.now ≤ length c.as_mut_slice.result.now = omega (arith, c.fit.ensures, ap length c.as_mut_slice.ensures.value, ap length c.scratch.view_is) in
    sym (length-take-le (length c.args.sent.now) c.as_mut_slice.result.now few)
