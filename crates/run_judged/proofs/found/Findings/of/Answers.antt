use Rattle.std.proofs.Common.{ℕ, Option, ◌≡◌, ◌<◌, ◌≤◌, List, not, refl, ap, ◌∙◌, inl, inr, arith, lit<, lit≤}
use Rattle.node_grid.specs.NodeSet.{ids_where}
use Rattle.fault_classes.specs.Plan.{Plan, is_clean}
use Rattle.run_judged.specs.Signs.{is_left, is_joined}
use Rattle.run_judged.proofs.Founds.{found_all}
use Rattle.run_judged.proofs.found.Findings.of.Goals as goal

pub touched_nodes-requires : goal.touched_nodes-requires
touched_nodes-requires g c =
    let sc = c.args.scenario.now in
    let is = c.requires.fits.scenario in
    let nodes = c.requires.fits.shape.nodes in
    let few : c.args.seen.now.shown.now.head.nodes ≤ g.row.N = rw nodes is.system.config.few_nodes in
    let planned : c.plan.result.now.nodes ≡ sc.plan.nodes = ap (λ (p : Plan). p.nodes) c.plan.ensures.plan in
    let of_plan : sc.plan.nodes ≡ sc.config.nodes = is.system.plan_nodes in
    let in_use : c.args.seen.now.shown.now.head.nodes ≤ c.plan.result.now.nodes = omega arith in
    let long : c.plan.result.now.periods ≡ sc.plan.periods = ap (λ (p : Plan). p.periods) c.plan.ensures.plan in
    let of_run : sc.plan.periods ≡ sc.periods = is.plan_periods in
    let more = c.requires.in_run in
    let period : c.args.period < c.plan.result.now.periods = omega arith in
    (lit< tt, (lit< tt, (few, (in_use, period))))

pub returns : goal.returns
returns g c =
    let sc = c.args.scenario.now in
    let s = c.args.seen.now.shown.now in
    found_all sc c.args.period s _ (record {
      in_use = c.requires.fits.shape.nodes;
      shown = c.requires.shown;
      period = refl;
      nodes = refl;
      classes = refl;
      sound = c.sound_nodes.ensures;
      faulty = c.faulty_nodes.ensures;
      touched = c.touched_nodes.ensures ∙ ap (λ (plan : Plan). ids_where (λ j. not (is_clean plan c.args.period j)) s.head.nodes) c.plan.ensures.plan;
      members = refl;
      charged = c.charged_nodes.ensures;
      left = λ j. c.left_nodes.ensures j ∙ ap (λ (o : Option (List ℕ)). is_left s.head.members o j) c.members_after-after.ensures;
      joined = λ j. c.joined_nodes.ensures j ∙ ap (λ (o : Option (List ℕ)). is_joined s.head.members o j) c.members_after-after.ensures;
    })

pub plan-requires : goal.plan-requires
plan-requires g c = (elim g.bound-1.eight_or_sixteen [ inl e ↦ rw e (lit< tt) | inr e ↦ rw e (lit< tt) ], lit< tt)

pub invariant_of-result : goal.invariant_of-result
invariant_of-result g c = record {
  early = omega (arith, c.requires.in_run, c.requires.fits.scenario.few_periods);
  few = rw c.requires.fits.shape.nodes c.requires.fits.scenario.system.config.few_nodes;
  small = elim g.bound-1.eight_or_sixteen [ inl e ↦ rw e (lit≤ tt) | inr e ↦ rw e (lit≤ tt) ];
}
