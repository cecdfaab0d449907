use Rattle.std.proofs.Common.{ℕ, ◌≡◌, ◌<◌, true, false, ap, sym, subst, ◌∙◌, inl, inr, lit<}
use Rattle.std.proofs.lemmas.Bool.{cond-true, cond-false}
use Rattle.fault_classes.specs.Plan.{restarts_at}
use Rattle.node_steps.specs.Steps.{restarted}
use Rattle.cluster_step.proofs.beginning.wake.Goals as goal

pub me-requires : goal.me-requires
me-requires g c = elim g.bound-1.eight_or_sixteen [ inl e ↦ rw e (lit< tt) | inr e ↦ rw e (lit< tt) ]

pub restarts-requires : goal.restarts-requires
restarts-requires g c = (lit< tt, (subst (λ (k : ℕ). k < c.args.plan.now.nodes) (sym c.me.ensures) c.requires.resting.me, c.requires.period))

pub restart-requires : goal.restart-requires
restart-requires g c = (elim g.bound-1.eight_or_sixteen [ inl e ↦ rw e (lit< tt) | inr e ↦ rw e (lit< tt) ], c.requires.resting.shut)

pub returns-then-restarts : goal.returns-then-restarts
returns-then-restarts g c =
    let v = c.args.node.now in
    let told : restarts_at c.args.plan.now v.phase.me c.args.period ≡ true = ap (λ (k : ℕ). restarts_at c.args.plan.now k c.args.period) (sym c.me.ensures) ∙ sym c.restarts.ensures ∙ c.if-restarts.true in
    c.restart.ensures ∙ sym (cond-true (restarts_at c.args.plan.now v.phase.me c.args.period) (restarted v) v told)

pub returns-else-restarts : goal.returns-else-restarts
returns-else-restarts g c =
    let v = c.args.node.now in
    let told : restarts_at c.args.plan.now v.phase.me c.args.period ≡ false = ap (λ (k : ℕ). restarts_at c.args.plan.now k c.args.period) (sym c.me.ensures) ∙ sym c.restarts.ensures ∙ c.if-restarts.false in
    sym (cond-false (restarts_at c.args.plan.now v.phase.me c.args.period) (restarted v) v told)
