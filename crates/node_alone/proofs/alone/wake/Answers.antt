use Rattle.std.proofs.Common.{true, false, inl, inr, lit<}
use Rattle.node_alone.proofs.Stepped.{restart_places, restarting, wakes, sleeps}
use Rattle.node_alone.proofs.alone.wake.Goals as goal

pub scenario-requires : goal.scenario-requires
scenario-requires g c = (elim g.bound-1.eight_or_sixteen [ inl e ↦ rw e (lit< tt) | inr e ↦ rw e (lit< tt) ], elim g.bound-1.eight_or_sixteen [ inl e ↦ rw e (lit< tt) | inr e ↦ rw e (lit< tt) ])

pub plan-requires : goal.plan-requires
plan-requires g c = (elim g.bound-1.eight_or_sixteen [ inl e ↦ rw e (lit< tt) | inr e ↦ rw e (lit< tt) ], lit< tt)

pub id-requires : goal.id-requires
id-requires g c = elim g.bound-1.eight_or_sixteen [ inl e ↦ rw e (lit< tt) | inr e ↦ rw e (lit< tt) ]

pub restarts-requires : goal.restarts-requires
restarts-requires g c =
    (lit< tt, restart_places c.args.input.now c.id.ensures.log c.scenario.result.now c.scenario.ensures.scenario c.plan.result.now c.plan.ensures.plan c.id.result c.args.period c.id.ensures.id c.requires.period)

pub restart-requires : goal.restart-requires
restart-requires g c = (elim g.bound-1.eight_or_sixteen [ inl e ↦ rw e (lit< tt) | inr e ↦ rw e (lit< tt) ], c.requires.closed)

pub returns-then-restarts : goal.returns-then-restarts
returns-then-restarts g c =
    wakes c.args.input.now c.args.period c.args.node.now c.restart.new.self
    (restarting c.args.input.now c.scenario.result.now c.plan.result.now c.id.result c.args.period c.restarts.result true c.scenario.ensures.scenario c.plan.ensures.plan c.id.ensures.id c.restarts.ensures c.if-restarts.true)
    c.restart.ensures

pub returns-else-restarts : goal.returns-else-restarts
returns-else-restarts g c =
    sleeps c.args.input.now c.args.period c.args.node.now
    (restarting c.args.input.now c.scenario.result.now c.plan.result.now c.id.result c.args.period c.restarts.result false c.scenario.ensures.scenario c.plan.ensures.plan c.id.ensures.id c.restarts.ensures c.if-restarts.false)
