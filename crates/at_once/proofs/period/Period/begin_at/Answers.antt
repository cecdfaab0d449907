use Rattle.std.proofs.Common.{◌≡◌, ◌<◌, List, Option, ℤ, length, length-set, replicate, None, ◌∙◌, sym, ap, inl, inr, lit<, arith}
use Rattle.fault_classes.specs.Plan.{Plan, restarts_at}
use Rattle.at_once.proofs.Beginnings.{begun_anew}
use Rattle.at_once.proofs.period.Period.begin_at.Goals as goal

pub returns-then-restarts : goal.returns-then-restarts
returns-then-restarts g c =
    let low : c.args.i < g.row.N = (let few = c.plan.ensures.scenario.system.config.few_nodes in let used = c.requires in omega arith) in
    let left = c.forget-then-restarts.ensures in
    let votes : length c.args.keeping.now.votes ≡ g.row.N =
    sym (length-set c.args.keeping.now.votes c.args.i (replicate 8 None)) ∙ sym (ap (λ (vs : List (List (Option ℤ))). length vs) left.votes) ∙ left.many in
    begun_anew c.args.self.now.scenario.now c.args.self.now.number c.args.i c.args.states.now c.args.keeping.now c.forget.new.self c.forget-then-restarts.new.self
    (ap (λ (x : Plan). restarts_at x c.args.i c.args.self.now.number) (sym c.plan.ensures.plan) ∙ sym c.restarts.ensures ∙ c.if-restarts.true)
    low c.awake.ensures.length (omega arith) votes (omega arith) c.forget.ensures left.notes left.votes left.owns

pub awake-requires : goal.awake-requires
awake-requires g c = elim g.bound-1.eight_or_sixteen [ inl e ↦ rw e (lit< tt, lit< tt) | inr e ↦ rw e (lit< tt, lit< tt) ]

pub plan-requires : goal.plan-requires
plan-requires g c = elim g.bound-1.eight_or_sixteen [ inl e ↦ rw e (lit< tt, lit< tt) | inr e ↦ rw e (lit< tt, lit< tt) ]

pub forget-requires : goal.forget-requires
forget-requires g c = (elim g.bound-1.eight_or_sixteen [ inl e ↦ rw e (lit< tt) | inr e ↦ rw e (lit< tt) ], (let few = c.plan.ensures.scenario.system.config.few_nodes in let used = c.requires in omega arith))

pub forget-requires-then-restarts : goal.forget-requires-then-restarts
forget-requires-then-restarts g c = (elim g.bound-1.eight_or_sixteen [ inl e ↦ rw e (lit< tt) | inr e ↦ rw e (lit< tt) ], (let few = c.plan.ensures.scenario.system.config.few_nodes in let used = c.requires in omega arith))

pub next_period-requires : goal.next_period-requires
next_period-requires g c = elim g.bound-1.eight_or_sixteen [ inl e ↦ rw e (lit< tt) | inr e ↦ rw e (lit< tt) ]

pub bounds-keeping-i : goal.bounds-keeping-i
bounds-keeping-i g c = let few = c.plan.ensures.scenario.system.config.few_nodes in let used = c.requires in omega arith
