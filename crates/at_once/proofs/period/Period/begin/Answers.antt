use Rattle.std.proofs.Common.{ℕ, ◌≡◌, ◌<◌, ap, subst, inl, inr, lit<, arith}
use Rattle.agreed_state.specs.declared.config.Config.{Config}
use Rattle.view_law.proofs.Keeping.{first_is, next_is}
use Rattle.at_once.proofs.Making.{goes_is}
use Rattle.at_once.proofs.Beginnings.{AreBeginning, none_begun, one_begun, all_begun}
use Rattle.at_once.proofs.period.Period.begin.Goals as goal

pub returns : goal.returns
returns g c =
    let sc = c.args.self.now.scenario.now in
    let p : ℕ = c.args.self.now.number in
    let nodes : c.config.result.now.nodes ≡ sc.config.nodes = ap (λ (x : Config g.row.N). x.nodes) c.config.ensures.config in
    let done : c.loop-i.i ≡ sc.config.nodes = omega (arith, nodes, c.loop-i.auto.i-end, c.loop-i-test.false) in
    all_begun sc p c.args.states.now c.args.keeping.now c.loop-i.states c.loop-i.keeping c.requires
    (subst (λ (i : ℕ). AreBeginning sc p c.args.states.now c.args.keeping.now i c.loop-i.states c.loop-i.keeping) done c.loop-i.invariant)
    (goes_is first_is next_is sc p)

pub config-requires : goal.config-requires
config-requires g c = elim g.bound-1.eight_or_sixteen [ inl e ↦ rw e (lit< tt, lit< tt) | inr e ↦ rw e (lit< tt, lit< tt) ]

pub loop-i-init : goal.loop-i-init
loop-i-init g c = none_begun c.args.self.now.scenario.now c.args.self.now.number c.args.states.now c.args.keeping.now c.requires.shaped.many

pub loop-i-preserved : goal.loop-i-preserved
loop-i-preserved g c =
    one_begun c.args.self.now.scenario.now c.args.self.now.number c.args.states.now c.args.keeping.now c.loop-i.i c.loop-i.states c.loop-i.keeping c.begin_at.new.states c.begin_at.new.keeping c.begin_at.ensures c.loop-i.invariant

pub begin_at-requires : goal.begin_at-requires
begin_at-requires g c =
    let nodes = ap (λ (x : Config g.row.N). x.nodes) c.config.ensures.config in
    let low : c.loop-i.i < c.args.self.now.scenario.now.config.nodes = omega (arith, nodes, c.loop-i-test.true) in
    (lit< tt, (elim g.bound-1.eight_or_sixteen [ inl e ↦ rw e (lit< tt) | inr e ↦ rw e (lit< tt) ], (elim g.bound-1.eight_or_sixteen [ inl e ↦ rw e (lit< tt) | inr e ↦ rw e (lit< tt) ], low)))
