use Rattle.std.proofs.Common.{ℕ, ◌≡◌, ◌<◌, ◌+◌, List, true, length, length-set, sym, ap, subst, ◌∙◌, inl, inr, lit<, arith}
use Rattle.std.specs.Prelude.{is_some}
use Rattle.node_grid.specs.NodeSet.{has_id}
use Rattle.node_grid.specs.NodeSetLaws.{has-filter}
use Rattle.shared_states.specs.Sharing.{state_at}
use Rattle.agreed_state.specs.declared.config.Config.{Config}
use Rattle.shown_period.specs.declared.made.Made.{Made}
use Rattle.at_once.specs.Course.{AreLeft}
use Rattle.at_once.proofs.Hearings.{none_left, awake_stays, cold_left}
use Rattle.at_once.proofs.period.Period.leave_cold.Goals.{then-not-has, else-not-has}
use Rattle.at_once.proofs.period.Period.leave_cold.Goals as goal

pub loop-i-init : goal.loop-i-init
loop-i-init g c = record { left = none_left c.args.made.now c.requires; groups = omega arith; rows = omega arith }

pub loop-i-preserved : goal.loop-i-preserved
loop-i-preserved g c =
    let old = c.args.made.now in
    let i : ℕ = c.loop-i.i in
    let m = c.loop-i.invariant in
    let nodes = ap (λ (x : Config g.row.N). x.nodes) c.config.ensures.config in
    let few = c.config.ensures.scenario.system.config.few_nodes in
    let low : i < g.row.N = omega (arith, nodes, few, c.loop-i-test.true) in
    elim c.if-not-has.branch [
      | then-not-has w ↦ record {
        left = subst (λ (x : Made g.row.N). AreLeft (i + 1) old x) (sym w.made-is)
            (cold_left old i c.loop-i.made w.leave.new.self low m.groups m.rows w.leave.ensures.nothing w.leave.ensures.group w.leave.ensures.found w.leave.ensures.places
            w.leave.ensures.many w.leave.ensures.states w.leave.ensures.modes w.leave.ensures.members w.leave.ensures.sync m.left);
        groups = ap (λ (x : Made g.row.N). length x.group) w.made-is ∙ ap length w.leave.ensures.group ∙ length-set c.loop-i.made.group i _ ∙ m.groups;
        rows = ap (λ (x : Made g.row.N). length x.found) w.made-is ∙ ap length w.leave.ensures.found ∙ length-set c.loop-i.made.found i _ ∙ m.rows;
      }
      | else-not-has w ↦
          let on : is_some (state_at old.states i) ≡ true =
          sym (has-filter (λ j. is_some (state_at old.states j)) g.row.N i low) ∙ ap (λ (xs : List ℕ). has_id xs i) (sym c.awake-awake.ensures.nodes) ∙ sym c.has.ensures ∙ w.if-not-has.false in record {
            left = subst (λ (x : Made g.row.N). AreLeft (i + 1) old x) (sym w.made-is) (awake_stays old i c.loop-i.made on m.left);
            groups = ap (λ (x : Made g.row.N). length x.group) w.made-is ∙ m.groups;
            rows = ap (λ (x : Made g.row.N). length x.found) w.made-is ∙ m.rows;
          }
    ]

pub returns : goal.returns
returns g c =
    let nodes : c.config.result.now.nodes ≡ c.args.self.now.scenario.now.config.nodes = ap (λ (x : Config g.row.N). x.nodes) c.config.ensures.config in
    let end : c.loop-i.i ≡ c.args.self.now.scenario.now.config.nodes = omega (arith, nodes, c.loop-i-test.false, c.loop-i.auto.i-end) in
    subst (λ (i : ℕ). AreLeft i c.args.made.now c.loop-i.made) end c.loop-i.invariant.left

pub config-requires : goal.config-requires
config-requires g c = elim g.bound-1.eight_or_sixteen [ inl e ↦ rw e (lit< tt, lit< tt) | inr e ↦ rw e (lit< tt, lit< tt) ]

pub awake-awake-requires : goal.awake-awake-requires
awake-awake-requires g c = elim g.bound-1.eight_or_sixteen [ inl e ↦ rw e (lit< tt, lit< tt) | inr e ↦ rw e (lit< tt, lit< tt) ]

pub leave-requires : goal.leave-requires
leave-requires g c =
    let nodes = ap (λ (x : Config g.row.N). x.nodes) c.config.ensures.config in
    let few = c.config.ensures.scenario.system.config.few_nodes in
    (elim g.bound-1.eight_or_sixteen [ inl e ↦ rw e (lit< tt) | inr e ↦ rw e (lit< tt) ], (omega (arith, nodes, few, c.loop-i-test.true), c.loop-i.invariant.left.beliefs))
