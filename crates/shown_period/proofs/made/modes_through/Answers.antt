use Rattle.std.proofs.Common.{ℕ, ◌≡◌, ◌<◌, length, length-set, ap₂, ◌∙◌, arith}
use Rattle.std.proofs.lemmas.List.Edits.{fill_by_more}
use Rattle.std.proofs.lemmas.List.FromFn.{fill_by_all}
use Rattle.node_grid.specs.NodeSet.{has_id}
use Rattle.node_core.specs.declared.outcome.Mode.TheVariants.{Cold}
use Rattle.shared_states.specs.Sharing.{state_at}
use Rattle.shown_period.specs.Outcomes.{mode_with}
use Rattle.shown_period.proofs.made.modes_through.Goals as goal

pub loop-i-preserved : goal.loop-i-preserved
loop-i-preserved g c =
    let within : c.loop-i.i < length c.loop-i.modes = omega (arith, c.loop-i.invariant.0, c.loop-i-test.true) in
    let is : c.mode_with.result ≡ mode_with (has_id c.args.full.now c.loop-i.i) (state_at c.args.states.now c.loop-i.i) = c.mode_with.ensures ∙ ap₂ mode_with c.has.ensures c.get.ensures in
    rw is
    (length-set _ _ _ ∙ c.loop-i.invariant.0, fill_by_more (λ (i : ℕ). mode_with (has_id c.args.full.now i) (state_at c.args.states.now i)) c.loop-i.modes c.loop-i.i Cold within c.loop-i.invariant.1)

pub returns : goal.returns
returns g c =
    fill_by_all (λ (i : ℕ). mode_with (has_id c.args.full.now i) (state_at c.args.states.now i)) c.loop-i.modes g.row.N Cold c.loop-i.invariant.0
    (λ k h. c.loop-i.invariant.1 k (omega (arith, c.loop-i-test.false)))
