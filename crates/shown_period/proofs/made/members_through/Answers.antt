use Rattle.std.proofs.Common.{ℕ, ◌<◌, [], length, length-set, ◌∙◌, arith}
use Rattle.std.proofs.lemmas.List.Edits.{fill_by_more}
use Rattle.std.proofs.lemmas.List.FromFn.{fill_by_all}
use Rattle.protocol.specs.Run.{members_in}
use Rattle.shared_states.specs.Sharing.{state_at}
use Rattle.shown_period.proofs.made.members_through.Goals as goal

pub loop-i-preserved : goal.loop-i-preserved
loop-i-preserved g c =
    let within : c.loop-i.i < length c.loop-i.members = omega (arith, c.loop-i.invariant.0, c.loop-i-test.true) in
    rw c.members_in.ensures
    (length-set _ _ _ ∙ c.loop-i.invariant.0, fill_by_more (λ (i : ℕ). members_in (state_at c.args.states.now i)) c.loop-i.members c.loop-i.i [] within c.loop-i.invariant.1)

pub returns : goal.returns
returns g c =
    fill_by_all (λ (i : ℕ). members_in (state_at c.args.states.now i)) c.loop-i.members g.row.N [] c.loop-i.invariant.0
    (λ k h. c.loop-i.invariant.1 k (omega (arith, c.loop-i-test.false)))
