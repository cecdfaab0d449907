use Rattle.std.proofs.Common.{◌≡◌, Some, None, sym, ap, ◌∙◌}
use Rattle.agreed_state.specs.Agreed.{AgreedView}
use Rattle.protocol.specs.Run.{members_in}
use Rattle.shown_period.specs.Whole.{record_of}
use Rattle.storm_sum.specs.Summary.{state_after, counts_in}
use Rattle.storm_sum.proofs.Summing.{after_shown}
use Rattle.storm_sum.proofs.sums.state_after.Goals as goal

pub returns-in-None-clause-members : goal.returns-in-None-clause-members
returns-in-None-clause-members c =
    let none : state_after (record_of c.args.shown.now) ≡ None = after_shown c.args.shown.now c.in-Some.node None c.in-Some.is (c.requires _ c.in-Some.is) (rw c.in-None.is at c.agreed.ensures) in
    c.empty-in-None.ensures ∙ sym (ap members_in none)

pub returns-in-None-clause-counts : goal.returns-in-None-clause-counts
returns-in-None-clause-counts c =
    let none : state_after (record_of c.args.shown.now) ≡ None = after_shown c.args.shown.now c.in-Some.node None c.in-Some.is (c.requires _ c.in-Some.is) (rw c.in-None.is at c.agreed.ensures) in
    c.zero-in-None.ensures.counts ∙ sym (ap counts_in none)

pub returns-in-Some-agreed-clause-members : goal.returns-in-Some-agreed-clause-members
returns-in-Some-agreed-clause-members c =
    let some : state_after (record_of c.args.shown.now) ≡ Some c.in-Some-agreed.agreed.now =
    after_shown c.args.shown.now c.in-Some.node (Some c.in-Some-agreed.agreed.now) c.in-Some.is (c.requires _ c.in-Some.is) (rw c.in-Some-agreed.is at c.agreed.ensures) in
    ap (λ (a : AgreedView). members_in (Some a)) c.agreed-in-Some-agreed.view_is ∙ sym (ap members_in some)

pub returns-in-Some-agreed-clause-counts : goal.returns-in-Some-agreed-clause-counts
returns-in-Some-agreed-clause-counts c =
    let some : state_after (record_of c.args.shown.now) ≡ Some c.in-Some-agreed.agreed.now =
    after_shown c.args.shown.now c.in-Some.node (Some c.in-Some-agreed.agreed.now) c.in-Some.is (c.requires _ c.in-Some.is) (rw c.in-Some-agreed.is at c.agreed.ensures) in
    ap (λ (a : AgreedView). counts_in (Some a)) c.agreed-in-Some-agreed.view_is ∙ sym (ap counts_in some)
