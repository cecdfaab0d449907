use Rattle.std.proofs.Common.{◌≡◌, ◌<◌, ℕ, List, [], Option, length, inl, inr, sym, ap, subst, ◌∙◌, arith}
use Rattle.std.proofs.lemmas.Bool.{cases_eq}
use Rattle.std.proofs.lemmas.Option.{same_Some}
use Rattle.node_grid.specs.NodeSet.{with_id}
use Rattle.agreed_state.specs.Agreed.{AgreedView, IsAgreed}
use Rattle.shared_states.specs.Sharing.{state_at, with_state}
use Rattle.heard_states.proofs.Given.{given_own, given_other, given_long}
use Rattle.heard_states.proofs.slot.SyncSlot.adopt_told.Goals as goal

pub returns-in-Some-clause-own : goal.returns-in-Some-clause-own
returns-in-Some-clause-own g c =
    let n = g.row.N in
    let v = c.args.states.now in
    let i = c.args.i in
    let a = c.in-Some.state in
    let few = c.requires.senders.slot_is.config.few_nodes in
    let used = c.requires.node in
    let low : i < n = omega arith in
    let is : c.replace.new.self ≡ with_state n v (with_id n [] i) a = c.replace.ensures ∙ ap (λ (s : List ℕ). with_state n v s a) (c.put.ensures ∙ ap (λ (s : List ℕ). with_id n s i) c.empty-one.ensures) in
    ap (λ (w : List (Option AgreedView)). state_at w i) is ∙ given_own n v i a low c.requires.senders.long ∙ c.in-Some.ensures.adopted

pub returns-in-Some-clause-others : goal.returns-in-Some-clause-others
returns-in-Some-clause-others g c = λ j other.
    let n = g.row.N in
    let v = c.args.states.now in
    let i = c.args.i in
    let a = c.in-Some.state in
    let few = c.requires.senders.slot_is.config.few_nodes in
    let used = c.requires.node in
    let low : i < n = omega arith in
    let is : c.replace.new.self ≡ with_state n v (with_id n [] i) a = c.replace.ensures ∙ ap (λ (s : List ℕ). with_state n v s a) (c.put.ensures ∙ ap (λ (s : List ℕ). with_id n s i) c.empty-one.ensures) in
    ap (λ (w : List (Option AgreedView)). state_at w j) is ∙ given_other n v i a low c.requires.senders.long j other

pub returns-in-Some-clause-agreed : goal.returns-in-Some-clause-agreed
returns-in-Some-clause-agreed g c = λ j b e.
    let n = g.row.N in
    let v = c.args.states.now in
    let i = c.args.i in
    let a = c.in-Some.state in
    let few = c.requires.senders.slot_is.config.few_nodes in
    let used = c.requires.node in
    let low : i < n = omega arith in
    let is : c.replace.new.self ≡ with_state n v (with_id n [] i) a = c.replace.ensures ∙ ap (λ (s : List ℕ). with_state n v s a) (c.put.ensures ∙ ap (λ (s : List ℕ). with_id n s i) c.empty-one.ensures) in
    let at = ap (λ (w : List (Option AgreedView)). state_at w j) (sym is) ∙ e in
    elim (cases_eq j i) [
      | inl same ↦ subst (λ (x : AgreedView). IsAgreed n c.args.self.now.config.now x) (same_Some a b (sym (ap (state_at (with_state n v (with_id n [] i) a)) same ∙ given_own n v i a low c.requires.senders.long) ∙ at)) c.in-Some.ensures.agreed
      | inr other ↦ c.requires.senders.agreed j b (sym (given_other n v i a low c.requires.senders.long j other) ∙ at)
    ]

pub returns-in-Some-clause-long : goal.returns-in-Some-clause-long
returns-in-Some-clause-long g c =
    let n = g.row.N in
    let v = c.args.states.now in
    let i = c.args.i in
    let a = c.in-Some.state in
    let few = c.requires.senders.slot_is.config.few_nodes in
    let used = c.requires.node in
    let low : i < n = omega arith in
    ap length (c.replace.ensures ∙ ap (λ (s : List ℕ). with_state n v s a) (c.put.ensures ∙ ap (λ (s : List ℕ). with_id n s i) c.empty-one.ensures)) ∙ given_long n v i a low c.requires.senders.long
