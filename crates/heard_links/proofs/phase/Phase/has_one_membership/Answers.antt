use borrow.Author.Count.{below_more}
use Rattle.std.proofs.Common.{ℕ, ◌≡◌, ◌==◌, true, sym, ◌∙◌, inl, inr, arith, lit<}
use Rattle.std.proofs.lemmas.Bool.{both_ways}
use Rattle.std.specs.Cmp.Lexicographic.{pointwise}
use Rattle.node_grid.specs.NodeSet.{has_id}
use Rattle.node_grid.specs.ListFacts.{same_list}
use Rattle.heard_links.specs.Talks.{members_at}
use Rattle.heard_links.proofs.Sets.{none_first, node_low}
use Rattle.heard_links.proofs.phase.Phase.has_one_membership.Goals as goal
use Rattle.heard_links.proofs.phase.Phase.has_one_membership.Goals.{else-has-via-then-has+else-not-has_same_members, else-has-via-else-has}

pub returns-in_default : goal.returns-in_default
returns-in_default g c = λ _ i j on_i on_j. absurd (none_first c.args.self.now.awake i c.in_default.ensures.first on_i)

pub has_same_members-requires : goal.has_same_members-requires
has_same_members-requires g c = (elim c.requires.capacity [ inl e ↦ rw e (lit< tt) | inr e ↦ rw e (lit< tt) ], (c.in-Some.ensures.within, node_low c.args.self.now c.requires c.loop-i.i c.loop-i-test.true))

pub returns-then-not-has_same_members : goal.returns-then-not-has_same_members
returns-then-not-has_same_members g c = λ e. cc

pub returns : goal.returns
returns g c = λ _ i j on_i on_j.
    let x = c.args.self.now in
    let same = λ (k : ℕ) (on : has_id x.awake k ≡ true). same_list (members_at x c.in-Some.first) (members_at x k) (c.loop-i.invariant k (omega (arith, c.requires.awake k on, c.loop-i-test.false)) on) in
    sym (same i on_i) ∙ same j on_j

pub loop-i-preserved : goal.loop-i-preserved
loop-i-preserved g c =
    let x = c.args.self.now in
    below_more (λ k. has_id x.awake k ≡ true → pointwise ◌==◌ (members_at x c.in-Some.first) (members_at x k) ≡ true) c.loop-i.i c.loop-i.invariant
    (λ on. elim c.else-has.branch [
      | else-has-via-then-has+else-not-has_same_members w ↦ sym w.has_same_members.ensures ∙ w.if-not-has_same_members.false
      | else-has-via-else-has w ↦ absurd (both_ways _ (sym c.has.ensures ∙ w.if-has.false) on)
    ])
