use Rattle.std.proofs.Common.{◌≡◌, ◌==◌, Bool, true, false, not, refl, sym, ap, subst, ◌∙◌, inl, inr, arith}
use Rattle.std.specs.Cmp.Lexicographic.{pointwise}
use Rattle.std.proofs.lemmas.Bool.{cases_eq, both_ways}
use Rattle.std.proofs.lemmas.Slice.Eq.{bytes_eq-Decides}
use Rattle.node_grid.specs.NodeSet.{has_id, IsIdSet}
use Rattle.heard_links.specs.Talks.{members_at}
use Rattle.item_phase.proofs.agreeing.members_of_all.Goals as goal
use Rattle.item_phase.proofs.agreeing.members_of_all.Goals.{else-has-via-then-has+else-ne, else-has-via-else-has}

same_of : (b r : Bool) → r ≡ not b → r ≡ false → b ≡ true
same_of true r e f = refl
same_of false r e f = absurd (both_ways r f e)

pub loop-i-preserved : goal.loop-i-preserved
loop-i-preserved g c = λ k low on.
    let x = c.args.phase.now in
    let first = c.members_of-members.result in
    elim (cases_eq k c.loop-i.i) [
      | inl e ↦ elim c.else-has.branch [
        | else-has-via-then-has+else-ne w ↦
            ap (pointwise ◌==◌ first) (ap (members_at x) e ∙ sym w.members_of.ensures) ∙ same_of (pointwise ◌==◌ first w.members_of.result) w.ne.result w.ne.ensures w.if-ne.false
        | else-has-via-else-has w ↦ absurd (both_ways _ (sym c.has.ensures ∙ w.if-has.false) (ap (has_id x.awake) (sym e) ∙ on))
      ]
      | inr ne ↦ c.loop-i.invariant k (omega (arith, low, ne)) on
    ]

pub returns : goal.returns
returns g c =
    let x = c.args.phase.now in
    let s = c.requires in
    record {
      ids = subst (IsIdSet x.config.now.nodes) (sym c.members_of-members.ensures) (s.members c.in-Some.first);
      same = λ i on.
          let low = s.awake i on in
          let end = c.loop-i-test.false in
          sym ((bytes_eq-Decides c.members_of-members.result (members_at x i)).0 (c.loop-i.invariant i (omega arith) on));
    }
