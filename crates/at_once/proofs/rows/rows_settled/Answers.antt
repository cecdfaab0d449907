use Rattle.std.proofs.Common.{ℕ, ◌≡◌, ◌==◌, true, List, Option, None, Some, sym, ap, subst, ◌∙◌, lit<, inl, inr, arith}
use Rattle.std.specs.Cmp.Lexicographic.{pointwise}
use Rattle.std.proofs.lemmas.Bool.{cond-true, cond-false}
use Rattle.std.proofs.lemmas.List.FromFn.{fill_by_all}
use Rattle.node_grid.specs.Capacity.{IsCapacity}
use Rattle.node_grid.specs.NodeSet.{has_id}
use Rattle.omh_paths.specs.declared.wrapped.Wrapped.{Wrapped}
use Rattle.protocol.specs.Arrival.{row_form}
use Rattle.protocol.specs.Settled.{plain}
use Rattle.heard_links.specs.Talks.{members_at}
use Rattle.at_once.specs.Phases.{node_item, node_settles}
use Rattle.at_once.proofs.Filled.{IsFilledBelow, settled_none, settled_one, settled_not}
use Rattle.at_once.proofs.rows.rows_settled.Goals.{then-has+in-Plain, then-has+in_default, else-has}
use Rattle.at_once.proofs.rows.rows_settled.Goals as goal

pub returns : goal.returns
returns g c =
    fill_by_all (node_item (pointwise ◌==◌) row_form c.args.phase.now c.args.rows.now c.args.i) c.loop-c.settled g.row.N None c.loop-c.invariant.wide
    (λ k h. c.loop-c.invariant.so_far k (let t = c.loop-c-test.false in omega arith))

pub loop-c-init : goal.loop-c-init
loop-c-init g c =
    let item : ℕ → Option (List ℕ) = node_item (pointwise ◌==◌) row_form c.args.phase.now c.args.rows.now c.args.i in
    subst (IsFilledBelow g.row.N None item 0) (sym c.empty-settled.ensures) (settled_none g.row.N None item)

pub settled-requires : goal.settled-requires
settled-requires g c =
    let cap : IsCapacity g.row.N = g.bound-1.eight_or_sixteen in
    let member : has_id (members_at c.args.phase.now c.args.i) c.loop-c.c ≡ true = sym (c.has.ensures ∙ ap (λ (ms : List ℕ). has_id ms c.loop-c.c) c.members_at-members.ensures) ∙ c.if-has.true in
    (elim cap [ inl e ↦ rw e (lit< tt) | inr e ↦ rw e (lit< tt) ], (elim cap [ inl e ↦ rw e (lit< tt) | inr e ↦ rw e (lit< tt) ], (c.requires.settled, (c.requires.node, member))))

pub loop-c-preserved : goal.loop-c-preserved
loop-c-preserved g c =
    let x = c.args.phase.now in
    let s = c.args.rows.now in
    let i : ℕ = c.args.i in
    let k : ℕ = c.loop-c.c in
    let item : ℕ → Option (List ℕ) = node_item (pointwise ◌==◌) row_form x s i in
    let settles : Wrapped (List ℕ) = node_settles (pointwise ◌==◌) row_form x s i k in
    let is : c.has.result ≡ has_id (members_at x i) k = c.has.ensures ∙ ap (λ (ms : List ℕ). has_id ms k) c.members_at-members.ensures in
    elim c.if-has.branch [
      | then-has+in-Plain w ↦
          settled_one g.row.N None item k c.loop-c.settled _ (Some w.in-Plain.row) c.loop-c-test.true (w.settled-is ∙ w.set.ensures.rows)
          (ap plain (sym w.in-Plain.is ∙ w.settled.ensures) ∙ sym (cond-true (has_id (members_at x i) k) (plain settles) None (sym is ∙ w.if-has.true)))
          c.loop-c.invariant
      | then-has+in_default w ↦
          settled_not g.row.N None item k c.loop-c.settled _ w.settled-is
          (cond-true (has_id (members_at x i) k) (plain settles) None (sym is ∙ w.if-has.true) ∙ ap plain (sym w.settled.ensures ∙ w.in_default.is))
          c.loop-c.invariant
      | else-has w ↦
          settled_not g.row.N None item k c.loop-c.settled _ w.settled-is (cond-false (has_id (members_at x i) k) (plain settles) None (sym is ∙ w.if-has.false)) c.loop-c.invariant
    ]
