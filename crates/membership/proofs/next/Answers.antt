use Rattle.std.proofs.Common.{◌≡◌, ℕ, Bool, length, get_or, refl, sym, ap, ◌∙◌, arith, rules}
use Rattle.node_grid.specs.NodeSet.{with_id, ids_where}
use Rattle.node_grid.specs.NodeSetLaws.{ids_where_more_yes, ids_where_more_no, ids_where-within}
use Rattle.penalty.specs.StepLaws.{for_nodes-none, for_nodes-more, for_nodes-past}
use Rattle.membership.specs.Members.{stays, leaves, times_after, left_after}
use Rattle.membership.proofs.Staying.{leaves-not_stays}
use Rattle.membership.proofs.next.Goals as goal
use Rattle.membership.proofs.next.Goals.{then-stays, else-stays}

pub loop-node-init : goal.loop-node-init
loop-node-init g c = record { members = search rules; left = sym (for_nodes-none _ _) }

pub loop-node-preserved : goal.loop-node-preserved
loop-node-preserved g c =
    let policy = c.args.policy.now in
    let members = c.args.members.now in
    let count : ℕ → ℕ = λ j. get_or c.args.counts.now.counts j 0 in
    let times : ℕ → ℕ = λ j. get_or c.args.left.now.times j 0 in
    let p : ℕ → Bool = stays policy members count times in
    let i = c.loop-node.node in
    let long : length c.args.left.now.times ≡ g.row.N = search rules in
    let before : get_or c.loop-node.left.times i 0 ≡ times i = ap (λ xs. get_or xs i 0) c.loop-node.invariant.left ∙ for_nodes-past i _ c.args.left.now.times i (omega arith) in
    let found : c.stays-stays.result ≡ p i = c.stays-stays.ensures ∙ rw (c.has-was.ensures, c.all_would_leave-all_leave.ensures, before) refl in
    let here : c.times_after.result ≡ times_after policy (leaves policy members count i) (times i) =
    c.times_after.ensures ∙ rw (c.has-was.ensures, found, before, leaves-not_stays policy members count times i) refl in
    record {
      members = elim c.if-stays.branch [
        | then-stays w ↦
            w.next-is ∙ w.put.ensures ∙ ap (λ s. with_id g.row.N s i) c.loop-node.invariant.members ∙ sym (ids_where_more_yes p g.row.N i (sym found ∙ w.if-stays.true))
        | else-stays w ↦ w.next-is ∙ c.loop-node.invariant.members ∙ sym (ids_where_more_no p g.row.N i (sym found ∙ w.if-stays.false))
      ];
      left = rw (c.loop-node.invariant.left, here) (sym (for_nodes-more i _ c.args.left.now.times (omega arith)));
    }

pub returns-clause-members : goal.returns-clause-members
returns-clause-members g c =
    let p : ℕ → Bool = stays c.args.policy.now c.args.members.now (λ j. get_or c.args.counts.now.counts j 0) (λ j. get_or c.args.left.now.times j 0) in
    let last : c.loop-node.node ≡ c.args.nodes = omega arith in
    c.loop-node.invariant.members ∙ ids_where-within p g.row.N c.loop-node.node (omega arith) ∙ ap (ids_where p) last

pub returns-clause-left : goal.returns-clause-left
returns-clause-left g c =
    let last : c.loop-node.node ≡ c.args.nodes = omega arith in
    c.loop-node.invariant.left ∙ ap (λ n. left_after c.args.policy.now n c.args.members.now (λ j. get_or c.args.counts.now.counts j 0) c.args.left.now.times) last
