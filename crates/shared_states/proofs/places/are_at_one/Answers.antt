use Rattle.std.proofs.Common.{◌≡◌, ◌<◌, ℕ, true, sym, ◌∙◌, arith}
use Rattle.node_grid.specs.NodeSet.{has_id}
use Rattle.node_grid.specs.SetFacts.{member-lt}
use Rattle.shared_states.proofs.places.are_at_one.Goals as goal

pub returns : goal.returns
returns g c = λ said i j on other.
    let nodes = c.args.nodes.now in
    let in_loop : (k : ℕ) → has_id nodes k ≡ true → k < c.loop-node.node = λ k up. omega (arith, member-lt g.row.N nodes k c.requires.ids up, c.loop-node-test.false) in
    c.loop-node.invariant j (in_loop j other) other ∙ sym (c.loop-node.invariant i (in_loop i on) on)
