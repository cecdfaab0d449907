use Rattle.std.proofs.Common.{List, ℕ, ap, ◌∙◌, arith}
use Rattle.node_grid.specs.NodeSet.{has_id}
use Rattle.node_grid.specs.SetFacts.{member-lt, not_rest}
use Rattle.worked_chains.proofs.are_convicting.Goals as goal

pub without-others-requires : goal.without-others-requires
without-others-requires c = (omega arith, member-lt 16 c.args.item.now.phase.members c.args.item.now.commander c.len.ensures.ids c.args.item.now.member)

pub convicting-convicting-requires : goal.convicting-convicting-requires
convicting-convicting-requires c = (
  omega arith,
  (
    omega arith,
    ap (λ (s : List ℕ). has_id s c.args.item.now.commander) c.without-others.ensures ∙ not_rest c.args.drawn.now.awake c.args.item.now.commander,
  ),
)

pub loop-i-init : goal.loop-i-init
loop-i-init c = record { can = tt; ends = tt }

pub loop-i-preserved : goal.loop-i-preserved
loop-i-preserved c = record { can = tt; ends = tt }
