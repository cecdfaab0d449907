use Rattle.std.proofs.Common.{sym, ◌∙◌}
use Rattle.node_grid.specs.NodeSet.{has_id}
use Rattle.node_grid.specs.ListFacts.{same_list}
use Rattle.heard_links.specs.Talks.{members_at}
use Rattle.heard_links.proofs.Places.{placed_in, source_same}
use Rattle.heard_links.proofs.Sets.{few_nodes}
use Rattle.heard_links.proofs.phase.Phase.source.Goals as goal

pub returns-then-has_same_members : goal.returns-then-has_same_members
returns-then-has_same_members g c =
    let x = c.args.self.now in
    let s = c.requires.read.set in
    sym (source_same (has_id x.full c.args.q) (members_at x c.args.q) (members_at x c.args.i) c.args.q c.args.front.now (sym c.has.ensures ∙ c.if-not-has.false)
    (same_list (members_at x c.args.q) (members_at x c.args.i) (sym c.has_same_members.ensures ∙ c.if-has_same_members.true))
    (placed_in x.config.now.nodes (few_nodes x s) (members_at x c.args.i) (s.members c.args.i) c.args.q c.requires.read.member c.args.front.now c.requires.distinct c.requires.read.within))
