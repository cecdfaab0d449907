-- For a loop that builds a set of the nodes in use.
use Rattle.node_grid.specs.NodeSetLaws.{ids_where-within}

pub ruleset of_nodes = (ids_where-within)
