use Rattle.std.proofs.Common.{◌≡◌, map, subst}
use Rattle.node_grid.specs.NodeSet.{without_id}
use Rattle.omh.specs.Heard.{Hearing, heard_paths}
use Rattle.relay_terms.specs.Terms.{said}
use Rattle.relay_table.specs.Tabled.{kept_nodes, kept_heard}
use Rattle.relay_table.proofs.Listed.{paths_of_entries}
use Rattle.relay_table.proofs.table.Table.members.Goals as goal

pub returns-clause-paths : goal.returns-clause-paths
returns-clause-paths g c =
    let s = c.self.inside.station in
    subst (λ (h : Hearing g.row.V.Denot). map (λ e. e.path) h.heard ≡ heard_paths h.members h.me h.rounds) c.self.view_is
    (paths_of_entries (kept_heard (kept_nodes s.rounds) (without_id s.members s.me) (map said c.self.inside.heard.items)) (heard_paths s.members s.me s.rounds))
