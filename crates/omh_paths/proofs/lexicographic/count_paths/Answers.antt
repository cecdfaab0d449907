use Rattle.std.proofs.Common.{sym, ap, ◌∙◌}
use Rattle.std.proofs.lemmas.List.FromFn.{length-range_with_len}
use Rattle.node_grid.specs.NodeSet.{ids_below}
use Rattle.omh_paths.specs.Paths.{path_count}
use Rattle.omh_paths.specs.PathLists.{length-paths}
use Rattle.omh_paths.specs.MemberLaws.{Distinct-ids_below}
use Rattle.omh_paths.proofs.lexicographic.count_paths.Goals as goal

pub returns-clause-number : goal.returns-clause-number
returns-clause-number c =
    c.product.ensures ∙ ap (λ n. path_count n c.args.len) (sym (length-range_with_len 0 c.args.k)) ∙ sym (length-paths (ids_below c.args.k) c.args.len (Distinct-ids_below c.args.k))
