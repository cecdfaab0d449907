use Rattle.std.proofs.Common.{◌==◌, ◌%◌, ap, ◌∙◌, refl, arith, eq-eqb}
use Rattle.std.proofs.lemmas.Bool.{or_left}
use Rattle.node_grid.specs.NodeSet.{has_id}
use Rattle.node_grid.specs.NodeSetLaws.{has-with_id}
use Rattle.worked_paths.proofs.item.Item.draw.Goals as goal

pub invariant_of-result : goal.invariant_of-result
invariant_of-result c =
    let id = c.next.result % 8 in
    record {
      member = ap (λ s. has_id s id) c.put.ensures ∙ has-with_id 8 c.nodes-members.result id id (omega arith)
          ∙ or_left (id == id) (has_id c.nodes-members.result id) (eq-eqb id id refl);
    }
