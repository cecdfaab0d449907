use Rattle.std.proofs.Common.{ℕ, ◌≡◌, true, ap, sym, ◌∙◌, arith}
use Rattle.node_grid.specs.NodeSet.{has_id, without_id}
use Rattle.omh_paths.specs.PathLists.{has-of-without}
use Rattle.omh.specs.HeardLaws.{has-without-me}
use Rattle.worked_calls.proofs.tables.Node.put.Goals as goal

pub put-requires : goal.put-requires
put-requires c =
    let self = c.args.self.now in
    let table = self.table in
    let path = c.in-Some.path in
    let among : (q : ℕ) → has_id path q ≡ true → has_id (without_id table.members table.me) q ≡ true =
    λ q on. ap (λ s. has_id s q) (sym self.left) ∙ c.in-Some.ensures.1 q on in (
      omega arith,
      (
        (λ q on. has-of-without table.members table.me q (among q on)),
        (has-without-me table.members table.me path among, (omega (arith, c.in-Some.ensures.0, self.rounds), c.heard.ensures)),
      ),
    )
