use Rattle.std.proofs.Common.{◌≤◌, arith}
use Rattle.node_grid.specs.NodeSetLaws.{bits_set-full, shifted_one, full_fits}
use Rattle.node_grid.proofs.node_set.NodeSet.full.Goals as goal

pub invariant_of-result : goal.invariant_of-result
invariant_of-result g c =
    let few : c.args.n ≤ 16 = omega arith in
    (rw (shifted_one c.args.n few) (full_fits g.row.N c.args.n c.requires.within), c.requires.capacity)

pub returns : goal.returns
returns g c =
    let few : c.args.n ≤ 16 = omega arith in
    rw (shifted_one c.args.n few) (bits_set-full g.row.N c.args.n c.requires.within)
