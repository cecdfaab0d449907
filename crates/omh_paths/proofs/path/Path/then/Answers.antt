use Rattle.std.proofs.Common.{◌<◌, ◌∙◌, ap, length, arith}
use Rattle.node_grid.specs.NodeSet.{has_id}
use Rattle.omh_paths.specs.Layout.{IsLaidOut-more, length-front}
use Rattle.omh_paths.proofs.path.Path.then.Goals as goal

pub invariant_of-result : goal.invariant_of-result
invariant_of-result c =
    let room : c.self.inside.len < 4 = omega (arith, length-front c.self.invariant, ap length c.self.view_is, c.requires.room) in
    IsLaidOut-more c.args.q c.self.invariant room (ap (λ xs. has_id xs c.args.q) c.self.view_is ∙ c.requires.off)
