use Rattle.std.proofs.Common.{◌≡◌, ◌≤◌, length, map, ap, arith}
use Rattle.std.proofs.lemmas.List.{length-map}
use Rattle.fault_classes.specs.Line.{line_of}
use Rattle.fault_classes.specs.Plan.{Plan}
use Rattle.fault_classes.proofs.index.PlanIndex.line_count.Goals as goal

pub overflow_cast-result : goal.overflow_cast-result
overflow_cast-result g c =
    let few : length (map (line_of {n = g.row.N}) c.self.inside.lines.items) ≤ 4096 = c.self.invariant.few in
    omega (arith, c.len.ensures, c.self.inside.lines.ok, few, length-map c.self.inside.lines.items (line_of {n = g.row.N}))

pub returns : goal.returns
returns g c =
    let same : length (map (line_of {n = g.row.N}) c.self.inside.lines.items) ≡ length c.args.self.now.lines = ap (λ (p : Plan). length p.lines) c.self.view_is in
    omega (arith, c.len.ensures, c.self.inside.lines.ok, same, length-map c.self.inside.lines.items (line_of {n = g.row.N}))
