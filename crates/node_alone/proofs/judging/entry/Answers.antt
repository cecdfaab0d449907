use Rattle.std.proofs.Common.{sym, ◌∙◌, arith, rules, w8, w32, w64, Fits, to_z-of_z}
use Rattle.std.specs.Prelude.{FitsSigned}
use Rattle.node_alone.specs.Seen.{part_view, limits_view}
use Rattle.node_alone.proofs.Judged.{placed}
use Rattle.node_alone.proofs.judging.entry.Goals as goal

pub overflow_cast-result : goal.overflow_cast-result
overflow_cast-result c =
    let at = placed (limits_view c.args.limits.now) (part_view c.args.part.now) (sym c.is_placed.ensures ∙ c.if-not-is_placed.false) in
    let fits : FitsSigned w64 c.args.part.now.period = search rules in
    let most : Fits w32 c.args.limits.now.periods = search rules in
    let n = simp to_z-of_z at c.natural.ensures in
    let low = at.period in
    omega (arith, n, most, low)

pub overflow_cast-result-2 : goal.overflow_cast-result-2
overflow_cast-result-2 c =
    let at = placed (limits_view c.args.limits.now) (part_view c.args.part.now) (sym c.is_placed.ensures ∙ c.if-not-is_placed.false) in
    let fits : FitsSigned w64 c.args.part.now.slot = search rules in
    let most : Fits w8 c.args.limits.now.slots = search rules in
    let n = simp to_z-of_z at c.natural-2.ensures in
    let low = at.slot in
    omega (arith, n, most, low)

pub overflow_cast-result-3 : goal.overflow_cast-result-3
overflow_cast-result-3 c =
    let at = placed (limits_view c.args.limits.now) (part_view c.args.part.now) (sym c.is_placed.ensures ∙ c.if-not-is_placed.false) in
    let fits : FitsSigned w64 c.args.part.now.from = search rules in
    let most : Fits w8 c.args.limits.now.nodes = search rules in
    let n = simp to_z-of_z at c.natural-3.ensures in
    let low = at.from in
    omega (arith, n, most, low)
