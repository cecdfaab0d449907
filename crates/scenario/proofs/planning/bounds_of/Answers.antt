use Rattle.std.proofs.Common.{rules, w64, to_z-of_z, arith, inl, inr}
use Rattle.std.specs.Prelude.{FitsSigned}
use Rattle.scenario.proofs.planning.bounds_of.Goals as goal

pub returns-clause-nodes : goal.returns-clause-nodes
returns-clause-nodes g c =
    let fits : FitsSigned w64 c.args.parts.now.nodes = search rules in
    simp to_z-of_z at c.natural.ensures

pub returns-clause-rounds : goal.returns-clause-rounds
returns-clause-rounds g c =
    let fits : FitsSigned w64 c.args.parts.now.m = search rules in
    simp to_z-of_z at c.natural-2.ensures

pub returns-clause-periods : goal.returns-clause-periods
returns-clause-periods g c =
    let fits : FitsSigned w64 c.args.parts.now.periods = search rules in
    simp to_z-of_z at c.natural-3.ensures

pub returns-clause-size : goal.returns-clause-size
returns-clause-size g c =
    let r = c.requires.ranges in
    let nodes_fit : FitsSigned w64 c.args.parts.now.nodes = search rules in
    let rounds_fit : FitsSigned w64 c.args.parts.now.m = search rules in
    let periods_fit : FitsSigned w64 c.args.parts.now.periods = search rules in
    let nodes = simp to_z-of_z at c.natural.ensures in
    let rounds = simp to_z-of_z at c.natural-2.ensures in
    let periods = simp to_z-of_z at c.natural-3.ensures in
    record {
      capacity = g.bound-1.eight_or_sixteen;
      some_nodes = omega (arith, nodes, r.some_nodes);
      few_nodes = omega (arith, nodes, r.few_nodes);
      rounds = omega (arith, nodes, rounds, r.rounds);
      few_rounds = omega (arith, rounds, r.three_rounds);
      some_periods = omega (arith, periods, r.some_periods);
      few_periods = omega (arith, periods, r.few_periods);
    }

pub overflow_cast-result : goal.overflow_cast-result
overflow_cast-result g c =
    let fits : FitsSigned w64 c.args.parts.now.nodes = search rules in
    let is = simp to_z-of_z at c.natural.ensures in
    elim g.bound-1.eight_or_sixteen [ inl e ↦ omega (arith, is, e, c.requires.ranges.few_nodes) | inr e ↦ omega (arith, is, e, c.requires.ranges.few_nodes) ]

pub overflow_cast-result-2 : goal.overflow_cast-result-2
overflow_cast-result-2 g c =
    let fits : FitsSigned w64 c.args.parts.now.m = search rules in
    let is = simp to_z-of_z at c.natural-2.ensures in
    omega (arith, is, c.requires.ranges.three_rounds)

pub overflow_cast-result-3 : goal.overflow_cast-result-3
overflow_cast-result-3 g c =
    let fits : FitsSigned w64 c.args.parts.now.periods = search rules in
    let is = simp to_z-of_z at c.natural-3.ensures in
    omega (arith, is, c.requires.ranges.few_periods)
