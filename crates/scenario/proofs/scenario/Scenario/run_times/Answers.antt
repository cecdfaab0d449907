use Rattle.std.proofs.Common.{◌<◌, ap, ◌∙◌, arith}
use Rattle.scenario.specs.Scenario.{ScenarioView, inputs_of}
use Rattle.scenario.proofs.scenario.Scenario.run_times.Goals as goal

pub returns : goal.returns
returns g c =
    let same = ap (λ (s : ScenarioView g.row.N). s.config.nodes) c.self.view_is in
    let low : c.args.node < g.row.N = omega (arith, same, c.requires, c.self.invariant.scenario.system.config.few_nodes) in
    c.self.invariant.each c.args.node low ∙ ap (λ (s : ScenarioView g.row.N). (inputs_of s c.args.node 0).run) c.self.view_is

pub bounds-runs-node : goal.bounds-runs-node
bounds-runs-node g c =
    let same = ap (λ (s : ScenarioView g.row.N). s.config.nodes) c.self.view_is in
    omega (arith, same, c.requires, c.self.invariant.scenario.system.config.few_nodes)

pub offset_bounds-runs-node : goal.offset_bounds-runs-node
offset_bounds-runs-node g c = omega (arith, c.ranges.node)
