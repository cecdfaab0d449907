use Rattle.std.proofs.Common.{◌≡◌, map, sym, ap, ◌∙◌, Some, inl, inr, lit<}
use Rattle.std.specs.Prelude.{option_map}
use Rattle.node_grid.specs.NodeSet.{ids_below}
use Rattle.clock_skew.specs.Clock.{ClockView}
use Rattle.agreed_state.specs.declared.config.Config.{Config}
use Rattle.protocol.specs.Run.{run, classes}
use Rattle.protocol.specs.Clocks.{AreClocks}
use Rattle.scenario.specs.Scenario.{ScenarioView, system_of}
use Rattle.cluster_periods.specs.Record.{offsets_in}
use Rattle.clock_skew.specs.Reading.{start_of}
use Rattle.cluster_record.proofs.Clocking.{starts_are}
use Rattle.cluster_record.proofs.clocks.first_clocks.Goals as goal

pub clock-requires : goal.clock-requires
clock-requires g c = elim g.bound-1.eight_or_sixteen [ inl e ↦ rw e (lit< tt, lit< tt) | inr e ↦ rw e (lit< tt, lit< tt) ]

pub config-requires : goal.config-requires
config-requires g c = elim g.bound-1.eight_or_sixteen [ inl e ↦ rw e (lit< tt, lit< tt) | inr e ↦ rw e (lit< tt, lit< tt) ]

pub starts-requires : goal.starts-requires
starts-requires g c =
    let sc : ScenarioView g.row.N = c.args.scenario.now in
    let k : ClockView = c.in-Some.plan.now in
    let fit : AreClocks (run (system_of sc)) (classes (system_of sc)) k = c.config.ensures.scenario.clock k (sym c.in-Some.ensures.clock) in (
      elim g.bound-1.eight_or_sixteen [ inl e ↦ rw e (lit< tt) | inr e ↦ rw e (lit< tt) ],
      (elim g.bound-1.eight_or_sixteen [ inl e ↦ rw e (lit< tt) | inr e ↦ rw e (lit< tt) ], ap (λ (y : Config g.row.N). y.nodes) c.config.ensures.config ∙ sym fit.nodes),
    )

pub returns : goal.returns
returns g c =
    let sc : ScenarioView g.row.N = c.args.scenario.now in
    let k : ClockView = c.in-Some.plan.now in
    let is : c.starts.result ≡ offsets_in (system_of sc) k 0 = c.starts.ensures ∙ ap (λ (y : Config g.row.N). map (start_of k y.nodes) (ids_below g.row.N)) c.config.ensures.config ∙ starts_are (system_of sc) k in
    ap Some is ∙ ap (option_map (λ (x : ClockView). offsets_in (system_of sc) x 0)) c.in-Some.ensures.clock
