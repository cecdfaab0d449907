use Rattle.std.proofs.Common.{◌≤◌, map, arith}
use Rattle.scenario.specs.Seen.{restart_view}
use Rattle.drawn_scenarios.specs.Lines.{restarts_at}
use Rattle.drawn_scenarios.proofs.Gathered.{one_period}
use Rattle.drawn_scenarios.proofs.lines.restarts.Goals as goal

pub loop-period-preserved : goal.loop-period-preserved
loop-period-preserved c =
    let some : 1 ≤ c.loop-period.period = omega arith in
    one_period (restarts_at c.args.options.now.choices c.args.bouts.now) c.loop-period.period (map restart_view c.loop-period.restarts.items) (map restart_view c.push_restarts.new.restarts.items) some c.loop-period.invariant
    c.in_ok-push_restarts.ensures
