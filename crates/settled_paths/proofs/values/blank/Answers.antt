use Rattle.std.proofs.lemmas.Result.{IfOk-from_err}
use Rattle.node_grid.specs.NumberFacts.{fewer_left}
use Rattle.omh_paths.specs.Facts.{faults_whole, faults_grown}
use Rattle.settled_paths.proofs.values.blank.Goals as goal

pub returns-in_err-values : goal.returns-in_err-values
returns-in_err-values g c = IfOk-from_err c.from_residual.result _ c.from_residual.ensures.0

pub loop-init : goal.loop-init
loop-init g c = c.in_ok-values.ensures.items

pub returns-in_err-push : goal.returns-in_err-push
returns-in_err-push g c = IfOk-from_err c.from_residual-in_err-push.result _ c.from_residual-in_err-push.ensures.0

pub loop-preserved : goal.loop-preserved
loop-preserved g c = faults_grown c.loop.values.items c.push.new.self.items c.loop.counter c.loop.invariant c.in_ok-push.ensures.items

pub loop-smaller : goal.loop-smaller
loop-smaller g c = fewer_left c.args.len c.loop.counter c.loop-test.true

pub returns : goal.returns
returns g c = faults_whole c.loop.values.items c.loop.counter c.args.len c.loop.invariant c.loop.auto.counter-end c.loop-test.false
