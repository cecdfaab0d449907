use Rattle.std.proofs.Common.{ap, ◌∙◌, map}
use Rattle.std.proofs.lemmas.List.{take_all}
use Rattle.std.proofs.lemmas.Result.{IfOk-from_err}
use Rattle.scenario.specs.Narrowed.{narrowed_restart}
use Rattle.scenario.specs.Seen.{restart_view}
use Rattle.scenario.proofs.Filled.{next_seen_or}
use Rattle.scenario.proofs.planning.restarts.Goals as goal

pub returns-in_err-push : goal.returns-in_err-push
returns-in_err-push c = IfOk-from_err c.from_residual.result _ c.from_residual.ensures.0

pub bounds-parts-part-index : goal.bounds-parts-part-index
bounds-parts-part-index c = c.loop-part-test.true

pub loop-part-init : goal.loop-part-init
loop-part-init c = c.new-restarts.ensures.items

pub loop-part-preserved : goal.loop-part-preserved
loop-part-preserved c =
    next_seen_or narrowed_restart restart_view c.args.parts.now c.loop-part.part-index _ c.restart.result c.loop-part.restarts.items c.push.new.self.items c.loop-part-test.true c.restart.ensures
    c.in_ok-push.ensures.items c.loop-part.invariant

pub returns : goal.returns
returns c = c.loop-part.invariant ∙ ap (λ ps. map narrowed_restart (map restart_view ps)) (take_all c.loop-part.part-index c.args.parts.now c.loop-part-test.false)
