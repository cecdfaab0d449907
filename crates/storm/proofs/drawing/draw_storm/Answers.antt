use Rattle.std.proofs.Common.{◌≡◌, arith}
use Rattle.std.proofs.lemmas.Result.{IfOk-from_err}
use Rattle.storm.proofs.Steps.{storms_first, storms_more, storms_done}
use Rattle.storm.proofs.drawing.draw_storm.Goals as goal

pub loop-k-init : goal.loop-k-init
loop-k-init c = storms_first _ _ _ _ c.new-faults.ensures.items c.new-restarts.ensures.items c.generator-generator.ensures

pub loop-k-preserved : goal.loop-k-preserved
loop-k-preserved c = storms_more _ _ _ _ _ _ _ _ c.loop-k-test.true c.loop-k.invariant c.in_ok-push_block.ensures

pub push_block-requires : goal.push_block-requires
push_block-requires c = c.loop-k-test.true

pub returns : goal.returns
returns c =
    let last : c.loop-k.k ≡ 64 = omega (arith, c.loop-k-test.false, c.loop-k.auto.k-end) in
    let done = storms_done _ _ _ _ _ last c.loop-k.invariant in
    record { faults = done.0; restarts = done.1 }

pub returns-in_err-push_block : goal.returns-in_err-push_block
returns-in_err-push_block c = record {
  faults = IfOk-from_err c.from_residual.result _ c.from_residual.ensures.0;
  restarts = IfOk-from_err c.from_residual.result _ c.from_residual.ensures.0;
}
