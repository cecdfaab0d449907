use Rattle.std.proofs.Common.{arith}
use Rattle.omh_paths.specs.MemberLaws.{path_count-few}
use Rattle.settled_paths.proofs.Places.{level_at-next}
use Rattle.settled_paths.proofs.exchange.level_at.Goals as goal

pub overflow_add-begins : goal.overflow_add-begins
overflow_add-begins c =
    omega (arith, c.count_paths-begins.ensures.product, path_count-few c.args.others c.loop-fewer.fewer c.requires.others (omega (arith, c.loop-fewer-test.true, c.requires.short)), c.loop-fewer.invariant.small, c.loop-fewer-test.true, c.requires.short)

pub loop-fewer-preserved : goal.loop-fewer-preserved
loop-fewer-preserved c =
    let few = path_count-few c.args.others c.loop-fewer.fewer c.requires.others (omega (arith, c.loop-fewer-test.true, c.requires.short)) in
    record {
      begins = omega (arith, c.count_paths-begins.ensures.product, c.loop-fewer.invariant.begins, level_at-next c.args.others c.loop-fewer.fewer);
      small = omega (arith, few, c.count_paths-begins.ensures.product, c.loop-fewer.invariant.small);
    }
