use Rattle.std.proofs.Common.{arith}
use Rattle.omh_paths.specs.MemberLaws.{path_count-few}
use Rattle.relay_table.proofs.Frees.{one_more}
use Rattle.relay_table.proofs.free.free_begins.Goals as goal

pub overflow_add-begins : goal.overflow_add-begins
overflow_add-begins c =
    let few = path_count-few c.args.members c.loop-shorter.shorter c.requires.members (omega (arith, c.loop-shorter-test.true, c.requires.short)) in
    omega (arith, c.count_paths-begins.ensures.product, few, c.loop-shorter.invariant.small, c.loop-shorter-test.true, c.requires.short)

pub loop-shorter-preserved : goal.loop-shorter-preserved
loop-shorter-preserved c =
    let few = path_count-few c.args.members c.loop-shorter.shorter c.requires.members (omega (arith, c.loop-shorter-test.true, c.requires.short)) in
    record {
      so_far = omega (arith, c.count_paths-begins.ensures.product, c.loop-shorter.invariant.so_far, one_more c.args.members c.loop-shorter.shorter);
      small = omega (arith, few, c.count_paths-begins.ensures.product, c.loop-shorter.invariant.small);
    }
