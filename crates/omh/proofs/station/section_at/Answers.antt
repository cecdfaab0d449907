use Rattle.std.proofs.Common.{◌+◌, arith}
use Rattle.omh_paths.specs.MemberLaws.{path_count-few}
use Rattle.omh.specs.FlatLaws.{section_at-next}
use Rattle.omh.proofs.station.section_at.Goals as goal

pub overflow_add-begins : goal.overflow_add-begins
overflow_add-begins c =
    omega (arith, c.count_paths-begins.ensures.product, path_count-few c.args.nodes (c.loop-shorter.shorter + 1) c.requires.nodes (omega (arith, c.loop-shorter-test.true, c.requires.short)), c.loop-shorter.invariant.small, c.loop-shorter-test.true, c.requires.short)

pub loop-shorter-preserved : goal.loop-shorter-preserved
loop-shorter-preserved c =
    let few = path_count-few c.args.nodes (c.loop-shorter.shorter + 1) c.requires.nodes (omega (arith, c.loop-shorter-test.true, c.requires.short)) in
    record {
      begins = omega (arith, c.count_paths-begins.ensures.product, c.loop-shorter.invariant.begins, section_at-next c.args.nodes c.loop-shorter.shorter);
      small = omega (arith, few, c.count_paths-begins.ensures.product, c.loop-shorter.invariant.small);
    }
