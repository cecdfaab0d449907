use Rattle.std.proofs.Common.{arith}
use Rattle.relay_table.proofs.Frees.{section-begins, one_more}
use Rattle.relay_table.proofs.station.section_at.Goals as goal

pub overflow_sub-result : goal.overflow_sub-result
overflow_sub-result c = omega (arith, c.free_begins.ensures.begins, section-begins c.args.nodes c.args.len, one_more c.args.nodes c.args.len)

pub returns : goal.returns
returns c =
    let e = section-begins c.args.nodes c.args.len in
    let n = one_more c.args.nodes c.args.len in
    record {
      begins = omega (arith, c.free_begins.ensures.begins, e, n);
      small = omega (arith, c.free_begins.ensures.small);
    }
