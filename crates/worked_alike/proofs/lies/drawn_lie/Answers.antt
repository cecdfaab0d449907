use Rattle.std.proofs.Common.{arith, ◌≡◌, w64, to_z, pos}
use Rattle.std.proofs.lemmas.Int.{ints, to_z_pos}
use Rattle.node_grid.specs.SetFacts.{not_rest}
use Rattle.worked_alike.proofs.Told.{some_left, all_low}
use Rattle.worked_alike.proofs.lies.drawn_lie.Goals as goal

pub returns : goal.returns
returns c =
    let by : to_z w64 c.next-by.result ≡ pos c.next-by.result = to_z_pos w64 c.next-by.result (omega (arith, c.next-by.type_inv)) in record {
      from = c.below-from.ensures;
      some = some_left c.without-to.result c.is_empty.result (λ e. c.is_empty.ensures.1 e) c.if-is_empty.false;
      to = rw (c.without-to.ensures, c.minus.ensures, c.full.ensures) (all_low c.nodes.result c.below-from.result);
      others = rw c.without-to.ensures (not_rest c.minus.result c.below-from.result);
      periods = omega arith;
      by = rw by (omega (arith, ints), omega (arith, ints));
    }
