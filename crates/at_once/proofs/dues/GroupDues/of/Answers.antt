use Rattle.at_once.proofs.dues.GroupDues.of.Goals as goal

pub invariant_of-result : goal.invariant_of-result
invariant_of-result g c = record {
  capacity = g.bound-1.eight_or_sixteen;
  many = c.requires;
  alike_are = c.alike.ensures;
}
