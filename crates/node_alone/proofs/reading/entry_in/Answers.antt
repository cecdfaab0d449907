use Rattle.std.proofs.Common.{sym, ◌∙◌}
use Rattle.node_alone.proofs.Fives.{not_five, five}
use Rattle.node_alone.proofs.reading.entry_in.Goals as goal

pub returns-then-items-ne5 : goal.returns-then-items-ne5
returns-then-items-ne5 c = sym (not_five c.args.items.now c.if-items-ne5.true)

pub returns : goal.returns
returns c =
    c.entry_of.ensures
    ∙ five c.args.items.now c.index-items-0.result c.index-items-1.result c.index-items-2.result c.index-items-3.result c.index-items-4.result c.if-items-ne5.false c.index-items-0.is c.index-items-1.is c.index-items-2.is
    c.index-items-3.is c.index-items-4.is
