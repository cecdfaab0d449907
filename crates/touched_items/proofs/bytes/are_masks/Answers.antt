use Rattle.std.proofs.Common.{not, sym, ap, ◌∙◌, arith}
use Rattle.std.proofs.lemmas.Bool.{ne_eqb}
use Rattle.frames.specs.PieceLaws.{AreBytes}
use Rattle.frames.specs.EntryLaws.{all_masks}
use Rattle.touched_items.proofs.bytes.are_masks.Goals as goal

pub returns-then-version-ne1 : goal.returns-then-version-ne1
returns-then-version-ne1 c =
    let bytes : AreBytes c.args.bytes.now = λ i. omega (arith, c.type_inv.bytes i) in
    ap not (ne_eqb c.args.version 1 c.if-version-ne1.true) ∙ sym (all_masks c.args.version c.args.bytes.now bytes c.if-version-ne1.true)
