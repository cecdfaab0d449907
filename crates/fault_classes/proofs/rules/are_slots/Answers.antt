use Rattle.std.proofs.Common.{◌≡◌, true, false, not, sym, ap, ◌∙◌, refl, arith}
use Rattle.std.specs.Prelude.{◌==◌}
use Rattle.std.proofs.lemmas.Bool.{ne_eqb, eq-eqb, le-leb}
use Rattle.fault_classes.proofs.Slots.{slots_low, slots_wide}
use Rattle.fault_classes.proofs.rules.are_slots.Goals as goal

pub returns-then-slots-ge16 : goal.returns-then-slots-ge16
returns-then-slots-ge16 c =
    let some : (c.args.mask == 0) ≡ false = ne_eqb c.args.mask 0 c.if-mask-ne0.true in
    le-leb 16 c.args.slots c.if-slots-ge16.true ∙ sym (slots_wide c.args.slots c.args.mask c.if-slots-ge16.true (omega arith) ∙ ap not some)

pub returns-else-slots-ge16 : goal.returns-else-slots-ge16
returns-else-slots-ge16 c =
    let some : (c.args.mask == 0) ≡ false = ne_eqb c.args.mask 0 c.if-mask-ne0.true in
    sym (slots_low c.args.slots c.args.mask (omega arith) ∙ rw some refl)

pub returns-else-mask-ne0 : goal.returns-else-mask-ne0
returns-else-mask-ne0 c =
    let none : (c.args.mask == 0) ≡ true = eq-eqb c.args.mask 0 c.if-mask-ne0.false in
    ap not none ∙ sym (slots_low c.args.slots c.args.mask (omega arith) ∙ rw none refl)
