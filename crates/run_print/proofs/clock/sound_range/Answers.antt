use Rattle.std.proofs.Common.{rules, ◌<◌, ℕ, pos, length, get_or, sym, ap, ap₂, ◌∙◌, arith, Some, w64}
use mir.Val.{SFits}
use Rattle.std.proofs.lemmas.Int.{to_z-of_z}
use Rattle.run_text.specs.ClockText.{range_of, widened}
use Rattle.run_print.proofs.Ranges.{all_counted, counted, passed}
use Rattle.run_print.proofs.clock.sound_range.Goals as goal
use Rattle.run_print.proofs.clock.sound_range.Goals.{then-is_sound, else-is_sound}

pub loop-i-preserved : goal.loop-i-preserved
loop-i-preserved c =
    let cs = c.args.classes.now in
    let xs = c.args.numbers.now in
    let i : ℕ = c.loop-i.i in
    let low : i < length xs = omega (arith, c.min-i-end.ensures, c.loop-i-test.true) in
    let within : i < length cs = omega (arith, c.min-i-end.ensures, c.loop-i-test.true) in
    let fits : SFits w64 (get_or xs i (pos 0)) = search rules in
    elim c.if-is_sound.branch [
      | then-is_sound w ↦
          w.range-is
          ∙ ap Some (w.widened.ensures ∙ ap₂ widened c.loop-i.invariant (to_z-of_z w64 (get_or xs i (pos 0)) fits))
          ∙ sym (counted cs xs i within low (sym c.is_sound.ensures ∙ w.if-is_sound.true))
      | else-is_sound w ↦ w.range-is ∙ c.loop-i.invariant ∙ sym (passed cs xs i within low (sym c.is_sound.ensures ∙ w.if-is_sound.false))
    ]

pub returns : goal.returns
returns c = c.loop-i.invariant ∙ ap range_of (all_counted c.args.classes.now c.args.numbers.now c.loop-i.i (omega (arith, c.min-i-end.ensures, c.loop-i-test.false)))
