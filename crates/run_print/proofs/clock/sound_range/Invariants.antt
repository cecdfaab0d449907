use Rattle.std.proofs.Common.{◌≡◌, take}
use Rattle.run_text.specs.ClockText.{sound_numbers, range_of}
use Rattle.run_print.proofs.clock.sound_range.Given as goal

abbrev pub invariant-loop-i : goal.invariant-loop-i
invariant-loop-i l = l.range ≡ range_of (sound_numbers (take l.i l.classes) (take l.i l.numbers))
