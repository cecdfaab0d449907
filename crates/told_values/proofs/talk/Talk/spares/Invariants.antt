use Rattle.std.proofs.Common.{◌≡◌, ℕ, ◌<◌, true, ◌||◌}
use Rattle.std.specs.Prelude.{◌==◌}
use Rattle.fault_classes.specs.Change.{is_untouched}
use Rattle.fault_classes.specs.Line.{effect_at}
use Rattle.told_values.proofs.talk.Talk.spares.Given as goal

abbrev pub invariant-loop-to : goal.invariant-loop-to
invariant-loop-to g l = (k : ℕ) → k < l.to → (k == l.from || is_untouched (effect_at l.self.plan.now.lines l.self.period l.self.slot l.from k)) ≡ true
