use Rattle.std.proofs.Common.{◌≡◌, None, drop}
use Rattle.fault_classes.specs.Rules.{first_bad_restart}
use Rattle.fault_classes.proofs.rules.first_bad_restart.Given as goal

abbrev pub invariant-loop-place : goal.invariant-loop-place
invariant-loop-place l = first_bad_restart l.nodes l.periods None 0 l.restarts ≡ first_bad_restart l.nodes l.periods l.before l.place (drop l.place l.restarts)
