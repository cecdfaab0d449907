use Rattle.run_print.specs.ExampleLaws.{untraced_is}
use Rattle.run_print.proofs.period.write_period.Goals as goal

pub write_traced-requires : goal.write_traced-requires
write_traced-requires g c = (assumption, (assumption, c.requires.planned c.if-trace.true))

pub write_untraced-requires : goal.write_untraced-requires
write_untraced-requires g c = assumption

pub returns-then-trace : goal.returns-then-trace
returns-then-trace g c = rw c.if-trace.true c.write_traced.ensures

pub returns-else-trace : goal.returns-else-trace
returns-else-trace g c = rw (c.if-trace.false, untraced_is c.args.plan.now c.args.shown.now) c.write_untraced.ensures
