use Rattle.std.proofs.Common.{inl, inr, refl}
use Rattle.drawn_scenarios.proofs.making.drawn.Goals as goal

pub returns-in-Ok-clause-accepted : goal.returns-in-Ok-clause-accepted
returns-in-Ok-clause-accepted c = c.unrefused.ensures c.args.options.now.choices c.args.seed c.args.index 16 c.args.options.now.in_range (inr refl) c.args.options.now.in_range.few_nodes

pub returns-in-Ok-clause-few : goal.returns-in-Ok-clause-few
returns-in-Ok-clause-few c = λ few. c.unrefused.ensures c.args.options.now.choices c.args.seed c.args.index 8 c.args.options.now.in_range (inl refl) few

pub returns-in-Err-clause-accepted : goal.returns-in-Err-clause-accepted
returns-in-Err-clause-accepted c = c.unrefused.ensures c.args.options.now.choices c.args.seed c.args.index 16 c.args.options.now.in_range (inr refl) c.args.options.now.in_range.few_nodes

pub returns-in-Err-clause-few : goal.returns-in-Err-clause-few
returns-in-Err-clause-few c = λ few. c.unrefused.ensures c.args.options.now.choices c.args.seed c.args.index 8 c.args.options.now.in_range (inl refl) few
