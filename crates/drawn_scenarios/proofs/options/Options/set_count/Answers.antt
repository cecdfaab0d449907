use Rattle.std.proofs.Common.{arith}
use Rattle.drawn_scenarios.proofs.Sets.{sets}
use Rattle.drawn_scenarios.proofs.options.Options.set_count.Goals as goal

pub returns-clause-value : goal.returns-clause-value
returns-clause-value c = (sets c.args.self.now.choices.nodes c.args.self.now.in_range.some_nodes c.args.self.now.in_range.few_nodes).shifted

pub returns-clause-some : goal.returns-clause-some
returns-clause-some c =
    let s = sets c.args.self.now.choices.nodes c.args.self.now.in_range.some_nodes c.args.self.now.in_range.few_nodes in
    let e = s.shifted in let some = s.some in omega arith

pub returns-clause-few : goal.returns-clause-few
returns-clause-few c =
    let s = sets c.args.self.now.choices.nodes c.args.self.now.in_range.some_nodes c.args.self.now.in_range.few_nodes in
    let e = s.shifted in let few = s.few in omega arith
