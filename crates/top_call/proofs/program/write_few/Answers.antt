use Rattle.top_call.proofs.Few.{run_of}
use Rattle.top_call.proofs.program.write_few.Goals as goal

pub returns : goal.returns
returns g c d h =
    let few = c.few_nodes.ensures d c.args.scenario.now h in
    (few.0, few.1, run_of c.args.form c.args.scenario.now few.0 _ _ _ _ c.write_form.result (few.2 c.args.form) few.3 c.write_form.ensures)
