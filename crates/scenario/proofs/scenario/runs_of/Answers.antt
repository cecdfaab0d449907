use Rattle.std.proofs.Common.{◌-◌, ◌++◌, [], map, length, replicate, set, sym, ap, ◌∙◌, inl, inr, arith, length-set, get_or-set_same, get_or-set_other}
use Rattle.std.specs.Prelude.{slice_index_or}
use Rattle.std.proofs.lemmas.Bool.{cases_eq}
use Rattle.scenario.specs.Given.{time_of}
use Rattle.scenario.specs.Seen.{task_view}
use Rattle.scenario.proofs.scenario.runs_of.Goals as goal

pub loop-node-preserved : goal.loop-node-preserved
loop-node-preserved g c =
    let runs = c.loop-node.runs in
    let k = c.loop-node.node in
    let x = c.run_times.result in record {
      long = length-set runs k x ∙ c.loop-node.invariant.long;
      each = λ i low. elim (cases_eq i k) [
        | inl e ↦
            ap (λ q. slice_index_or (set runs k x) q []) e ∙ get_or-set_same runs k x [] (omega (arith, c.loop-node-test.true, c.loop-node.invariant.long)) ∙ c.run_times.ensures
            ∙ ap (λ q. map (λ t. time_of t.nodes t.run q) (map task_view c.args.tasks.now) ++ replicate (32 - length c.args.tasks.now) 0) (sym e)
        | inr ne ↦ get_or-set_other runs k i x [] ne ∙ c.loop-node.invariant.each i (omega arith)
      ];
    }
