use Rattle.std.proofs.Common.{◌≡◌, ℤ, List, rules, ap, ◌∙◌, map, ◌++◌, ◌∷◌, [], w64, to_z-of_z}
use Rattle.std.specs.Prelude.{FitsSigned}
use Rattle.std.proofs.lemmas.List.{map-append}
use Rattle.scenario.specs.Parts.{TaskParts}
use Rattle.scenario.specs.Seen.{task_view}
use Rattle.scenario.specs.declared.parts.TaskPart.{TaskPart}
use Rattle.storm.proofs.cluster.TaskList.push.Goals as goal

-- a task behind others, where its lists are others
same_lists : (before : List TaskParts) (need least most : ℤ) (after nodes run after' nodes' run' : List ℤ) → after ≡ after' → nodes ≡ nodes' → run ≡ run'
    → before ++ record { after = after; nodes = nodes; need = need; min = least; max = most; run = run } ∷ [] ≡ before ++ record { after = after'; nodes = nodes'; need = need; min = least; max = most; run = run' } ∷ []
same_lists before need least most after nodes run after' nodes' run' e f g = cc

pub returns : goal.returns
returns c =
    let before = c.args.self.now.tasks.items in
    let one : TaskPart =
    record { after = c.in_ok-from_slice.field-0; nodes = c.in_ok-from_slice-2.field-0; need = c.args.need; min = c.args.between.0; max = c.args.between.1; run = c.in_ok-from_slice-3.field-0 } in
    let need_fits : FitsSigned w64 c.args.need = c.ranges.need in
    let min_fits : FitsSigned w64 c.args.between.0 = search rules in
    let max_fits : FitsSigned w64 c.args.between.1 = search rules in
    let pushed = simp to_z-of_z at c.in_ok-push.ensures.items in
    ap (map task_view) pushed
    ∙ map-append task_view before (one ∷ [])
    ∙ same_lists (map task_view before) c.args.need c.args.between.0 c.args.between.1 one.after.items one.nodes.items one.run.items c.args.after.now c.args.nodes.now c.args.run.now c.in_ok-from_slice.ensures.items
    c.in_ok-from_slice-2.ensures.items c.in_ok-from_slice-3.ensures.items
