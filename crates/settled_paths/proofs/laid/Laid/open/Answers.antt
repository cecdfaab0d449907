use Rattle.std.proofs.Common.{ℕ, ◌+◌, length, ap, ◌∙◌, arith}
use Rattle.std.proofs.lemmas.List.{length-replicate}
use Rattle.settled_paths.specs.Levels.{level_at}
use Rattle.settled_paths.proofs.laid.Laid.open.Goals as goal

pub overflow_add-level_at : goal.overflow_add-level_at
overflow_add-level_at g c = omega (arith, c.level_at-3.ensures.small)

pub invariant_of-result : goal.invariant_of-result
invariant_of-result g c =
    let others = c.saturating_sub-others.ensures in
    let longest = λ (n : ℕ). level_at n c.args.rounds in
    record {
      nodes_ok = c.requires.nodes;
      rounds_ok = c.requires.rounds;
      laid_ok = ap length c.in-Ok.ensures ∙ length-replicate c.level_at.result _ ∙ c.level_at.ensures.begins ∙ ap (λ (n : ℕ). level_at n (c.args.rounds + 1)) others;
      longest_ok = ap length c.in-Ok-blank.ensures ∙ length-replicate c.level_at-2.result _ ∙ c.level_at-2.ensures.begins ∙ ap longest others;
      work_ok = ap length c.in-Ok-blank-2.ensures ∙ length-replicate (16 + c.level_at-3.result) _ ∙ ap (λ (n : ℕ). 16 + n) (c.level_at-3.ensures.begins ∙ ap longest others);
    }
