use Rattle.std.proofs.Common.{ℕ, ◌+◌, ◌-◌, ◌*◌, take, ap, ◌∙◌}
use Rattle.std.specs.Prelude.{codes}
use Rattle.run_print.proofs.Digits.{first_text}
use Rattle.run_print.proofs.texts.first_nodes.Goals as goal

pub returns : goal.returns
returns c =
    ap (λ (k : ℕ). take (2 * c.args.count - 1 + k) (codes "0,1,2,3,4,5,6,7,8,9,10,11,12,13,14,15")) c.saturating_sub.ensures
    ∙ first_text c.args.count c.requires.few
