use Rattle.std.proofs.Common.{ℕ, List, ◌++◌, ap}
use Rattle.node_grid.specs.NodeSet.{ids_below}
use Rattle.run_text.specs.PeriodText.{end_text}
use Rattle.top_call.specs.Run.{printed, shown_text}
use Rattle.top_call.proofs.Rest.{same_texts}
use Rattle.top_call.proofs.laws.order_is_free.Goals as goal

pub returns : goal.returns
unfolding printed
returns c N form sc order =
    ap (λ (text : List ℕ). text ++ end_text sc.periods)
    (same_texts (printed form (record sc { order = order })) (printed form sc) (λ p. ap (shown_text form sc.plan) (c.order_is_free.ensures N sc order p)) (ids_below sc.periods))
