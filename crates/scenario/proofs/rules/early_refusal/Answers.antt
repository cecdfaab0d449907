use Rattle.std.proofs.Common.{◌≡◌, ℕ, Option, None, Some, false, refl, sym, ◌∙◌}
use Rattle.std.specs.Prelude.{is_some}
use Rattle.scenario.specs.Seen.{parts_view}
use Rattle.scenario.proofs.Early.{few_nodes}
use Rattle.scenario.proofs.rules.early_refusal.Goals as goal

not_some : (o : Option (ℕ × ℕ)) → is_some o ≡ false → o ≡ None
not_some None h = refl
not_some (Some x) h = cc

pub channels_refusal-channels-requires : goal.channels_refusal-channels-requires
channels_refusal-channels-requires c =
    few_nodes c.args.capacity (parts_view c.args.parts.now) (sym c.numbers_refusal-numbers.ensures ∙ not_some c.numbers_refusal-numbers.result (sym c.is_some.ensures ∙ c.if-is_some.false))
