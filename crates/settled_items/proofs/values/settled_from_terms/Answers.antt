use Rattle.std.proofs.Common.{sym, ◌∙◌}
use Rattle.omh_paths.specs.MajorityLaws.{majority_sound}
use Rattle.settled_items.proofs.values.settled_from_terms.Goals as goal

pub unwrap-requires : goal.unwrap-requires
unwrap-requires g c = λ e. majority_sound g.V.PartialEq.eq _ (sym c.majority.ensures ∙ e)
