use Rattle.std.proofs.Common.{List, ℕ, sym, ap, ◌∙◌}
use Rattle.std.proofs.lemmas.Bool.{both_ways}
use Rattle.node_grid.specs.NodeSet.{has_id}
use Rattle.odd_relays.proofs.Laying.{none_of}
use Rattle.odd_relays.proofs.item.Item.convicting.Goals as goal

pub returns-in-None-clause-convicts : goal.returns-in-None-clause-convicts
returns-in-None-clause-convicts g c = λ i on. absurd (both_ways _ (none_of c.args.nodes.now i (sym c.in-None.ensures.first)) on)

pub returns-in-None-clause-within : goal.returns-in-None-clause-within
returns-in-None-clause-within g c = λ i on. let h = sym (ap (λ (s : List ℕ). has_id s i) c.empty.ensures) ∙ on in absurd (cc)
