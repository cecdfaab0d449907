use Rattle.std.proofs.Common.{ℕ, ◌≡◌, ◌<◌, true}
use Rattle.node_grid.specs.NodeSet.{has_id}
use Rattle.scenario.specs.Scenario.{system_of}
use Rattle.touched_items.specs.ItemLaws.{claim_told}
use Rattle.heard_links.specs.Hearing.{item_of}
use Rattle.at_once.proofs.period.Period.tell_claims.Given as goal

abbrev pub invariant-loop-i : goal.invariant-loop-i
invariant-loop-i g l =
    ((j : ℕ) → j < l.i → has_id l.full j ≡ true → claim_told (system_of l.self.scenario.now) l.self.number j ≡ item_of l.claims.links j) × (l.claims.settling ≡ l.fn.claims.settling)
