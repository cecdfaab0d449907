-- What is summed up of the first periods of a run.
use Rattle.std.specs.Prelude.{ℕ, ◌≡◌, ◌<◌, not, option_map}
use Rattle.node_grid.specs.NodeSet.{has_id}
use Rattle.node_grid.specs.Count.{bit}
use Rattle.scenario.specs.Scenario.{ScenarioView}
use Rattle.run_judged.specs.declared.tally.Tally.{Tally}
use Rattle.run_judged.specs.Numbers.{total, greatest, least}
use Rattle.run_judged.specs.Rows.{is_spotless, charges_in, false_charges_in, false_exclusions_in, seen_of, is_claimed, lost_in, loss_at, margin_upto, spread_at, skew_at}

-- the sums over the first n periods of a run
pub record AreSums {N : ℕ} (sc : ScenarioView N) (n : ℕ) (t : Tally N) : Type 0 where
  pub claimed : t.claimed ≡ total (λ p. bit (is_claimed sc p)) n
  pub lost : t.lost ≡ option_map (loss_at sc) (lost_in sc n)
  pub margin : t.margin ≡ least (margin_upto sc) n
  pub charges : t.charges ≡ total (charges_in (seen_of sc) sc.config.nodes) n
  pub false_charges : t.false_charges ≡ total (false_charges_in (seen_of sc) sc.config.nodes) n
  pub false_exclusions : t.false_exclusions ≡ total (false_exclusions_in (seen_of sc) sc.config.nodes) n
  pub spread : t.spread ≡ greatest (spread_at sc) n
  pub skew : t.skew ≡ greatest (skew_at sc) n
  pub faulty : (j : ℕ) → j < sc.config.nodes → has_id t.faulty j ≡ not (is_spotless (seen_of sc) n j)
