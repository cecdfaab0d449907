use Rattle.std.proofs.Common.{◌≡◌, ℕ, ◌/◌, ◌<◌, ◌≤◌, length, get_or}
use Rattle.node_grid.specs.Count.{count}
use Rattle.error_reports.specs.Charge.{is_voter}
use Rattle.error_reports.proofs.charge_all.limits.Given as goal

abbrev pub invariant-loop-node : goal.invariant-loop-node
invariant-loop-node g l = record {
  wide : length l.limits ≡ g.row.N;
  voters : (j : ℕ) → j < l.node → get_or l.limits j 0 ≡ count (is_voter l.rows j) l.members / 2;
  rest : (j : ℕ) → l.node ≤ j → j < g.row.N → get_or l.limits j 0 ≡ 31;
}
