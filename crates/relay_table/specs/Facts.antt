-- Facts that several crates cite.
use Rattle.std.proofs.Common.{arith, suc, zero, ℕ, ◌<◌}
use Rattle.relay_table.specs.Tabled.{kept_nodes}

-- the terms of each relay round but the last are kept, and those of the last where there is but one
pub kept_early : (m r : ℕ) → r < m → r < kept_nodes m
kept_early zero r h = omega (arith, h)
kept_early (suc zero) r h = omega (arith, h)
kept_early (suc (suc m)) r h = h
