-- When the storm keeps a node from being nonfaulty.
use Rattle.std.specs.Prelude.{ℕ, ◌+◌, Bool, ◌&&◌, ◌==◌, nat_le, List}
use Rattle.std.specs.List.{list_any}
use Rattle.fault_classes.specs.Plan.{Plan, plan_of}
use Rattle.storm.specs.declared.spell.Spell.{Spell}
use Rattle.storm.specs.Storm.{Block, lines_of, restarts_of}

-- a storm's fault plan: 8 nodes, 2 relay rounds, 1024 periods
abbrev pub plan_by : List Block → Plan
plan_by bs = plan_of 8 2 1024 (lines_of bs) (restarts_of bs)

-- the node of a spell, from its first faulty period to its restart
abbrev pub is_off_in : ℕ → ℕ → Spell → Bool
is_off_in p j s = s.node == j && (nat_le s.first p && nat_le p (s.first + 9))

abbrev pub is_off : List Block → ℕ → ℕ → Bool
is_off bs p j = list_any (λ b. is_off_in p j b.spell) bs
