-- A storm: 64 blocks of 16 periods. In each one of the nodes 5 to 7 is faulty for up to 8 periods, and restarts later.
use Rattle.std.specs.Prelude.{ℕ, zero, suc, ◌+◌, ◌*◌, ◌==◌, List, [], ◌∷◌, ◌++◌, map, if◌then◌else◌}
use Rattle.std.specs.List.{flat_map}
use Rattle.std.specs.Int.{w64, to_be_bytes}
use Rattle.node_grid.specs.NodeSet.{ids_below, without_id}
use Rattle.fault_classes.specs.declared.line.Restart.{Restart}
use Rattle.fault_classes.specs.Change.{Change}
use Rattle.fault_classes.specs.Change.Change.{Drop, Set}
use Rattle.fault_classes.specs.Line.{Line}
use Rattle.storm.specs.declared.spell.Spell.{Spell}
use Rattle.draws.specs.Draws.{Drawing, draw, ◌>>=◌, pure, generator_of}

-- a line of a spell: to some nodes, in some slots
abbrev pub line_in : Spell → List ℕ → List ℕ → Change → Line
line_in s to slots change = record { from = s.node; to = to; first = s.first; last = s.last; slots = slots; change = change }

abbrev pub others : Spell → List ℕ
others s = without_id (ids_below 8) s.node

-- a drawn value in place of the first one in a frame, whose body begins with byte 14
abbrev pub false_value : ℕ → Change
false_value drawn = Set 14 (to_be_bytes w64 (5000 + drawn))

-- what one receiver is told, by the way that is drawn: what it should be, no row in slot 5, or in slot 4 a value of its own
abbrev pub told_by : Spell → ℕ → ℕ → Drawing (List Line)
told_by s j way =
    if way == 0 then pure []
    else (if way == 1 then pure (line_in s (j ∷ []) (5 ∷ []) Drop ∷ [])
    else (do
      v ← draw 1000
      pure (line_in s (j ∷ []) (4 ∷ []) (false_value v) ∷ [])))

abbrev pub lies_drawn : Spell → ℕ → Drawing (List Line)
lies_drawn s j = draw 3 >>= told_by s j

-- what one receiver is told in slot 5: a row with a byte of its own
abbrev pub told_row : Spell → ℕ → Drawing (List Line)
told_row s j = do
  v ← draw 256
  pure (line_in s (j ∷ []) (5 ∷ []) (Set 15 (v ∷ [])) ∷ [])

-- the lines to each of these receivers in turn
abbrev pub each_drawn : (ℕ → Drawing (List Line)) → List ℕ → Drawing (List Line)
each_drawn to [] = pure []
each_drawn to (j ∷ js) = do
  here ← to j
  rest ← each_drawn to js
  pure (here ++ rest)

-- the lines of a spell by its case: silent; lying to all alike; telling each another thing; or telling each another row
abbrev pub lines_by : Spell → ℕ → Drawing (List Line)
lines_by s case =
    if case == 0 then pure (line_in s (others s) (ids_below 8) Drop ∷ [])
    else (if case == 1 then (do
      v ← draw 1000
      pure (line_in s (others s) (4 ∷ []) (false_value v) ∷ []))
    else (if case == 2 then each_drawn (lies_drawn s) (others s)
    else each_drawn (told_row s) (others s)))

pub record Block : Type 0 where
  pub spell : Spell
  pub lines : List Line

-- a spell of block k, from its second period on
abbrev pub spell_of : ℕ → ℕ → ℕ → Spell
spell_of k node count = record { node = node; first = 16 * k + 1; last = 16 * k + count }

abbrev pub block_of : Spell → List Line → Block
block_of s lines = record { spell = s; lines = lines }

-- block k: the node, the case and the number of periods are drawn in this order, and then what its lines need
abbrev pub block : ℕ → Drawing Block
block k = do
  f ← draw 3
  case ← draw 4
  l ← draw 8
  lines ← lines_by (spell_of k (5 + f) (1 + l)) case
  pure (block_of (spell_of k (5 + f) (1 + l)) lines)

-- so many blocks, from block k on
abbrev pub blocks : ℕ → ℕ → Drawing (List Block)
blocks zero k = pure []
blocks (suc n) k = do
  b ← block k
  bs ← blocks n (k + 1)
  pure (b ∷ bs)

unfoldable pub storm : ℕ → List Block
storm seed = (blocks 64 0 (generator_of seed)).0

abbrev pub lines_of : List Block → List Line
lines_of = flat_map (λ b. b.lines)

-- its node restarts in period 16k + 10
abbrev pub restart_drawn : Block → Restart
restart_drawn b = record { node = b.spell.node; period = b.spell.first + 9 }

abbrev pub restarts_of : List Block → List Restart
restarts_of = map restart_drawn
