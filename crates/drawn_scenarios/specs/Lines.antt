-- The fault lines, restarts and lies of bouts, as parts of a scenario.
use Rattle.std.specs.Prelude.{ℕ, ◌+◌, ◌-◌, ◌*◌, ◌/◌, ◌%◌, ◌^◌, ◌==◌, ◌&&◌, nat_lt, ℤ, pos, Bool, List, [], ◌∷◌, map, None, Some, if◌then◌else◌}
use Rattle.std.specs.Int.{w64, to_be_bytes}
use Rattle.std.specs.List.{filter, flat_map, range_with_len}
use Rattle.hex.specs.Hex.{encode_lower}
use Rattle.node_grid.specs.NodeSet.{ids_below, without_id}
use Rattle.scenario.specs.Parts.{Numbers, EffectParts, FaultParts, RestartParts, LieParts}
use Rattle.scenario.specs.Parts.Numbers.{all, these}
use Rattle.scenario.specs.Parts.EffectParts.{drop, twice, time, set}
use Rattle.drawn_scenarios.specs.declared.choices.Choices.{Choices}
use Rattle.drawn_scenarios.specs.declared.bout.Fault.{Fault}
use Rattle.drawn_scenarios.specs.declared.bout.Fault.TheVariants.{Silent, Late, Twice, Value, Accusation}
use Rattle.drawn_scenarios.specs.declared.bout.Conduct.{Conduct}
use Rattle.drawn_scenarios.specs.declared.bout.Conduct.TheVariants.{Alike, Apart}
use Rattle.drawn_scenarios.specs.declared.bout.Bout.{Bout}

-- ---- what befalls a frame: a body begins at byte 14, with 8 bytes for a value and 2 for a row's entry

-- the value that exceeds -2000 by v, as a number of 64 bits
abbrev pub word_of : ℕ → ℕ
word_of v = (v + (2 ^ 64 - 2000)) % 2 ^ 64

abbrev pub effect_of : Fault → EffectParts
effect_of Silent = drop
effect_of Late = time (pos 25)
effect_of Twice = twice
effect_of (Value channel v) = set (pos (14 + 8 * channel)) (encode_lower (to_be_bytes w64 (word_of v)))
effect_of (Accusation accused kinds) = set (pos (14 + 2 * accused)) (encode_lower (0 ∷ kinds ∷ []))

-- values are told in slot m + 2, rows in slot m + 3
abbrev pub slots_of : Choices → Fault → Numbers
slots_of c (Value channel v) = these (pos (c.m + 2) ∷ [])
slots_of c (Accusation accused kinds) = these (pos (c.m + 3) ∷ [])
slots_of c _ = all

-- ---- to whom

-- the nodes at the places of the bits that are set
abbrev pub picked : ℕ → List ℕ → List ℕ
picked mask [] = []
picked mask (j ∷ js) = if mask % 2 == 1 then j ∷ picked (mask / 2) js else picked (mask / 2) js

abbrev pub others : ℕ → ℕ → List ℕ
others nodes j = without_id (ids_below nodes) j

abbrev pub group : ℕ → ℕ → ℕ → Numbers
group nodes j mask = these (map pos (picked mask (others nodes j)))

-- the bits of all other nodes that aren't set
abbrev pub rest : ℕ → ℕ → ℕ
rest nodes mask = 2 ^ (nodes - 1) - 1 - mask

-- some of the others, and the rest of them
abbrev pub some_of : Choices → Bout → ℕ → Numbers
some_of c b some = group c.nodes b.node some

abbrev pub rest_of : Choices → Bout → ℕ → Numbers
rest_of c b some = group c.nodes b.node (rest c.nodes some)

-- ---- the parts of a bout

abbrev pub line : Choices → Bout → Numbers → Fault → FaultParts
line c b to fault = record { from = pos b.node; to = to; periods = pos b.first ∷ pos b.last ∷ []; slots = slots_of c fault; effect = effect_of fault }

abbrev pub lines_by : Choices → Bout → Conduct → List FaultParts
lines_by c b (Alike fault lie) = line c b all fault ∷ []
lines_by c b (Apart some fault None lies) = line c b (some_of c b some) fault ∷ []
lines_by c b (Apart some fault (Some other) lies) = line c b (some_of c b some) fault ∷ line c b (rest_of c b some) other ∷ []

abbrev pub lines_of : Choices → Bout → List FaultParts
lines_of c b = lines_by c b b.conduct

abbrev pub lie : Bout → Numbers → ℤ → LieParts
lie b to by = record { from = pos b.node; to = to; periods = pos b.first ∷ pos b.last ∷ []; by = by }

abbrev pub lies_by : Choices → Bout → Conduct → List LieParts
lies_by c b (Alike fault None) = []
lies_by c b (Alike fault (Some by)) = lie b all by ∷ []
lies_by c b (Apart some fault other None) = []
lies_by c b (Apart some fault other (Some bys)) = lie b (some_of c b some) bys.0 ∷ lie b (rest_of c b some) bys.1 ∷ []

abbrev pub lies_of : Choices → Bout → List LieParts
lies_of c b = lies_by c b b.conduct

-- ---- restarts

-- whether the node of a bout restarts in period p
abbrev pub restarts_in : Choices → ℕ → Bout → Bool
restarts_in c p b = nat_lt 0 c.restart && (b.last + c.restart == p)

abbrev pub restart_at : ℕ → Bout → RestartParts
restart_at p b = record { node = pos b.node; period = pos p }

abbrev pub restarts_at : Choices → List Bout → ℕ → List RestartParts
restarts_at c bs p = map (restart_at p) (filter (restarts_in c p) bs)

-- period by period
abbrev pub restarts_of : Choices → List Bout → List RestartParts
restarts_of c bs = flat_map (restarts_at c bs) (range_with_len 1 (c.periods - 1))
