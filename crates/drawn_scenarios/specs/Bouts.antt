-- Which nodes fall ill, when, for how long and how, as it is drawn.
use Rattle.std.specs.Prelude.{ℕ, zero, suc, ◌+◌, ◌-◌, ◌*◌, ◌/◌, ◌%◌, ◌^◌, ◌==◌, min, ℤ, pos, ◌-ℤ◌, nat_lt, List, [], ◌∷◌, ◌++◌, length, slice_index_or, Option, None, Some, if◌then◌else◌}
use Rattle.draws.specs.Draws.{Drawing, draw, draw_wide, ◌>>=◌, pure, generator_of}
use Rattle.drawn_scenarios.specs.declared.choices.FaultClass.{FaultClass}
use Rattle.drawn_scenarios.specs.declared.choices.FaultClass.TheVariants.{Benign, Symmetric, Asymmetric}
use Rattle.drawn_scenarios.specs.declared.choices.ClockChoices.{ClockChoices}
use Rattle.drawn_scenarios.specs.declared.choices.Choices.{Choices}
use Rattle.drawn_scenarios.specs.declared.bout.Fault.{Fault}
use Rattle.drawn_scenarios.specs.declared.bout.Fault.TheVariants.{Silent, Late, Twice, Value, Accusation}
use Rattle.drawn_scenarios.specs.declared.bout.Conduct.{Conduct}
use Rattle.drawn_scenarios.specs.declared.bout.Conduct.TheVariants.{Alike, Apart}
use Rattle.drawn_scenarios.specs.declared.bout.Bout.{Bout}
use Rattle.drawn_scenarios.specs.Classes.{classes_of}

-- ---- what a node does that is ill

abbrev pub disturbance : ℕ → Fault
disturbance k = if k == 0 then Silent else (if k == 1 then Late else Twice)

-- a sensor, and the results of copies
abbrev pub channel_count : Choices → ℕ
channel_count c = if c.copies then 2 else 1

abbrev pub value_drawn : Choices → Drawing Fault
value_drawn c = do
  channel ← draw (channel_count c)
  value ← draw 4001
  pure (Value channel value)

-- another node is accused
abbrev pub accusation_drawn : Choices → ℕ → ℕ → Drawing Fault
accusation_drawn c j kinds = do
  k ← draw (c.nodes - 1)
  pure (Accusation ((j + 1 + k) % c.nodes) kinds)

-- two different values of one channel
abbrev pub two_values : Choices → Drawing (Fault × Option Fault)
two_values c = do
  channel ← draw (channel_count c)
  value ← draw 4001
  more ← draw 4000
  pure (Value channel value, Some (Value channel ((value + 1 + more) % 4001)))

abbrev pub accusation_to_some : Choices → ℕ → Drawing (Fault × Option Fault)
accusation_to_some c j = do
  fault ← accusation_drawn c j 129
  pure (fault, None)

-- what some are told and what the rest are
abbrev pub split_drawn : Choices → ℕ → ℕ → Drawing (Fault × Option Fault)
split_drawn c j way = if nat_lt way 2 then two_values c else (if way == 2 then pure (Silent, None) else accusation_to_some c j)

abbrev pub lie_drawn : ℕ → Drawing ℤ
lie_drawn most = do
  x ← draw_wide (2 * most + 1)
  pure (pos x -ℤ pos most)

-- where there are clocks

abbrev pub maybe_lie : Option ClockChoices → Drawing (Option ℤ)
maybe_lie None = pure None
maybe_lie (Some k) = do
  x ← lie_drawn k.lie
  pure (Some x)

abbrev pub maybe_lies : Option ClockChoices → Drawing (Option (ℤ × ℤ))
maybe_lies None = pure None
maybe_lies (Some k) = do
  x ← lie_drawn k.lie
  y ← lie_drawn k.lie
  pure (Some (x, y))

abbrev pub benign : Drawing Conduct
benign = do
  k ← draw 3
  pure (Alike (disturbance k) None)

abbrev pub symmetric : Choices → ℕ → Drawing Conduct
symmetric c j = do
  way ← draw 2
  fault ← (if way == 0 then value_drawn c else accusation_drawn c j 128)
  lie ← maybe_lie c.clock
  pure (Alike fault lie)

-- some are some of the others, but not none and not all
abbrev pub asymmetric : Choices → ℕ → Drawing Conduct
asymmetric c j = do
  some ← draw (2 ^ (c.nodes - 1) - 2)
  way ← draw 4
  faults ← split_drawn c j way
  lies ← maybe_lies c.clock
  pure (Apart (1 + some) faults.0 faults.1 lies)

abbrev pub conduct_drawn : Choices → ℕ → FaultClass → Drawing Conduct
conduct_drawn c j Benign = benign
conduct_drawn c j Symmetric = symmetric c j
conduct_drawn c j Asymmetric = asymmetric c j

-- ---- when it is ill

abbrev pub bout_of : Choices → ℕ → ℕ → ℕ → Conduct → Bout
bout_of c j p more conduct = record { node = j; first = p; last = min (p + more) (c.periods - 1); conduct = conduct }

-- the period in which the node of a bout is well again: one after its restart, and where there is none none that is run
abbrev pub well_after : Choices → Bout → ℕ
well_after c b = if c.restart == 0 then c.periods else b.last + c.restart + 1

abbrev pub bout_drawn : Choices → ℕ → FaultClass → ℕ → Drawing Bout
bout_drawn c j class p = do
  more ← draw c.length
  conduct ← conduct_drawn c j class
  pure (bout_of c j p more conduct)

-- the bouts of a node in n periods from period p on, of which there are at most `left`, where it is off for the first so many
abbrev pub bouts : Choices → ℕ → FaultClass → ℕ → ℕ → ℕ → ℕ → Drawing (List Bout)
bouts c j class zero p off left = pure []
bouts c j class (suc n) p (suc off) left = bouts c j class n (p + 1) off left
bouts c j class (suc n) p zero zero = pure []
bouts c j class (suc n) p zero (suc left) = do
  x ← draw 65536
  if nat_lt x c.rate
      then (do
        b ← bout_drawn c j class p
        bs ← bouts c j class n (p + 1) (well_after c b - (p + 1)) left
        pure (b ∷ bs))
      else bouts c j class n (p + 1) zero (suc left)

-- each node has at most so many, so that no scenario has more than 2048
abbrev pub most_bouts : Choices → ℕ
most_bouts c = 2048 / c.faulty

-- the bouts of a node that falls ill, whose class is drawn first
abbrev pub story : Choices → ℕ → Drawing (List Bout)
story c j = do
  k ← draw (length (classes_of c.classes))
  bouts c j (slice_index_or (classes_of c.classes) k Asymmetric) (c.periods - 1) 1 0 (most_bouts c)

-- ---- which nodes fall ill

-- so many of the n nodes from node j on, each of them as likely
abbrev pub stories : Choices → ℕ → ℕ → ℕ → Drawing (List Bout)
stories c zero j ill = pure []
stories c (suc n) j ill = do
  x ← draw (suc n)
  if nat_lt x ill
      then (do
        here ← story c j
        more ← stories c n (j + 1) (ill - 1)
        pure (here ++ more))
      else stories c n (j + 1) ill

-- all bouts of an index, whose generator is its own
unfoldable pub drawn_bouts : Choices → ℕ → ℕ → List Bout
drawn_bouts c seed index = (stories c c.nodes 0 c.faulty (generator_of (2 ^ 32 * seed + index))).0
