-- How far the votes and the clocks of sound nodes are apart in a period, by its record.
use Rattle.std.specs.Prelude.{ℕ, ℤ, pos, Bool, List, [], ◌∷◌, Option, None, Some, option_map, slice_get, slice_index_or, if◌then◌else◌}
use Rattle.std.specs.Int.{int_min, int_max}
use Rattle.std.specs.List.{filter_map}
use Rattle.node_grid.specs.declared.class.Class.TheVariants.{N}
use Rattle.node_grid.specs.Class.{is_sound}
use Rattle.node_grid.specs.NodeSet.{ids_below}
use Rattle.mme_vote.specs.Vote.{distance}
use Rattle.node_steps.specs.Outcome.{Outcome}
use Rattle.cluster_periods.specs.Record.{PeriodView, ClockShown}
use Rattle.run_judged.specs.Numbers.{greatest}

-- the least and the greatest number, with one more, with one that may be missing, and with some more
abbrev pub widened : Option (ℤ × ℤ) → ℤ → ℤ × ℤ
widened None x = (x, x)
widened (Some r) x = (int_min r.0 x, int_max r.1 x)

abbrev pub with_number : Option (ℤ × ℤ) → Option ℤ → Option (ℤ × ℤ)
with_number r None = r
with_number r (Some x) = Some (widened r x)

abbrev pub range_with : Option (ℤ × ℤ) → List ℤ → Option (ℤ × ℤ)
range_with r [] = r
range_with r (x ∷ xs) = range_with (Some (widened r x)) xs

-- how far they are apart
abbrev pub width : Option (ℤ × ℤ) → Option ℕ
width r = option_map (λ b. distance b.0 b.1) r

-- how far the numbers of a list are apart, if it has one
abbrev pub apart : List ℤ → Option ℕ
apart xs = width (range_with None xs)

-- ---- votes

abbrev pub is_sound_in : PeriodView → ℕ → Bool
is_sound_in r j = is_sound (slice_index_or r.classes j N)

-- a node votes on due channels alone
abbrev pub vote_on : Option Outcome → ℕ → Option ℤ
vote_on None c = None
vote_on (Some o) c = slice_index_or o.votes c None

-- the votes of sound nodes on a channel
abbrev pub vote_in : PeriodView → ℕ → ℕ → Option ℤ
vote_in r c j = if is_sound_in r j then vote_on (slice_get r.records j) c else None

abbrev pub votes_in : PeriodView → ℕ → List ℤ
votes_in r c = filter_map (vote_in r c) (ids_below r.nodes)

-- how far they are apart
abbrev pub votes_apart : PeriodView → ℕ → Option ℕ
votes_apart r c = apart (votes_in r c)

-- in a claimed period, on any of the first channels
abbrev pub spread_in : PeriodView → ℕ → Option ℕ
spread_in r channels = if r.claim then greatest (votes_apart r) channels else None

-- ---- clocks

abbrev pub offset_of : Option ClockShown → ℕ → Option ℤ
offset_of None j = None
offset_of (Some k) j = Some (slice_index_or k.offset j (pos 0))

-- where the clocks of sound nodes stand after the period
abbrev pub offset_in : PeriodView → ℕ → Option ℤ
offset_in r j = if is_sound_in r j then offset_of r.clock j else None

abbrev pub offsets_in : PeriodView → List ℤ
offsets_in r = filter_map (offset_in r) (ids_below r.nodes)

abbrev pub clocks_apart : PeriodView → Option ℕ
clocks_apart r = apart (offsets_in r)

-- in a claimed period
abbrev pub skew_in : PeriodView → Option ℕ
skew_in r = if r.claim then clocks_apart r else None
