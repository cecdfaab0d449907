-- The printed line of the clocks of a period.
use Rattle.std.specs.Fmt.{signed_decimal}
use Rattle.std.specs.Int.{int_min, int_max}
use Rattle.std.specs.List.{fold}
use Rattle.std.specs.Prelude.{ℕ, ℤ, List, [], ◌∷◌, ◌++◌, map, take, Option, None, Some, codes, decimal, if◌then◌else◌}
use Rattle.node_grid.specs.declared.class.Class.{Class}
use Rattle.node_grid.specs.Class.{is_sound}
use Rattle.mme_vote.specs.Vote.{distance}
use Rattle.cluster_periods.specs.Record.{ClockShown, PeriodView}
use Rattle.run_text.specs.Text.{separated}

-- the numbers of the sound nodes
abbrev pub sound_numbers : List Class → List ℤ → List ℤ
sound_numbers (c ∷ cs) (x ∷ xs) = if is_sound c then x ∷ sound_numbers cs xs else sound_numbers cs xs
sound_numbers _ _ = []

-- the least and the greatest of some numbers, and with one more
abbrev pub range_of : List ℤ → Option (ℤ × ℤ)
range_of [] = None
range_of (x ∷ xs) = Some (fold int_min x xs, fold int_max x xs)

abbrev pub widened : Option (ℤ × ℤ) → ℤ → ℤ × ℤ
widened None x = (x, x)
widened (Some r) x = (int_min r.0 x, int_max r.1 x)

-- how far they are apart; of no numbers it is `-`
abbrev pub spread_text : Option (ℤ × ℤ) → List ℕ
spread_text None = codes "-"
spread_text (Some r) = decimal (distance r.1 r.0)

-- numbers with signs, joined by commas
abbrev pub signed_text : List ℤ → List ℕ
signed_text xs = separated (codes ",") (map signed_decimal xs)

-- the line of clocks: how far those of sound nodes are apart, and the offset of each node in use
abbrev pub clock_line : ℕ → List Class → List ℤ → List ℕ
clock_line nodes classes offset =
    codes "clock skew " ++ spread_text (range_of (sound_numbers (take nodes classes) (take nodes offset)))
    ++ codes " offsets " ++ signed_text (take nodes offset) ++ codes "\n"

-- of a period, where it has clocks
abbrev pub clock_text : PeriodView → Option ClockShown → List ℕ
clock_text t None = []
clock_text t (Some k) = clock_line t.nodes t.classes k.offset
