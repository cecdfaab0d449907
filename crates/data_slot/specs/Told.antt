-- What a node has of the values of the due channels, by sender and channel.
use Rattle.std.specs.Prelude.{ℕ, ℤ, pos, List, Option, None, option_map, slice_index_or}

-- the value of a channel among values by channel, if there are any
abbrev pub at_channel : Option (List ℤ) → ℕ → Option ℤ
at_channel told c = option_map (λ values. slice_index_or values c (pos 0)) told

-- that of node q
abbrev pub value_told : List (Option (List ℤ)) → ℕ → ℕ → Option ℤ
value_told told q c = at_channel (slice_index_or told q None) c
