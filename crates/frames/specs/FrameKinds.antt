-- The kinds of frames, as numbers in a header.
use Rattle.std.specs.Prelude.{ℕ}

-- an agreed state
abbrev pub state_kind : ℕ
state_kind = 1

-- a claim, and what was heard of claims
abbrev pub claim_kind : ℕ
claim_kind = 2

abbrev pub claim_relay_kind : ℕ
claim_relay_kind = 3

-- the values of due channels
abbrev pub data_kind : ℕ
data_kind = 4

-- a row, and what was heard of rows
abbrev pub row_kind : ℕ
row_kind = 5

abbrev pub row_relay_kind : ℕ
row_relay_kind = 6

-- that the sender is cold
abbrev pub cold_kind : ℕ
cold_kind = 7
