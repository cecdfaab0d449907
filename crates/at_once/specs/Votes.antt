-- The last votes of all nodes, by channel, and from whom each node took its own over.
use Rattle.std.specs.Prelude.{◌≡◌, ◌<◌, ℕ, ℤ, List, [], Option, slice_index_or}

-- each node has the last votes of the node from which it took them over, or is that itself
abbrev pub AreVoters : ℕ → List (List (Option ℤ)) → List ℕ → Type 0
AreVoters n votes voters = (i : ℕ) → i < n → slice_index_or votes (slice_index_or voters i 0) [] ≡ slice_index_or votes i []
