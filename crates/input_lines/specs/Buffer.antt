-- The room in which lines come to be whole.
use Rattle.std.specs.Prelude.{◌≡◌, ◌≢◌, ℕ, ◌<◌, ◌≤◌, List, ◌++◌, length, take, slice_index, slice_range, Option, Result, MatchOption, MatchResult}
use Rattle.std.specs.Io.KnownBytes.{Consumes, Keeps, IsAtEnd}
use Rattle.input_lines.specs.Lines.{line_feed}
use Rattle.input_lines.specs.declared.buffer.Buffer.{Buffer}

-- what was read and not taken
abbrev pub unread : Buffer → List ℕ
unread b = slice_range b.bytes.items b.next b.end

-- from one place up to another there is no line feed
abbrev pub NoFeed : List ℕ → ℕ → ℕ → Type 0
NoFeed bytes from to = (k : ℕ) → from ≤ k → k < to → slice_index bytes k ≢ line_feed

-- there is a room, the places are in order and in it, and up to the place that was seen there is no line feed
pub record IsBuffer (b : Buffer) : Type 0 where
  pub room : 0 < length b.bytes.items
  pub looked : b.next ≤ b.seen
  pub seen : b.seen ≤ b.end
  pub within : b.end ≤ length b.bytes.items
  pub unbroken : NoFeed b.bytes.items b.next b.seen

-- place is that of the first line feed of what was not taken
pub record IsFeed (b : Buffer) (place : ℕ) : Type 0 where
  pub low : b.next ≤ place
  pub high : place < b.end
  pub feed : slice_index b.bytes.items place ≡ line_feed
  pub first : NoFeed b.bytes.items b.next place

-- the answer is the place of the first line feed, where there is one
abbrev pub FindsFeed : Buffer → Option ℕ → Type 0
FindsFeed b found = MatchOption found (NoFeed b.bytes.items b.next b.end) (IsFeed b)

-- there is as much room as before, or more, and all else stays
pub record IsGrown (old new : Buffer) : Type 0 where
  pub next : new.next ≡ old.next
  pub seen : new.seen ≡ old.seen
  pub end : new.end ≡ old.end
  pub room : length old.bytes.items ≤ length new.bytes.items
  pub bytes : take (length old.bytes.items) new.bytes.items ≡ old.bytes.items

-- what was read behind what was not taken was given by the source
abbrev pub Gives : {E : Type 0} → List ℕ → List ℕ → Option (List ℕ) → Option (List ℕ) → Result ℕ E → Type 0
Gives old new before now r = MatchResult r
    (λ count. (bytes : List ℕ) × (length bytes ≡ count) × Consumes before now bytes × (new ≡ old ++ bytes) × (count ≡ 0 → IsAtEnd now))
    (λ _. Keeps before now × (new ≡ old))
