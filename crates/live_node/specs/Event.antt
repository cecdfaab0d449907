-- The events that a node is told, and the lines that tell them.
use Rattle.std.specs.Prelude.{ℕ, ◌+◌, ◌-◌, ◌*◌, ◌^◌, ◌==◌, ◌&&◌, nat_le, ℤ, pos, neg_ℤ, List, [], ◌∷◌, Option, None, Some, option_map, option_and_then, if◌then◌else◌, codes, decimal}
use Rattle.std.specs.List.{fold, slice_split}
use Rattle.std.specs.Result.{result_ok}
use Rattle.std.specs.Str.{bytes_eq}
use Rattle.hex.specs.Hex.{decode_of}
use Rattle.slot_plan.specs.Ticks.{last_tick}

pub data Event : Type 0 where
  Begin : Option ℕ → Event  -- the next period begins, or this one
  Deliver : ℕ → ℕ → List ℕ → Event  -- from a node, at a tick, these bytes arrive in the open slot
  End : Event  -- the open slot ends
  Restart : Event  -- the node forgets all
  Reading : ℕ → ℤ → Event  -- what the node reads of a channel in the next period
  Ahead : ℕ → ℤ → Event  -- how far the clock of a node is ahead of its own, as it reads it in this period

-- ---- words

-- the words of a line: one space stands between two of them
abbrev pub words : List ℕ → List (List ℕ)
words line = slice_split (λ c. c == 32) line

-- the number whose digits these are
abbrev pub of_digits : List ℕ → ℕ
of_digits word = fold (λ n c. 10 * n + (c - 48)) 0 word

-- the number whose decimal text a word is, where it is at most `most`
abbrev pub number_in : ℕ → List ℕ → Option ℕ
number_in most word = if bytes_eq word (decimal (of_digits word)) && nat_le (of_digits word) most then Some (of_digits word) else None

-- how far from 0 a value may be
abbrev pub value_limit : ℕ
value_limit = 2 ^ 42

-- the negative number of this size; 0 has no sign
abbrev pub negative : ℕ → Option ℤ
negative n = if n == 0 then None else Some (neg_ℤ (pos n))

-- the value that a word is, behind a minus sign where it is negative
abbrev pub value_in : List ℕ → Option ℤ
value_in [] = None
value_in (c ∷ cs) = if c == 45 then option_and_then negative (number_in value_limit cs) else option_map pos (number_in value_limit (c ∷ cs))

-- the bytes that a word is in hexadecimal, in letters of either case; no bytes are `-`
abbrev pub bytes_in : List ℕ → Option (List ℕ)
bytes_in [] = None
bytes_in (c ∷ cs) = if bytes_eq (c ∷ cs) (codes "-") then Some [] else result_ok (decode_of (c ∷ cs))

-- ---- lines

-- the second step, where the first gave something
infixl 10 ◌>>=◌
abbrev pub ◌>>=◌ : {A B : Type 0} → Option A → (A → Option B) → Option B
o >>= f = option_and_then f o

abbrev pub of_one_word : List ℕ → Option Event
of_one_word w =
    if bytes_eq w (codes "begin") then Some (Begin None)
    else (if bytes_eq w (codes "end") then Some End
    else (if bytes_eq w (codes "restart") then Some Restart else None))

-- `begin P`
abbrev pub of_two_words : List ℕ → List ℕ → Option Event
of_two_words w x = if bytes_eq w (codes "begin") then option_map (λ p. Begin (Some p)) (number_in (2 ^ 32 - 1) x) else None

-- `reading C V` and `ahead J V`: a channel or a node, and a value
abbrev pub of_three_words : List ℕ → List ℕ → List ℕ → Option Event
of_three_words w x y =
    if bytes_eq w (codes "reading") then (do
      c ← number_in 7 x
      v ← value_in y
      Some (Reading c v))
    else (if bytes_eq w (codes "ahead") then (do
      j ← number_in 15 x
      v ← value_in y
      Some (Ahead j v))
    else None)

-- `deliver FROM TICK HEX`: a node, a tick, and bytes
abbrev pub of_four_words : List ℕ → List ℕ → List ℕ → List ℕ → Option Event
of_four_words w x y z =
    if bytes_eq w (codes "deliver") then (do
      from ← number_in 15 x
      tick ← number_in last_tick y
      bytes ← bytes_in z
      Some (Deliver from tick bytes))
    else None

abbrev pub of_words : List (List ℕ) → Option Event
of_words (w ∷ []) = of_one_word w
of_words (w ∷ x ∷ []) = of_two_words w x
of_words (w ∷ x ∷ y ∷ []) = of_three_words w x y
of_words (w ∷ x ∷ y ∷ z ∷ []) = of_four_words w x y z
of_words _ = None

-- the event that a line tells, if any
abbrev pub event_of : List ℕ → Option Event
event_of line = of_words (words line)
