-- What is seen of the lines of a source, and what each call does.
use Rattle.std.specs.Prelude.{◌≡◌, ℕ, ◌+◌, ◌-◌, ◌^◌, ◌<◌, ◌≤◌, min, Bool, true, false, List, [], ◌∷◌, ◌++◌, length, take, Option, Result, Ok, Err}
use Rattle.std.specs.Io.KnownBytes.{Consumes, Keeps, IsAtEnd}
use Rattle.span_io.specs.Causes.{Rose}
use Rattle.input_lines.specs.Lines.{line_feed, IsUnbroken}
use Rattle.input_lines.specs.declared.lines.LineError.{LineError}
use Rattle.input_lines.specs.declared.lines.LineError.TheVariants.{Failed, TooLong, NoMemory}

-- what was read and not taken, the line that was taken last, the most bytes that a line may have, and for how many bytes there is room
pub record LinesView : Type 0 where
  pub rest : List ℕ
  pub line : List ℕ
  pub limit : ℕ
  pub room : ℕ

-- the first line of the rest is taken, with its line feed
pub record TakesLine (old new : LinesView) : Type 0 where
  pub splits : old.rest ≡ new.line ++ line_feed ∷ new.rest
  pub unbroken : IsUnbroken new.line
  pub short : length new.line ≤ old.limit
  pub limit : new.limit ≡ old.limit
  pub room : new.room ≡ old.room

-- more than limit bytes come before the first line feed, or come and there is none
pub record IsLong (limit : ℕ) (rest : List ℕ) : Type 0 where
  pub more : limit < length rest
  pub unbroken : IsUnbroken (take (limit + 1) rest)

-- what a call of `take` does
abbrev pub Takes : LinesView → LinesView → Result Bool LineError → Type 0
Takes old new (Ok true) = TakesLine old new
Takes old new (Ok false) = IsUnbroken old.rest × (length old.rest ≤ old.limit) × (new ≡ old)
Takes old new (Err TooLong) = IsLong old.limit old.rest × (new ≡ old)
Takes old new (Err Failed) = ⊥
Takes old new (Err NoMemory) = ⊥

-- a line may have so many bytes from now on, and there is room for it and its line feed
pub record HasLimit (limit : ℕ) (old new : LinesView) : Type 0 where
  pub rest : new.rest ≡ old.rest
  pub line : new.line ≡ old.line
  pub limited : new.limit ≡ limit
  pub room : limit < new.room

-- what is seen of a source: what is left, how many bytes it gave, and how many faults it counted
pub record SourceView : Type 0 where
  pub left : Option (List ℕ)
  pub given : ℕ
  pub faults : ℕ

-- the source gave these bytes
pub record GivesBytes (old new : SourceView) (bytes : List ℕ) : Type 0 where
  pub left : Consumes old.left new.left bytes
  pub given : min (old.given + length bytes) (2 ^ 64 - 1) ≤ new.given
  pub faults : new.faults ≡ old.faults

-- the source gave nothing
pub record GivesNothing (old new : SourceView) : Type 0 where
  pub left : Keeps old.left new.left
  pub given : new.given ≡ old.given

-- these bytes were read behind the rest, and the line that was taken last was forgotten
pub record HasMore (old new : LinesView) (bytes : List ℕ) : Type 0 where
  pub rest : new.rest ≡ old.rest ++ bytes
  pub line : new.line ≡ []
  pub limit : new.limit ≡ old.limit
  pub room : old.room ≤ new.room

-- What a call of `read` does. It wants memory only where the rest fills the room
abbrev pub Reads : LinesView → LinesView → SourceView → SourceView → Result Bool LineError → Type 0
Reads old new before now (Ok true) = (bytes : List ℕ) × (0 < length bytes) × GivesBytes before now bytes × HasMore old new bytes
Reads old new before now (Ok false) = IsAtEnd now.left × GivesBytes before now [] × HasMore old new []
Reads old new before now (Err Failed) = GivesNothing before now × Rose before.faults now.faults × HasMore old new []
Reads old new before now (Err NoMemory) = (old.room ≤ length old.rest) × (now ≡ before) × HasMore old new []
Reads old new before now (Err TooLong) = ⊥

-- What a call of `read_line` does: it reads until the next line is whole, and takes it. Where the input ends before, what was not taken is the line
abbrev pub ReadsLine : LinesView → LinesView → SourceView → SourceView → Result Bool LineError → Type 0
ReadsLine old new before now (Ok true) = (bytes : List ℕ) × GivesBytes before now bytes × TakesLine (record old { rest = old.rest ++ bytes }) (record new { room = old.room })
ReadsLine old new before now (Ok false) = (bytes : List ℕ) × GivesBytes before now bytes × IsAtEnd now.left × (new.line ≡ old.rest ++ bytes) × (new.rest ≡ []) × IsUnbroken new.line × (length new.line ≤ old.limit)
ReadsLine old new before now (Err TooLong) = (bytes : List ℕ) × GivesBytes before now bytes × IsLong old.limit new.rest × (new.rest ≡ old.rest ++ bytes)
ReadsLine old new before now (Err Failed) = (bytes : List ℕ) × Consumes before.left now.left bytes × Rose before.faults now.faults × IsUnbroken new.rest × (new.rest ≡ old.rest ++ bytes)
ReadsLine old new before now (Err NoMemory) = (bytes : List ℕ) × GivesBytes before now bytes × IsUnbroken new.rest × (new.rest ≡ old.rest ++ bytes)
