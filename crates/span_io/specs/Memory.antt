use Rattle.std.specs.Prelude.{ℕ, List}

-- A source in memory: the bytes left, the most that a call gives, the numbers of the calls that fail, the number of the
-- next call, the bytes given so far, and the faults so far.
pub record SourceState : Type 0 where
  pub left : List ℕ
  pub piece : ℕ
  pub fails : List ℕ
  pub call : ℕ
  pub given : ℕ
  pub faults : ℕ

-- A sink in memory: the bytes written, the most that it takes in all and in a call, the numbers of the calls that fail,
-- the number of the next call, and the faults so far.
pub record SinkState : Type 0 where
  pub written : List ℕ
  pub room : ℕ
  pub piece : ℕ
  pub fails : List ℕ
  pub call : ℕ
  pub faults : ℕ
