-- What so many steps make of something: the slots of a period, and the periods of a node, of all nodes and of their clocks.
use Rattle.std.specs.Prelude.{ℕ, zero, suc}

-- x after the steps 0 to n - 1, one after another
abbrev pub after_steps : {X : Type 0} → (ℕ → X → X) → ℕ → X → X
after_steps step zero x = x
after_steps step (suc n) x = step n (after_steps step n x)
