-- What a call that reads a part answers.
use Rattle.std.specs.Prelude.{◌≡◌, Option, Some, None, Result, Ok, Err}
use Rattle.json_parts.specs.declared.error.PartError.{PartError}
use Rattle.json_parts.specs.declared.error.PartError.TheVariants.{NoMemory, NoPart}

-- where the definitions read this part, it is the one that is given, as `seen` sees it; where they read none, NoPart is answered.
-- NoMemory may be answered at any time
abbrev pub Gives : {A X : Type 0} → (A → X) → Option X → Result A PartError → Type 0
Gives seen part (Ok a) = part ≡ Some (seen a)
Gives seen part (Err NoMemory) = Unit {0}
Gives seen part (Err NoPart) = part ≡ None
