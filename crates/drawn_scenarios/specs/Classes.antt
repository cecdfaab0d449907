-- The classes of faults that are given.
use Rattle.std.specs.Prelude.{Bool, List, [], ◌∷◌, ◌++◌, if◌then◌else◌}
use Rattle.drawn_scenarios.specs.declared.choices.FaultClass.{FaultClass}
use Rattle.drawn_scenarios.specs.declared.choices.FaultClass.TheVariants.{Benign, Symmetric, Asymmetric}
use Rattle.drawn_scenarios.specs.declared.choices.Classes.{Classes}

abbrev pub if_so : Bool → FaultClass → List FaultClass
if_so b class = if b then class ∷ [] else []

-- in the order benign, symmetric, asymmetric
abbrev pub classes_of : Classes → List FaultClass
classes_of c = if_so c.benign Benign ++ (if_so c.symmetric Symmetric ++ if_so c.asymmetric Asymmetric)
