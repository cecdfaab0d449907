-- What a fault line does to a frame, as clauses see it: bytes are a list.
use Rattle.std.specs.Prelude.{ℕ, Bool, true, false, ◌&&◌, ◌==◌, List, Option, None, Some}
use Rattle.std.specs.Cmp.Lexicographic.{pointwise}
use Rattle.fault_classes.specs.declared.effect.Effect.{Effect}
use Rattle.fault_classes.specs.declared.effect.Effect.TheVariants as code

pub data Change : Type 0 where
  Drop : Change
  Cut : ℕ → Change
  Twice : Change
  Time : ℕ → Change
  Set : ℕ → List ℕ → Change
  Raw : List ℕ → Change

abbrev pub change_of : Effect → Change
change_of code.Drop = Drop
change_of (code.Cut k) = Cut k
change_of code.Twice = Twice
change_of (code.Time t) = Time t
change_of (code.Set at bytes) = Set at bytes.items
change_of (code.Raw bytes) = Raw bytes.items

-- whether every receiver sees by itself that the frame is faulty
abbrev pub is_manifest_change : Change → Bool
is_manifest_change (Set at bytes) = false
is_manifest_change (Raw bytes) = false
is_manifest_change _ = true

abbrev pub same_change : Change → Change → Bool
same_change Drop Drop = true
same_change (Cut j) (Cut k) = j == k
same_change Twice Twice = true
same_change (Time s) (Time t) = s == t
same_change (Set a xs) (Set b ys) = a == b && pointwise ◌==◌ xs ys
same_change (Raw xs) (Raw ys) = pointwise ◌==◌ xs ys
same_change _ _ = false

-- what befalls a frame is None where no line touches it

abbrev pub is_untouched : Option Change → Bool
is_untouched None = true
is_untouched (Some c) = false

abbrev pub is_manifest : Option Change → Bool
is_manifest None = false
is_manifest (Some c) = is_manifest_change c

abbrev pub same_effect : Option Change → Option Change → Bool
same_effect None None = true
same_effect (Some c) (Some d) = same_change c d
same_effect _ _ = false
