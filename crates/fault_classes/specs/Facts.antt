-- Facts that several crates cite.
use Rattle.std.proofs.Common.{List, None, Option, Some, [], ap, false, refl, sym, true, ◌∷◌, ◌≡◌}
use Rattle.std.specs.List.{AllByRecursion, list_any}
use Rattle.std.specs.Option.{is_some, option_map}
use Rattle.fault_classes.specs.Change.{Change, is_untouched}
use Rattle.fault_classes.specs.Line.{Line, shares}

pub change_leaves : {X : Type 0} (f : X → Change) (o : Option X) (e : Option Change) → option_map f o ≡ e → is_some o ≡ false → is_untouched e ≡ true
change_leaves f None e h s = ap is_untouched (sym h)
change_leaves f (Some x) e h s = cc

pub change_touches : {X : Type 0} (f : X → Change) (o : Option X) (e : Option Change) → option_map f o ≡ e → is_some o ≡ true → is_untouched e ≡ false
change_touches f None e h s = cc
change_touches f (Some x) e h s = ap is_untouched (sym h)

pub none_before : (ls : List Line) → AllByRecursion (λ m. list_any (shares m) [] ≡ false) ls
none_before [] = tt
none_before (l ∷ ls) = (refl, none_before ls)
