-- Two changes are the same exactly where they are equal.
use Rattle.std.proofs.Common.{◌≡◌, true, Option, None, Some, refl, ap, ap₂, eqb-true, eq-eqb}
use Rattle.std.proofs.lemmas.Bool.{and_parts, and_from}
use Rattle.std.proofs.lemmas.Slice.Eq.{bytes_eq-Decides}
use Rattle.fault_classes.specs.Change.{Change, same_change, same_effect, is_untouched}
use Rattle.fault_classes.specs.Change.Change.{Drop, Cut, Twice, Time, Set, Raw}

pub same_change-refl : (c : Change) → same_change c c ≡ true
same_change-refl Drop = refl
same_change-refl (Cut k) = eq-eqb k k refl
same_change-refl Twice = refl
same_change-refl (Time t) = eq-eqb t t refl
same_change-refl (Set at bytes) = and_from _ _ (eq-eqb at at refl) ((bytes_eq-Decides bytes bytes).1 refl)
same_change-refl (Raw bytes) = (bytes_eq-Decides bytes bytes).1 refl

pub same_change_is : (c d : Change) → same_change c d ≡ true → c ≡ d
same_change_is Drop Drop h = refl
same_change_is (Cut j) (Cut k) h = ap Cut (eqb-true j k h)
same_change_is Twice Twice h = refl
same_change_is (Time s) (Time t) h = ap Time (eqb-true s t h)
same_change_is (Set a xs) (Set b ys) h = let p = and_parts _ _ h in ap₂ Set (eqb-true a b p.0) ((bytes_eq-Decides xs ys).0 p.1)
same_change_is (Raw xs) (Raw ys) h = ap Raw ((bytes_eq-Decides xs ys).0 h)
same_change_is Drop _ h = cc
same_change_is (Cut k) _ h = cc
same_change_is Twice _ h = cc
same_change_is (Time t) _ h = cc
same_change_is (Set at xs) _ h = cc
same_change_is (Raw xs) _ h = cc

pub same_effect-refl : (e : Option Change) → same_effect e e ≡ true
same_effect-refl None = refl
same_effect-refl (Some c) = same_change-refl c

pub same_effect_is : (e f : Option Change) → same_effect e f ≡ true → e ≡ f
same_effect_is None None h = refl
same_effect_is (Some c) (Some d) h = ap Some (same_change_is c d h)
same_effect_is None (Some d) h = cc
same_effect_is (Some c) None h = cc

pub untouched_is : (e : Option Change) → is_untouched e ≡ true → e ≡ None
untouched_is None h = refl
untouched_is (Some c) h = cc
