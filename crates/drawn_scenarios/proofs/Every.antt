-- Lists each of whose parts is so.
use Rattle.std.proofs.Common.{◌≡◌, Bool, true, false, cond, List, [], ◌∷◌, refl}
use Rattle.std.specs.List.{AllByRecursion}

pub every_both : {X : Type 0} (P Q : X → Type 0) (xs : List X) → AllByRecursion P xs → AllByRecursion Q xs → AllByRecursion (λ x. P x × Q x) xs
every_both P Q [] a b = tt
every_both P Q (x ∷ xs) a b = ((a.0, b.0), every_both P Q xs a.1 b.1)

-- what holds of either choice
pub either : {A B : Type 0} (P : B → Type 0) (t : Bool) (f g : A → B) (x : A) → (t ≡ true → P (f x)) → (t ≡ false → P (g x)) → P (cond t f g x)
either P true f g x a b = a refl
either P false f g x a b = b refl
