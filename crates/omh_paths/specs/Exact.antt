-- Claims and rows are equal only where they are the same.
use Rattle.std.proofs.Common.{ℕ, List, ◌==◌, refl, eq-eqb, eqb-true}
use Rattle.std.specs.Cmp.Lexicographic.{pointwise}
use Rattle.std.proofs.lemmas.Slice.Eq.{bytes_eq-Decides}
use Rattle.omh_paths.specs.Wrapped.{IsExact}

pub numbers_exact : IsExact {V = ℕ} ◌==◌
numbers_exact = record { finds = λ x. eq-eqb x x refl; tells = λ x y h. eqb-true x y h }

pub rows_exact : IsExact {V = List ℕ} (pointwise {A = ℕ} ◌==◌)
rows_exact = record { finds = λ xs. (bytes_eq-Decides xs xs).1 refl; tells = λ xs ys h. (bytes_eq-Decides xs ys).0 h }
