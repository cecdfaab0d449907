-- What is settled for a path, by what is settled for those of one relay more.
use Rattle.std.proofs.Common.{ℕ, suc, ◌≡◌, ◌<◌, ◌≤◌, ◌+◌, ◌-◌, ◌==◌, Bool, List, [], ◌∷◌, ◌++◌, map, length, refl, ap, ◌∙◌, arith}
use Rattle.std.specs.Prelude.{if◌then◌else◌}
use Rattle.std.proofs.lemmas.List.{length_push}
use Rattle.omh_paths.specs.declared.wrapped.Wrapped.{Wrapped}
use Rattle.omh_paths.specs.Wrapped.{unwrapped}
use Rattle.omh_paths.specs.Majority.{majority}
use Rattle.omh_paths.specs.Paths.{outside}
use Rattle.omh_paths.specs.PathLaws.{map_alike, all_outside}
use Rattle.omh.specs.Omh.{Ear, own_term, settled_within, settled_at, term_at}

pub settled_at_end : {V : Type 0} (eq : V → V → Bool) (x : Ear V) (path : List ℕ) → x.rounds < length path → settled_at eq x path ≡ x.heard path
unfolding settled_within
settled_at_end eq x path long = let e : x.rounds + 1 - length path ≡ 0 = omega arith in ap (λ (n : ℕ). settled_within eq x n path) e

inner : {V : Type 0} → (V → V → Bool) → Ear V → ℕ → List ℕ → ℕ → Wrapped V
inner eq x r path q = if q == x.me then own_term x path else settled_within eq x r (path ++ q ∷ [])

settled_step : {V : Type 0} (eq : V → V → Bool) (x : Ear V) (r : ℕ) (path : List ℕ) → settled_within eq x (suc r) path ≡ unwrapped (majority eq (map (inner eq x r path) (outside x.members path)))
unfolding settled_within inner
settled_step eq x r path = refl

inner_is : {V : Type 0} (eq : V → V → Bool) (x : Ear V) (r : ℕ) (path : List ℕ) (q : ℕ) → r + length path ≡ x.rounds → inner eq x r path q ≡ term_at eq x path q
unfolding inner
inner_is eq x r path q e =
    let f : r ≡ x.rounds + 1 - length (path ++ q ∷ []) = omega (arith, length_push path q) in
    ap (λ (n : ℕ). if q == x.me then own_term x path else settled_within eq x n (path ++ q ∷ [])) f

pub settled_at_later : {V : Type 0} (eq : V → V → Bool) (x : Ear V) (path : List ℕ) → length path ≤ x.rounds
    → settled_at eq x path ≡ unwrapped (majority eq (map (term_at eq x path) (outside x.members path)))
settled_at_later {V} eq x path short =
    let r : ℕ = x.rounds - length path in
    let e : x.rounds + 1 - length path ≡ suc r = omega arith in
    let f : r + length path ≡ x.rounds = omega arith in
    ap (λ (n : ℕ). settled_within eq x n path) e ∙ settled_step eq x r path
    ∙ ap (λ (ts : List (Wrapped V)). unwrapped (majority eq ts)) (map_alike (inner eq x r path) (term_at eq x path) (outside x.members path) (all_outside x.members path _ (λ q on off. inner_is eq x r path q f)))
