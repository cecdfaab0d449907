-- A loop that replaces each element of a list.
use Rattle.std.proofs.Common.{ℕ, ◌≡◌, ◌<◌, ◌+◌, Bool, true, false, cond, List, [], ◌∷◌, ◌++◌, set, map, length, take, drop, get_or, sym, ap, ◌∙◌, arith}
use Rattle.std.specs.Prelude.{All}
use Rattle.std.proofs.lemmas.List.{get_or_default, append_assoc, append-nil, map-append}
use Rattle.std.proofs.lemmas.List.Edits.{map_over_more}
use Rattle.node_grid.specs.NodeSet.{ids_where}
use Rattle.node_grid.specs.MaskLaws.{ids_where-more}
use Rattle.node_grid.specs.ListFacts.{holds_here}
use Rattle.run_judged.specs.declared.illness.Illness.{Illness}
use Rattle.run_judged.specs.declared.illness.Sign.{Sign}
use Rattle.run_judged.specs.declared.found.Findings.{Findings}
use Rattle.run_judged.specs.Found.{sign_by}
use Rattle.run_judged.specs.Growing.{begun, grown}

-- the step at an illness
pub goes_on : {capacity : ℕ} (f : Findings capacity) (xs ys : List Illness) (i : ℕ) (d new : Illness) (s : Sign) → i < length xs → length ys ≡ length xs
    → ys ≡ map (λ x. grown f.period (sign_by f x.node) x) (take i xs) ++ drop i xs → s ≡ sign_by f (get_or ys i d).node → new ≡ grown f.period s (get_or ys i d)
    → set ys i new ≡ map (λ x. grown f.period (sign_by f x.node) x) (take (i + 1) xs) ++ drop (i + 1) xs
goes_on f xs ys i d new s low long e sign now =
    let x = get_or ys i d in
    let there : x ≡ get_or ys i x = get_or_default ys i d x (omega arith) in
    ap (set ys i) (now ∙ ap (λ (t : Sign). grown f.period t x) sign) ∙ map_over_more (λ x. grown f.period (sign_by f x.node) x) xs ys i x low e there

pub held : {X : Type 0} (P : X → Type 0) (f : X → X) (xs ys : List X) (i : ℕ) (d : X) → i < length xs → length ys ≡ length xs → ys ≡ map f (take i xs) ++ drop i xs → All P xs → P (get_or ys i d)
held P f xs ys i d low long e all = let x = get_or ys i d in holds_here P f xs ys i x low e (get_or_default ys i d x (omega arith)) all

-- the step at a node whose illness begins, and at another one
pub begins : {capacity : ℕ} (f : Findings capacity) (is_new : ℕ → Bool) (xs ys zs : List Illness) (j : ℕ) (x : Illness) (s : Sign)
    → ys ≡ xs ++ map (λ k. begun f.period k (sign_by f k)) (ids_where is_new j) → is_new j ≡ true → s ≡ sign_by f j → x ≡ begun f.period j s → zs ≡ ys ++ x ∷ []
    → zs ≡ xs ++ map (λ k. begun f.period k (sign_by f k)) (ids_where is_new (j + 1))
begins f is_new xs ys zs j x s e on sign is added =
    let g = λ (k : ℕ). begun f.period k (sign_by f k) in
    let old = ids_where is_new j in
    let more : ids_where is_new (j + 1) ≡ old ++ j ∷ [] = ids_where-more is_new j ∙ ap (λ (b : Bool). old ++ cond b (j ∷ []) []) on in
    added ∙ ap (λ (ws : List Illness). ws ++ x ∷ []) e ∙ append_assoc xs (map g old) (x ∷ [])
    ∙ ap (λ (y : Illness). xs ++ (map g old ++ y ∷ [])) (is ∙ ap (begun f.period j) sign)
    ∙ ap (λ (ws : List Illness). xs ++ ws) (sym (map-append g old (j ∷ [])) ∙ ap (map g) (sym more))

pub begins_not : {capacity : ℕ} (f : Findings capacity) (is_new : ℕ → Bool) (xs ys : List Illness) (j : ℕ)
    → ys ≡ xs ++ map (λ k. begun f.period k (sign_by f k)) (ids_where is_new j) → is_new j ≡ false → ys ≡ xs ++ map (λ k. begun f.period k (sign_by f k)) (ids_where is_new (j + 1))
begins_not f is_new xs ys j e off =
    let old = ids_where is_new j in
    let same : old ≡ ids_where is_new (j + 1) = sym (ids_where-more is_new j ∙ ap (λ (b : Bool). old ++ cond b (j ∷ []) []) off ∙ append-nil old) in
    e ∙ ap (λ (js : List ℕ). xs ++ map (λ k. begun f.period k (sign_by f k)) js) same
