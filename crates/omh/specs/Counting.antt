-- The nonfaulty nodes outnumber the asymmetric and symmetric ones, so what they say is the majority.
use Rattle.std.proofs.Common.{ℕ, suc, ◌≡◌, ◌<◌, ◌≤◌, ◌+◌, ◌*◌, Bool, true, false, not, ◌&&◌, List, [], ◌∷◌, ◌++◌, map, length, refl, sym, ap, subst, arith}
use Rattle.std.specs.List.{AllByRecursion}
use Rattle.omh_paths.specs.declared.wrapped.Wrapped.{Wrapped}
use Rattle.omh_paths.specs.declared.wrapped.Wrapped.TheVariants.{Fault}
use Rattle.omh_paths.specs.Wrapped.{same, IsExact, is_error}
use Rattle.node_grid.specs.Count.{bit, count, Distinct}
use Rattle.omh_paths.specs.Majority.{majority}
use Rattle.node_grid.specs.NodeSet.{has_id}
use Rattle.omh_paths.specs.Paths.{outside}
use Rattle.omh.specs.Omh.{counted_nodes}
use Rattle.node_grid.specs.Class.{IsEnough, is_nonfaulty, is_silent, is_symmetric, is_asymmetric}
use Rattle.node_grid.specs.declared.class.Class.{Class}
use Rattle.node_grid.specs.declared.class.Class.TheVariants.{N, J, B, S, A}
use Rattle.omh_paths.specs.MajorityLaws.{same_itself, majority_is}
use Rattle.omh_paths.specs.PathLaws.{count-outside}
use Rattle.node_grid.specs.ListLaws.{bit_le}

class_bits : (c : Class) → bit (is_nonfaulty c) + bit (is_silent c) + bit (is_symmetric c) + bit (is_asymmetric c) ≡ 1
class_bits N = refl
class_bits J = refl
class_bits B = refl
class_bits S = refl
class_bits A = refl

pub length_by_class : (class_of : ℕ → Class) (qs : List ℕ)
    → count (λ q. is_nonfaulty (class_of q)) qs + count (λ q. is_silent (class_of q)) qs + count (λ q. is_symmetric (class_of q)) qs + count (λ q. is_asymmetric (class_of q)) qs ≡ length qs
length_by_class class_of [] = refl
length_by_class class_of (q ∷ qs) =
    let here = class_bits (class_of q) in let rest = length_by_class class_of qs in omega arith

-- what a node of each class must say where v is to be the majority
pub record TermFits {V : Type 0} (class_of : ℕ → Class) (term : ℕ → Wrapped V) (v : Wrapped V) (q : ℕ) : Type 0 where
  pub says : class_of q ≡ N → term q ≡ v
  pub silent : is_silent (class_of q) ≡ true → term q ≡ Fault 0

step : {V : Type 0} {eq : V → V → Bool} → IsExact eq → (v t : Wrapped V) → is_error v ≡ false → (c : Class) → (c ≡ N → t ≡ v) → (is_silent c ≡ true → t ≡ Fault 0)
    → bit (not (is_error t)) + bit (is_nonfaulty c) ≤ 2 * bit (same eq v t) + bit (is_asymmetric c) + bit (is_symmetric c)
step {V} {eq} x v t ok N says silent =
    let e : bit (same eq v t) ≡ 1 = ap bit (subst (λ (u : Wrapped V). same eq v u ≡ true) (sym (says refl)) (same_itself x v)) in
    omega (arith, bit_le (not (is_error t)))
step {V} x v t ok J says silent = let e : bit (not (is_error t)) ≡ 0 = ap (λ (u : Wrapped V). bit (not (is_error u))) (silent refl) in omega arith
step {V} x v t ok B says silent = let e : bit (not (is_error t)) ≡ 0 = ap (λ (u : Wrapped V). bit (not (is_error u))) (silent refl) in omega arith
step x v t ok S says silent = omega (arith, bit_le (not (is_error t)))
step x v t ok A says silent = omega (arith, bit_le (not (is_error t)))

terms : {V : Type 0} {eq : V → V → Bool} → IsExact eq → (class_of : ℕ → Class) (term : ℕ → Wrapped V) (v : Wrapped V) → is_error v ≡ false → (qs : List ℕ) → AllByRecursion (TermFits class_of term v) qs
    → count (λ t. not (is_error t)) (map term qs) + count (λ q. is_nonfaulty (class_of q)) qs
    ≤ 2 * count (same eq v) (map term qs) + count (λ q. is_asymmetric (class_of q)) qs + count (λ q. is_symmetric (class_of q)) qs
terms x class_of term v ok [] h = omega arith
terms x class_of term v ok (q ∷ qs) h =
    let here = step x v (term q) ok (class_of q) h.0.says h.0.silent in
    let rest = terms x class_of term v ok qs h.1 in
    omega arith

pub majority_of_terms : {V : Type 0} {eq : V → V → Bool} → IsExact eq → (class_of : ℕ → Class) (term : ℕ → Wrapped V) (v : Wrapped V) → is_error v ≡ false → (qs : List ℕ) → AllByRecursion (TermFits class_of term v) qs
    → count (λ q. is_asymmetric (class_of q)) qs + count (λ q. is_symmetric (class_of q)) qs < count (λ q. is_nonfaulty (class_of q)) qs
    → majority eq (map term qs) ≡ v
majority_of_terms x class_of term v ok qs h more =
    let t = terms x class_of term v ok qs h in majority_is x (map term qs) v ok (omega arith)

-- with r rounds to go, the nonfaulty members outside the path outnumber the asymmetric and symmetric ones
pub more_outside : (class_of : ℕ → Class) (last : ℕ) (qs : List ℕ) (r : ℕ) → IsEnough class_of (last ∷ qs) (suc r)
    → count (λ q. is_asymmetric (class_of q)) qs + count (λ q. is_symmetric (class_of q)) qs + r < count (λ q. is_nonfaulty (class_of q)) qs
more_outside class_of last qs r enough =
    let split = length_by_class class_of qs in let here = class_bits (class_of last) in omega arith

-- so there are enough for each longer path
pub enough_longer : (class_of : ℕ → Class) (members path : List ℕ) (last q r : ℕ) → Distinct members → has_id members q ≡ true → has_id path q ≡ false
    → IsEnough class_of (last ∷ outside members path) (suc r) → IsEnough class_of (counted_nodes members path q) r
enough_longer class_of members path last q r distinct member off enough =
    let more = more_outside class_of last (outside members path) r enough in
    let same : (test : ℕ → Bool) → bit (test q) + count test (outside members (path ++ q ∷ [])) ≡ count test (outside members path) =
    λ test. let e = count-outside test members path q distinct off in
    let f : bit (has_id members q && test q) ≡ bit (test q) = ap (λ b. bit (b && test q)) member in omega arith
    in
    let a = same (λ x. is_asymmetric (class_of x)) in
    let s = same (λ x. is_symmetric (class_of x)) in
    let n = same (λ x. is_nonfaulty (class_of x)) in
    let b = same (λ x. is_silent (class_of x)) in
    let split = length_by_class class_of (counted_nodes members path q) in
    omega arith

-- and no more asymmetric ones
pub asymmetric_longer : (class_of : ℕ → Class) (members path : List ℕ) (last q r : ℕ) → Distinct members → has_id members q ≡ true → has_id path q ≡ false → class_of last ≡ A
    → count (λ x. is_asymmetric (class_of x)) (last ∷ outside members path) ≤ suc r → count (λ x. is_asymmetric (class_of x)) (counted_nodes members path q) ≤ r
asymmetric_longer class_of members path last q r distinct member off faulty few =
    let test : ℕ → Bool = λ x. is_asymmetric (class_of x) in
    let e = count-outside test members path q distinct off in
    let f : bit (has_id members q && test q) ≡ bit (test q) = ap (λ b. bit (b && test q)) member in
    let g : bit (test last) ≡ 1 = ap (λ (c : Class). bit (is_asymmetric c)) faulty in
    omega arith
