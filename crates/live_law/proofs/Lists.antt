-- Lists by ranges, and what is told last of each place of a table.
use Rattle.std.proofs.Common.{ℕ, zero, suc, ◌≡◌, ◌≤◌, ◌+◌, ◌==◌, if◌then◌else◌, List, [], ◌∷◌, ◌++◌, map, replicate, set, refl, sym, ap, ap₂, ◌∙◌, arith, eq-eqb, ne_eqb, Option, None, Some, ℤ}
use Rattle.std.specs.List.{range_with_len, flat_map, fold}
use Rattle.std.specs.Option.{option_or}
use Rattle.std.proofs.lemmas.Bool.{cond-true, cond-false}
use Rattle.std.proofs.lemmas.List.{append_assoc, append-nil}
use Rattle.node_grid.specs.NodeSet.{ids_below}
use Rattle.live_node.specs.Event.{Event}
use Rattle.live_law.specs.Events.{last_told}

pub flat_push : {X : Type 0} (f : ℕ → List X) (a n : ℕ) → flat_map f (range_with_len a (suc n)) ≡ flat_map f (range_with_len a n) ++ f (a + n)
flat_push f a zero = append-nil (f a) ∙ ap f (let e : a ≡ a + 0 = omega arith in e)
flat_push f a (suc n) =
    ap (λ ys. f a ++ ys) (flat_push f (a + 1) n) ∙ sym (append_assoc (f a) (flat_map f (range_with_len (a + 1) n)) (f (a + 1 + n)))
    ∙ ap (λ (k : ℕ). f a ++ flat_map f (range_with_len (a + 1) n) ++ f k) (let e : a + 1 + n ≡ a + suc n = omega arith in e)

pub map_from : {X : Type 0} (f g : ℕ → X) (a n : ℕ) → ((c : ℕ) → a ≤ c → f c ≡ g c) → map f (range_with_len a n) ≡ map g (range_with_len a n)
map_from f g a zero h = refl
map_from f g a (suc n) h = ap₂ ◌∷◌ (h a (omega arith)) (map_from f g (a + 1) n (λ c l. h c (omega arith)))

-- a table with one place set
pub set_table : {X : Type 0} (f : ℕ → X) (x : X) (a n c : ℕ) → set (map f (range_with_len a n)) c x ≡ map (λ d. if a + c == d then x else f d) (range_with_len a n)
set_table f x a zero c = refl
set_table f x a (suc n) zero =
    ap₂ ◌∷◌ (sym (cond-true (a + 0 == a) x (f a) (eq-eqb (a + 0) a (omega arith))))
    (map_from f (λ d. if a + 0 == d then x else f d) (a + 1) n (λ d l. sym (cond-false (a + 0 == d) x (f d) (ne_eqb (a + 0) d (λ e. absurd (omega arith))))))
set_table f x a (suc n) (suc c) =
    ap₂ ◌∷◌ (sym (cond-false (a + suc c == a) x (f a) (ne_eqb (a + suc c) a (λ e. absurd (omega arith)))))
    (set_table f x (a + 1) n c ∙ ap (λ (k : ℕ). map (λ d. if k == d then x else f d) (range_with_len (a + 1) n)) (let e : a + 1 + c ≡ a + suc c = omega arith in e))

abbrev pub not_told : Option ℤ
not_told = None

none_table : (a n : ℕ) → replicate n not_told ≡ map (λ c. not_told) (range_with_len a n)
none_table a zero = refl
none_table a (suc n) = ap (λ xs. not_told ∷ xs) (none_table (a + 1) n)

or_none : {X : Type 0} (o : Option X) → option_or o None ≡ o
or_none None = refl
or_none (Some x) = refl

or_or : {X : Type 0} (a b c : Option X) → option_or a (option_or b c) ≡ option_or (option_or a b) c
or_or None b c = refl
or_or (Some x) b c = refl

-- what an event puts into a table is what it tells of each place
module _ (n : ℕ) (tells : ℕ → Event → Option ℤ) (puts : List (Option ℤ) → Event → List (Option ℤ))
    (one : (f : ℕ → Option ℤ) (e : Event) → puts (map f (ids_below n)) e ≡ map (λ c. option_or (tells c e) (f c)) (ids_below n)) where
  folded : (f : ℕ → Option ℤ) (es : List Event) → fold puts (map f (ids_below n)) es ≡ map (λ c. option_or (last_told (tells c) es) (f c)) (ids_below n)
  folded f [] = refl
  folded f (e ∷ es) =
      ap (λ (xs : List (Option ℤ)). fold puts xs es) (one f e) ∙ folded (λ c. option_or (tells c e) (f c)) es
      ∙ map_from (λ c. option_or (last_told (tells c) es) (option_or (tells c e) (f c))) (λ c. option_or (option_or (last_told (tells c) es) (tells c e)) (f c)) 0 n (λ c l. or_or (last_told (tells c) es) (tells c e) (f c))

  -- so events put into an empty table what they tell last of each place
  pub last_of_each : (es : List Event) → fold puts (replicate n not_told) es ≡ map (λ c. last_told (tells c) es) (ids_below n)
  last_of_each es =
      ap (λ (xs : List (Option ℤ)). fold puts xs es) (none_table 0 n) ∙ folded (λ c. not_told) es
      ∙ map_from (λ c. option_or (last_told (tells c) es) None) (λ c. last_told (tells c) es) 0 n (λ c l. or_none (last_told (tells c) es))
