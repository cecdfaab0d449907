-- Tests of all numbers of a range, and lies that are read part by part.
use Rattle.std.proofs.Common.{◌≡◌, ℕ, suc, ◌+◌, ◌-◌, ◌<◌, ◌≤◌, Bool, true, false, ◌&&◌, List, [], ◌∷◌, ◌++◌, map, length, take, drop, get_or, Some, refl, sym, ap, ◌∙◌, arith}
use Rattle.std.specs.Prelude.{nat_lt}
use Rattle.std.specs.List.{list_all, range_with_len}
use Rattle.std.proofs.lemmas.Bool.{lt-ltb, le-ltb}
use Rattle.std.proofs.lemmas.List.{take_more, map-append}
use Rattle.clock_skew.specs.declared.plan.Lie.{Lie}
use Rattle.clock_skew.specs.Clock.{LieView, lie_of}
use Rattle.fault_classes.specs.Plan.{Plan}
use Rattle.scenario.specs.Parts.{LieParts}
use Rattle.scenario.specs.Line.{lie_in}
use Rattle.scenario.specs.Rules.{first_bad, is_fair, is_said, is_lie, fits_lie}
use Rattle.scenario.specs.Seen.{lie_view}
use Rattle.scenario.specs.declared.parts.LiePart.{LiePart}
use Rattle.scenario.proofs.Turns.{drop-here}
use Rattle.scenario.proofs.Places.{none_before, bad_here}

-- what is left of a range from a on
abbrev left : (f : ℕ → Bool) (a n : ℕ) → Bool
left f a n = list_all f (range_with_len a (n - a))

left_here : (f : ℕ → Bool) (a n : ℕ) → a < n → left f a n ≡ (f a && left f (a + 1) n)
left_here f a n low = let e : n - a ≡ suc (n - (a + 1)) = omega arith in ap (λ k. list_all f (range_with_len a k)) e

pub all_here : (f : ℕ → Bool) (a n : ℕ) → a < n → f a ≡ true → list_all f (range_with_len (a + 1) (n - (a + 1))) ≡ list_all f (range_with_len a (n - a))
all_here f a n low h = sym (left_here f a n low ∙ ap (λ b. b && left f (a + 1) n) h)

pub not_here : (f : ℕ → Bool) (a n : ℕ) → a < n → f a ≡ false → list_all f (range_with_len a (n - a)) ≡ false
not_here f a n low h = left_here f a n low ∙ ap (λ b. b && left f (a + 1) n) h

pub all_past : (f : ℕ → Bool) (a n : ℕ) → n ≤ a → list_all f (range_with_len a (n - a)) ≡ true
all_past f a n past = let e : n - a ≡ 0 = omega arith in ap (λ k. list_all f (range_with_len a k)) e

-- ---- one more lie

module _ (n nodes : ℕ) where
  pub next_lie : (parts : List LiePart) (k : ℕ) (part : LiePart) (lie : Lie n) (before after : List (Lie n)) → k < length parts → part ≡ get_or parts k part
      → lie_of lie ≡ lie_in nodes (lie_view part) → after ≡ before ++ lie ∷ []
      → map lie_of before ≡ map (lie_in nodes) (map lie_view (take k parts)) → map lie_of after ≡ map (lie_in nodes) (map lie_view (take (k + 1) parts))
  next_lie parts k part lie before after low is read pushed so_far =
      ap (map lie_of) pushed
      ∙ map-append lie_of before (lie ∷ [])
      ∙ ap (λ ls. ls ++ lie_of lie ∷ []) so_far
      ∙ ap (λ (l : LieView). map (lie_in nodes) (map lie_view (take k parts)) ++ l ∷ []) read
      ∙ sym (map-append (lie_in nodes) (map lie_view (take k parts)) (lie_view part ∷ []))
      ∙ ap (map (lie_in nodes)) (sym (map-append lie_view (take k parts) (part ∷ [])))
      ∙ ap (λ p. map (lie_in nodes) (map lie_view (take k parts ++ p ∷ []))) is
      ∙ ap (λ ps. map (lie_in nodes) (map lie_view ps)) (sym (take_more parts k part low))

-- a lie in range is one of the plan where it is fair
pub said_fits : (plan : Plan) (nodes periods : ℕ) (l : LieParts) (v : LieView) (b : Bool) → nodes ≡ plan.nodes → periods ≡ plan.periods → is_said nodes periods l ≡ true → v ≡ lie_in nodes l → b ≡ is_fair plan v
    → b ≡ is_lie plan l
said_fits plan nodes periods l v b e f said made fair =
    let said_too : is_said plan.nodes plan.periods l ≡ true = sym (ap (λ (n : ℕ). is_said n periods l) e ∙ ap (λ (t : ℕ). is_said plan.nodes t l) f) ∙ said in
    fair ∙ ap (is_fair plan) (made ∙ ap (λ (n : ℕ). lie_in n l) e) ∙ ap (λ (x : Bool). x && is_fair plan (lie_in plan.nodes l)) (sym said_too)

pub fits : (plan : Plan) (k : ℕ) (l : LieParts) → k < 4096 → is_lie plan l ≡ true → fits_lie plan k l ≡ true
fits plan k l few h = rw (lt-ltb k 4096 few, h) refl

pub one_too_many : (plan : Plan) (k : ℕ) (l : LieParts) → 4096 ≤ k → fits_lie plan k l ≡ false
one_too_many plan k l more = ap (λ b. b && is_lie plan l) (le-ltb k 4096 more)

pub unfit : (plan : Plan) (k : ℕ) (l : LieParts) → is_lie plan l ≡ false → fits_lie plan k l ≡ false
unfit plan k l h = ap (λ b. nat_lt k 4096 && b) h ∙ and_false (nat_lt k 4096)
  where
    and_false : (b : Bool) → (b && false) ≡ false
    and_false true = refl
    and_false false = refl

pub bad_lie : (plan : Plan) (parts : List LiePart) (k : ℕ) (part : LiePart) → k < length parts → part ≡ get_or parts k part → fits_lie plan k (lie_view part) ≡ false
    → first_bad (fits_lie plan) k (map lie_view (drop k parts)) ≡ Some k
bad_lie plan parts k part low is bad =
    ap (λ ps. first_bad (fits_lie plan) k (map lie_view ps)) (drop-here parts k part low is) ∙ bad_here (fits_lie plan) k (lie_view part) (map lie_view (drop (k + 1) parts)) bad

pub next_fits : (plan : Plan) (parts : List LiePart) (k : ℕ) (part : LiePart) → k < length parts → part ≡ get_or parts k part → fits_lie plan k (lie_view part) ≡ true
    → first_bad (fits_lie plan) (k + 1) (map lie_view (drop (k + 1) parts)) ≡ first_bad (fits_lie plan) k (map lie_view (drop k parts))
next_fits plan parts k part low is fits =
    sym (none_before (fits_lie plan) k (lie_view part) (map lie_view (drop (k + 1) parts)) fits)
    ∙ sym (ap (λ ps. first_bad (fits_lie plan) k (map lie_view ps)) (drop-here parts k part low is))
