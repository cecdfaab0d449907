-- The text of a run that is still to come: what is printed of the periods from one on, and the end.
use Rattle.std.proofs.Common.{◌≡◌, ℕ, suc, ◌+◌, ◌-◌, ◌<◌, List, [], ◌∷◌, ◌++◌, arith, refl, ap₂, append_assoc}
use Rattle.std.specs.List.{flat_map, range_with_len}
use Rattle.run_text.specs.PeriodText.{end_text}

-- of so many periods, those from i on, and the end
unfoldable pub rest_text : (ℕ → List ℕ) → ℕ → ℕ → List ℕ
rest_text f periods i = flat_map f (range_with_len i (periods - i)) ++ end_text periods

pub rest-next : (f : ℕ → List ℕ) (periods i : ℕ) → i < periods → rest_text f periods i ≡ f i ++ rest_text f periods (i + 1)
unfolding rest_text
rest-next f periods i h =
    let more : periods - i ≡ suc (periods - (i + 1)) = omega arith in
    rw more (append_assoc (f i) (flat_map f (range_with_len (i + 1) (periods - (i + 1)))) (end_text periods))

pub rest-first : (f : ℕ → List ℕ) (periods : ℕ) → rest_text f periods 0 ≡ flat_map f (range_with_len 0 periods) ++ end_text periods
unfolding rest_text
rest-first f periods = let all : periods - 0 ≡ periods = omega arith in rw all refl

pub rest-last : (f : ℕ → List ℕ) (periods i : ℕ) → i ≡ periods → rest_text f periods i ≡ end_text periods
unfolding rest_text
rest-last f periods i h = let none : periods - i ≡ 0 = omega arith in rw none refl

-- texts that are the same at each number are the same one after the other
pub same_texts : (f g : ℕ → List ℕ) → ((p : ℕ) → f p ≡ g p) → (ps : List ℕ) → flat_map f ps ≡ flat_map g ps
same_texts f g h [] = refl
same_texts f g h (p ∷ ps) = ap₂ ◌++◌ (h p) (same_texts f g h ps)
