-- The words of a line, by its first space.
use Rattle.std.proofs.Common.{◌≡◌, ℕ, zero, suc, ◌+◌, ◌-◌, ◌<◌, ◌==◌, Bool, true, false, List, [], ◌∷◌, length, take, drop, slice_index, ap, ◌∙◌, arith, refl, length-drop}
use Rattle.std.proofs.Math.Seq.{take_all}
use Rattle.std.specs.List.{onto_first}
use Rattle.std.proofs.lemmas.Bool.{false≢true}
use Rattle.std.specs.Prelude.{Option, None, Some, is_some}
use Rattle.std.proofs.lemmas.List.Splits.{slice_split-cons_yes, slice_split-cons_no, length-slice_split}
use Rattle.live_node.specs.Event.{words, of_words, event_of, of_one_word, of_two_words, of_three_words, of_four_words}
use Rattle.live_node.specs.Seen.{words_behind}

abbrev is_space : ℕ → Bool
is_space c = c == 32

pub not_true : (b : Bool) → (b ≡ true → ⊥) → b ≡ false
not_true true h = absurd (h refl)
not_true false h = refl

-- where a space stands at place k and none before it
pub split_at_space : (line : List ℕ) (k : ℕ) → k < length line → (slice_index line k == 32) ≡ true → ((j : ℕ) → j < k → (slice_index line j == 32) ≡ true → ⊥)
    → words line ≡ take k line ∷ words (drop (suc k) line)
split_at_space [] k low is none = absurd (omega arith)
split_at_space (x ∷ xs) zero low is none = slice_split-cons_yes is_space x xs is
split_at_space (x ∷ xs) (suc k) low is none =
    slice_split-cons_no is_space x xs (not_true (x == 32) (none 0 (omega arith)))
    ∙ ap (onto_first x) (split_at_space xs k (omega (arith, low)) is (λ j less. none (suc j) (omega (arith, less))))

-- and where there is none
pub one_word : (line : List ℕ) → ((j : ℕ) → j < length line → (slice_index line j == 32) ≡ true → ⊥) → words line ≡ line ∷ []
one_word [] none = refl
one_word (x ∷ xs) none = slice_split-cons_no is_space x xs (not_true (x == 32) (none 0 (omega arith))) ∙ ap (onto_first x) (one_word xs (λ j less. none (suc j) (omega (arith, less))))

-- what stands behind the space, as the code cuts it
pub behind : (line : List ℕ) (k : ℕ) → take (length line - (k + 1)) (drop (k + 1) line) ≡ drop (suc k) line
behind line k = take_all (length line - (k + 1)) (drop (k + 1) line) (omega (arith, length-drop (k + 1) line)) ∙ ap (λ n. drop n line) (let e : k + 1 ≡ suc k = omega arith in e)

-- ---- the words of a line, one after another, and the event that they are

some_words : (line : List ℕ) → 0 < length (words line)
some_words line = omega (arith, length-slice_split is_space line)

more_than_four : (w x y z : List ℕ) (ps : List (List ℕ)) → 0 < length ps → of_words (w ∷ x ∷ y ∷ z ∷ ps) ≡ None
more_than_four w x y z [] some = absurd (omega arith)
more_than_four w x y z (p ∷ ps) some = refl

-- the rest of a line, if there is one: the words of a line with this first word
abbrev pub Behind : List ℕ → List ℕ → Option (List ℕ) → Type 0
Behind line w o = words line ≡ w ∷ words_behind o

pub one : (line w : List ℕ) → Behind line w None → event_of line ≡ of_one_word w
one line w h = ap of_words h

pub two : (line w a x : List ℕ) → Behind line w (Some a) → Behind a x None → event_of line ≡ of_two_words w x
two line w a x h i = ap of_words (h ∙ ap (λ ps. w ∷ ps) i)

pub three : (line w a x b y : List ℕ) → Behind line w (Some a) → Behind a x (Some b) → Behind b y None → event_of line ≡ of_three_words w x y
three line w a x b y h i j = ap of_words (h ∙ ap (λ ps. w ∷ ps) (i ∙ ap (λ ps. x ∷ ps) j))

pub four : (line w a x b y c z : List ℕ) → Behind line w (Some a) → Behind a x (Some b) → Behind b y (Some c) → Behind c z None → event_of line ≡ of_four_words w x y z
four line w a x b y c z h i j k = ap of_words (h ∙ ap (λ ps. w ∷ ps) (i ∙ ap (λ ps. x ∷ ps) (j ∙ ap (λ ps. y ∷ ps) k)))

pub more : (line w a x b y c z d : List ℕ) → Behind line w (Some a) → Behind a x (Some b) → Behind b y (Some c) → Behind c z (Some d) → event_of line ≡ None
more line w a x b y c z d h i j k =
    ap of_words (h ∙ ap (λ ps. w ∷ ps) (i ∙ ap (λ ps. x ∷ ps) (j ∙ ap (λ ps. y ∷ ps) k))) ∙ more_than_four w x y z (words d) (some_words d)

-- what is left of a line after a word, by what the code says of it
pub behind_is : (line w : List ℕ) (o p : Option (List ℕ)) → Behind line w o → o ≡ p → Behind line w p
behind_is line w o p h e = h ∙ ap (λ r. w ∷ words_behind r) e

pub given : (o : Option (List ℕ)) → is_some o ≡ true → (line : List ℕ) × (o ≡ Some line)
given None h = absurd (false≢true h)
given (Some line) h = (line, refl)
