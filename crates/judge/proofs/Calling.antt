-- The words of a call.
use Rattle.std.proofs.Common.{◌≡◌, ℕ, List, [], ◌∷◌, length, get_or, ap, ap₂, arith, refl, sym, ◌∙◌}
use Rattle.std.specs.Prelude.{String, string_bytes}
use Rattle.std.specs.declared.alloc.Global.{Global}
use Rattle.judge.specs.Words.{texts, words_of}
use Rattle.judge.specs.declared.words.Command.{Command}
use Rattle.judge.specs.declared.words.Command.TheVariants.{Lines, Draw, Show}

-- the texts of three words, and of four
pub three_words : (ws : List (String Global)) (u v w : String Global) → length ws ≡ 3 → u ≡ get_or ws 0 u → v ≡ get_or ws 1 v → w ≡ get_or ws 2 w → texts ws ≡ string_bytes u ∷ string_bytes v ∷ string_bytes w ∷ []
three_words [] u v w n d e f = absurd (omega arith)
three_words (a ∷ []) u v w n d e f = absurd (omega arith)
three_words (a ∷ b ∷ []) u v w n d e f = absurd (omega arith)
three_words (a ∷ b ∷ c ∷ []) u v w n d e f = ap₂ (λ s ts. string_bytes s ∷ ts) (sym d) (ap₂ (λ s t. string_bytes s ∷ string_bytes t ∷ []) (sym e) (sym f))
three_words (a ∷ b ∷ c ∷ x ∷ ws) u v w n d e f = absurd (omega arith)

pub four_words : (ws : List (String Global)) (u v w x : String Global) → length ws ≡ 4 → u ≡ get_or ws 0 u → v ≡ get_or ws 1 v → w ≡ get_or ws 2 w → x ≡ get_or ws 3 x
    → texts ws ≡ string_bytes u ∷ string_bytes v ∷ string_bytes w ∷ string_bytes x ∷ []
four_words [] u v w x n d e f g = absurd (omega arith)
four_words (a ∷ []) u v w x n d e f g = absurd (omega arith)
four_words (a ∷ b ∷ []) u v w x n d e f g = absurd (omega arith)
four_words (a ∷ b ∷ c ∷ []) u v w x n d e f g = absurd (omega arith)
four_words (a ∷ b ∷ c ∷ y ∷ []) u v w x n d e f g =
    ap₂ (λ s ts. string_bytes s ∷ ts) (sym d) (ap₂ (λ s ts. string_bytes s ∷ ts) (sym e) (ap₂ (λ s t. string_bytes s ∷ string_bytes t ∷ []) (sym f) (sym g)))
four_words (a ∷ b ∷ c ∷ y ∷ z ∷ ws) u v w x n d e f g = absurd (omega arith)

-- the text of the first word, and of those behind it
pub word_of : (ws : List (String Global)) (xs : List (List ℕ)) (v : String Global) (x : List ℕ) → v ≡ get_or ws 0 v → texts ws ≡ x ∷ xs → string_bytes v ≡ x
word_of [] xs v x e h = absurd (let s : ◌≡◌ {A = List (List ℕ)} [] (x ∷ xs) = h in cc)
word_of (a ∷ ws) xs v x e h = ap string_bytes e ∙ (let s : ◌≡◌ {A = List (List ℕ)} (string_bytes a ∷ texts ws) (x ∷ xs) = h in cc)

pub second_of : (ws : List (String Global)) (x y : List ℕ) (xs : List (List ℕ)) (v : String Global) → v ≡ get_or ws 1 v → texts ws ≡ x ∷ y ∷ xs → string_bytes v ≡ y
second_of [] x y xs v e h = absurd (let s : ◌≡◌ {A = List (List ℕ)} [] (x ∷ y ∷ xs) = h in cc)
second_of (a ∷ ws) x y xs v e h = word_of ws xs v y e (let s : ◌≡◌ {A = List (List ℕ)} (string_bytes a ∷ texts ws) (x ∷ y ∷ xs) = h in cc)

pub third_of : (ws : List (String Global)) (x y z : List ℕ) (xs : List (List ℕ)) (v : String Global) → v ≡ get_or ws 2 v → texts ws ≡ x ∷ y ∷ z ∷ xs → string_bytes v ≡ z
third_of [] x y z xs v e h = absurd (let s : ◌≡◌ {A = List (List ℕ)} [] (x ∷ y ∷ z ∷ xs) = h in cc)
third_of (a ∷ ws) x y z xs v e h = second_of ws y z xs v e (let s : ◌≡◌ {A = List (List ℕ)} (string_bytes a ∷ texts ws) (x ∷ y ∷ z ∷ xs) = h in cc)

pub fourth_of : (ws : List (String Global)) (w x y z : List ℕ) (xs : List (List ℕ)) (v : String Global) → v ≡ get_or ws 3 v → texts ws ≡ w ∷ x ∷ y ∷ z ∷ xs → string_bytes v ≡ z
fourth_of [] w x y z xs v e h = absurd (let s : ◌≡◌ {A = List (List ℕ)} [] (w ∷ x ∷ y ∷ z ∷ xs) = h in cc)
fourth_of (a ∷ ws) w x y z xs v e h = third_of ws x y z xs v e (let s : ◌≡◌ {A = List (List ℕ)} (string_bytes a ∷ texts ws) (w ∷ x ∷ y ∷ z ∷ xs) = h in cc)

-- as many words as texts
pub as_many : (ws : List (String Global)) → length (texts ws) ≡ length ws
as_many [] = refl
as_many (w ∷ ws) = omega (arith, as_many ws)

-- how many words each call has
abbrev pub count_of : Command → ℕ
count_of Lines = 0
count_of (Draw d) = 4
count_of (Show d) = 3

words_counted : (command : Command) → length (words_of command) ≡ count_of command
words_counted Lines = refl
words_counted (Draw d) = refl
words_counted (Show d) = refl

pub counted : (ws : List (String Global)) (command : Command) → texts ws ≡ words_of command → length ws ≡ count_of command
counted ws command h = sym (as_many ws) ∙ ap length h ∙ words_counted command

-- words that are these are those
pub three_are : (ws : List (List ℕ)) (a b c x y z : List ℕ) → ws ≡ a ∷ b ∷ c ∷ [] → a ≡ x → b ≡ y → c ≡ z → ws ≡ x ∷ y ∷ z ∷ []
three_are ws a b c x y z is d e f = is ∙ ap₂ (λ (s : List ℕ) (ts : List (List ℕ)). s ∷ ts) d (ap₂ (λ (s t : List ℕ). s ∷ t ∷ []) e f)

pub four_are : (ws : List (List ℕ)) (a b c d w x y z : List ℕ) → ws ≡ a ∷ b ∷ c ∷ d ∷ [] → a ≡ w → b ≡ x → c ≡ y → d ≡ z → ws ≡ w ∷ x ∷ y ∷ z ∷ []
four_are ws a b c d w x y z is e f g h =
    is ∙ ap₂ (λ (s : List ℕ) (ts : List (List ℕ)). s ∷ ts) e (ap₂ (λ (s : List ℕ) (ts : List (List ℕ)). s ∷ ts) f (ap₂ (λ (s t : List ℕ). s ∷ t ∷ []) g h))
