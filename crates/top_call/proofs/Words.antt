-- The words of a call.
use Rattle.std.proofs.Common.{◌≡◌, ℕ, ◌<◌, ◌≤◌, ◌^◌, List, [], ◌∷◌, length, get_or, ap, ap₂, arith, sym, ◌∙◌, Option, None, Some}
use Rattle.std.specs.Prelude.{String, string_bytes, codes, decimal, IfSome}
use Rattle.std.specs.declared.alloc.Global.{Global}
use Rattle.top_call.specs.declared.form.Form.{Form}
use Rattle.top_call.specs.declared.form.Reading.TheVariants.{Scenario, Log}
use Rattle.top_call.specs.declared.form.Command.{Command}
use Rattle.top_call.specs.declared.form.Command.TheVariants.{Read, Storm}
use Rattle.top_call.specs.Words.{texts, words_of, Calls}

-- the text of a lone word
pub one_word : (ws : List (String Global)) (w : String Global) → length ws ≡ 1 → w ≡ get_or ws 0 w → texts ws ≡ string_bytes w ∷ []
one_word [] w h e = absurd (omega arith)
one_word (x ∷ []) w h e = ap (λ y. string_bytes y ∷ []) (sym e)
one_word (x ∷ y ∷ ws) w h e = absurd (omega arith)

-- the texts of two words
pub two_words : (ws : List (String Global)) (v w : String Global) → length ws ≡ 2 → v ≡ get_or ws 0 v → w ≡ get_or ws 1 w → texts ws ≡ string_bytes v ∷ string_bytes w ∷ []
two_words [] v w h e f = absurd (omega arith)
two_words (x ∷ []) v w h e f = absurd (omega arith)
two_words (x ∷ y ∷ []) v w h e f = ap₂ (λ s t. string_bytes s ∷ string_bytes t ∷ []) (sym e) (sym f)
two_words (x ∷ y ∷ z ∷ ws) v w h e f = absurd (omega arith)

-- the text of the first of two words
pub two_words_first : (ws : List (String Global)) (v : String Global) → length ws ≡ 2 → v ≡ get_or ws 0 v → (xs : List (List ℕ)) × (texts ws ≡ string_bytes v ∷ xs)
two_words_first [] v h e = absurd (omega arith)
two_words_first (x ∷ []) v h e = absurd (omega arith)
two_words_first (x ∷ y ∷ []) v h e = (string_bytes y ∷ [], ap (λ s. string_bytes s ∷ string_bytes y ∷ []) (sym e))
two_words_first (x ∷ y ∷ z ∷ ws) v h e = absurd (omega arith)

pub first : {xs ys : List (List ℕ)} (x y : List ℕ) → ◌≡◌ {A = List (List ℕ)} (x ∷ xs) (y ∷ ys) → x ≡ y
first x y e = cc

pub second : (v w x y : List ℕ) → ◌≡◌ {A = List (List ℕ)} (v ∷ w ∷ []) (x ∷ y ∷ []) → w ≡ y
second v w x y e = cc

-- ---- numbers

-- the number of the second word is that of both
pub then_both : (ws : List (List ℕ)) (v w first word : List ℕ) (r : Option ℕ) → ws ≡ v ∷ w ∷ [] → v ≡ first → word ≡ w → IfSome r (λ n. word ≡ decimal n) → IfSome r (λ n. ws ≡ first ∷ decimal n ∷ [])
then_both ws v w first word None h e k f = tt
then_both ws v w first word (Some n) h e k f = h ∙ ap₂ (λ (a b : List ℕ). a ∷ b ∷ []) e (sym k ∙ f)

-- words that are those of no form, of no storm and of no log call for nothing
pub uncalled : (ws : List (List ℕ)) → ((form : Form) → ws ≡ words_of form → ⊥)
    → ((n : ℕ) → n < 2 ^ 64 → ws ≡ codes "storm" ∷ decimal n ∷ [] → ⊥) → ((n : ℕ) → n ≤ 15 → ws ≡ codes "node" ∷ decimal n ∷ [] → ⊥)
    → (command : Command) → Calls ws command → ⊥
uncalled ws no_form no_storm no_log (Read (Scenario form)) h = no_form form h
uncalled ws no_form no_storm no_log (Read (Log id)) h = no_log id h.0 h.1
uncalled ws no_form no_storm no_log (Storm seed) h = no_storm seed h.0 h.1
