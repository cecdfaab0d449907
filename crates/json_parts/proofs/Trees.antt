-- From a text to the data that it has.
use Rattle.std.proofs.Common.{◌≡◌, ℕ, List, [], ◌∷◌, true, false, Option, Some, None, sym, ap, ◌∙◌}
use Rattle.std.specs.Prelude.{option_and_then}
use Rattle.json.specs.Token.{Token}
use Rattle.json.specs.Lex.{tokens}
use Rattle.json.specs.Json.{Json, value, if_last}
use Rattle.serde_json.specs.Data.{Data}
use Rattle.serde_json.specs.Read.{of_json, read}
use Rattle.json_parts.specs.Meaning.{data_of, tree_of, has_readings}
use Rattle.json_parts.proofs.Meaning.{reading, of_json-data}

abbrev pub last : Option (Json × List Token) → Option Json
last o = option_and_then (λ p. if_last p.0 p.1) o

pub tree_ended : (text : List ℕ) (ts rest : List Token) (j : Json) → ts ≡ tokens text → value 127 ts ≡ Some (j, rest) → rest ≡ [] → tree_of text ≡ Some j
tree_ended text ts rest j from is end = ap (λ xs. last (value 127 xs)) (sym from) ∙ ap last is ∙ ap (if_last j) end

pub tree_goes_on : (text : List ℕ) (ts rest more : List Token) (t : Token) (j : Json) → ts ≡ tokens text → value 127 ts ≡ Some (j, rest) → rest ≡ t ∷ more → tree_of text ≡ None
tree_goes_on text ts rest more t j from is on = ap (λ xs. last (value 127 xs)) (sym from) ∙ ap last is ∙ ap (if_last j) on

pub no_tree : (text : List ℕ) (ts : List Token) → ts ≡ tokens text → value 127 ts ≡ None → tree_of text ≡ None
no_tree text ts from is = ap (λ xs. last (value 127 xs)) (sym from) ∙ ap last is

pub read_here : (text : List ℕ) (j : Json) → tree_of text ≡ Some j → has_readings j ≡ true → read text ≡ Some (data_of j)
read_here text j is all = ap (option_and_then of_json) is ∙ of_json-data j ∙ ap (λ b. reading b (data_of j)) all

no_some : {A : Type 0} {a : A} → None ≡ Some a → ⊥
no_some h = cc

pub unread_tree : (text : List ℕ) (d : Data) → tree_of text ≡ None → read text ≡ Some d → ⊥
unread_tree text d is there = no_some (sym (ap (option_and_then of_json) is) ∙ there)

pub unread_number : (text : List ℕ) (j : Json) (d : Data) → tree_of text ≡ Some j → has_readings j ≡ false → read text ≡ Some d → ⊥
unread_number text j d is some there = no_some (sym (ap (option_and_then of_json) is ∙ of_json-data j ∙ ap (λ b. reading b (data_of j)) some) ∙ there)
