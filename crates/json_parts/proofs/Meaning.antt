-- What a JSON value stands for, look-up by look-up.
use Rattle.std.proofs.Common.{◌≡◌, ℕ, ℤ, ◌^◌, Vec, List, [], ◌∷◌, Bool, true, false, cond, ◌&&◌, bytes_eq, Option, Some, None, true≢false, is_eq, refl, sym, ap, ◌∙◌, Ordering, Less, Equal, Greater}
use Rattle.std.specs.Prelude.{option_and_then, option_map, is_some, unwrap_or, if◌then◌else◌}
use Rattle.std.specs.Borrow.{Bor}
use Rattle.std.specs.List.{list_all}
use Rattle.std.specs.declared.alloc.Global.{Global}
use Rattle.std.specs.Ordering.{nat_cmp, match_ordering}
use Rattle.std.specs.Cmp.Lexicographic.{slice_cmp}
use Rattle.std.proofs.lemmas.Slice.Eq.{bytes_eq-Decides}
use Rattle.std.proofs.lemmas.Map.Text.{is_eq-slice_cmp}
use Rattle.json.specs.Json as json
use Rattle.json.specs.Find as text
use Rattle.json.specs.Value.{value_view, members_view}
use Rattle.json.specs.declared.value.Value.{Value, Object}
use Rattle.json.proofs.Trees.{view-Object}
use Rattle.serde_json.specs.Data.{Num, unsigned, Data, number, array, object, Items, item, Members, no_members, member, put}
use Rattle.serde_json.specs.Find.{get, get_member, as_number, as_str, as_i64, as_object}
use Rattle.serde_json.specs.Read.{of_json, of_members, of_items, number_of}
use Rattle.serde_json.proofs.Views.{get_member-put, get_member-put_other}
use Rattle.json_parts.specs.Meaning.{view, data_of, items_data, put_all, has_readings, items_have_readings, members_have_readings}
use Rattle.json_parts.specs.Reading.{whole, is_among, all_among, has_keys}

-- ---- a value that has a reading stands for it

abbrev pub reading : {A : Type 0} → Bool → A → Option A
reading b a = if b then Some a else None

of_number : (o : Option Num) → option_map number o ≡ reading (is_some o) (number (unwrap_or o (unsigned (2 ^ 64))))
of_number None = refl
of_number (Some n) = refl

under : {A B : Type 0} (f : A → B) (o : Option A) (b : Bool) (a : A) → o ≡ reading b a → option_map f o ≡ reading b (f a)
under f o true a e = ap (option_map f) e
under f o false a e = ap (option_map f) e

one_item : (o : Option Data) (r : Option Items) (b more : Bool) (d : Data) (ds : Items) → o ≡ reading b d → r ≡ reading more ds
    → option_and_then (λ x. option_map (item x) r) o ≡ reading (b && more) (item d ds)
one_item o r true true d ds e is = ap (λ x. option_and_then (λ y. option_map (item y) r) x) e ∙ ap (option_map (item d)) is
one_item o r true false d ds e is = ap (λ x. option_and_then (λ y. option_map (item y) r) x) e ∙ ap (option_map (item d)) is
one_item o r false more d ds e is = ap (λ x. option_and_then (λ y. option_map (item y) r) x) e

one_member : (o : Option Data) (f : Data → Option Members) (b more : Bool) (d : Data) (all : Members) → o ≡ reading b d → f d ≡ reading more all
    → option_and_then f o ≡ reading (b && more) all
one_member o f true more d all e is = ap (option_and_then f) e ∙ is
one_member o f false more d all e is = ap (option_and_then f) e

mutual
  pub of_json-data : (j : json.Json) → of_json j ≡ reading (has_readings j) (data_of j)
  of_json-data json.null = refl
  of_json-data (json.boolean b) = refl
  of_json-data (json.number s) = of_number (number_of s)
  of_json-data (json.string s) = refl
  of_json-data (json.array js) = under array (of_items js) (items_have_readings js) (items_data js) (of_items-data js)
  of_json-data (json.object ms) = under object (of_members ms no_members) (members_have_readings ms) (put_all ms no_members) (of_members-data ms no_members)

  of_items-data : (js : json.Items) → of_items js ≡ reading (items_have_readings js) (items_data js)
  of_items-data json.no_items = refl
  of_items-data (json.item j js) =
      one_item (of_json j) (of_items js) (has_readings j) (items_have_readings js) (data_of j) (items_data js) (of_json-data j) (of_items-data js)

  of_members-data : (ms : json.Members) (found : Members) → of_members ms found ≡ reading (members_have_readings ms) (put_all ms found)
  of_members-data json.no_members found = refl
  of_members-data (json.member k j ms) found =
      one_member (of_json j) (λ d. of_members ms (put k d found)) (has_readings j) (members_have_readings ms) (data_of j) (put_all ms (put k (data_of j) found))
      (of_json-data j) (of_members-data ms (put k (data_of j) found))

-- ---- a look-up by a key

abbrev pub read_or : Option json.Json → Option Data → Option Data
read_or None before = before
read_or (Some j) before = Some (data_of j)

apart : {b : Bool} → b ≡ false → b ≡ true → ⊥
apart x y = true≢false (sym y ∙ x)

join : (q k : List ℕ) (j : json.Json) (found : Members) (o : Option json.Json) (same : Bool) → bytes_eq k q ≡ same
    → read_or o (get_member q (put k (data_of j) found)) ≡ read_or (text.later_or o (cond same (Some j) None)) (get_member q found)
join q k j found (Some i) same h = refl
join q k j found None true h = ap (λ w. get_member w (put k (data_of j) found)) (sym ((bytes_eq-Decides k q).0 h)) ∙ get_member-put k (data_of j) found
join q k j found None false h = get_member-put_other q k (data_of j) found (λ w. apart h ((bytes_eq-Decides k q).1 (sym w)))

get_member-put_all : (q : List ℕ) (ms : json.Members) (found : Members) → get_member q (put_all ms found) ≡ read_or (text.get_member q ms) (get_member q found)
get_member-put_all q json.no_members found = refl
get_member-put_all q (json.member k j ms) found =
    get_member-put_all q ms (put k (data_of j) found) ∙ join q k j found (text.get_member q ms) (bytes_eq k q) refl

as_map : (o : Option json.Json) → read_or o None ≡ option_map data_of o
as_map None = refl
as_map (Some j) = refl

pub get-data : (q : List ℕ) (j : json.Json) → get q (data_of j) ≡ option_map data_of (text.get q j)
get-data q json.null = refl
get-data q (json.boolean b) = refl
get-data q (json.number s) = refl
get-data q (json.string s) = refl
get-data q (json.array js) = refl
get-data q (json.object ms) = get_member-put_all q ms no_members ∙ as_map (text.get_member q ms)

pub mapped : {A : Type 0} (see : A → json.Json) (o : Option A) (t : Option json.Json) → option_map see o ≡ t → option_map (λ a. data_of (see a)) o ≡ option_map data_of t
mapped see None t e = ap (option_map data_of) e
mapped see (Some a) t e = ap (option_map data_of) e

-- ---- numbers and texts

abbrev pub whole_text : List ℕ → Option ℤ
whole_text s = option_and_then as_i64 (number_of s)

meant_whole : (o : Option Num) → as_i64 (unwrap_or o (unsigned (2 ^ 64))) ≡ option_and_then as_i64 o
meant_whole None = refl
meant_whole (Some n) = refl

pub whole-data : (j : json.Json) → whole (data_of j) ≡ option_and_then whole_text (text.as_number j)
whole-data json.null = refl
whole-data (json.boolean b) = refl
whole-data (json.number s) = meant_whole (number_of s)
whole-data (json.string s) = refl
whole-data (json.array js) = refl
whole-data (json.object ms) = refl

pub as_str-data : (j : json.Json) → as_str (data_of j) ≡ text.as_str j
as_str-data json.null = refl
as_str-data (json.boolean b) = refl
as_str-data (json.number s) = refl
as_str-data (json.string s) = refl
as_str-data (json.array js) = refl
as_str-data (json.object ms) = refl

-- ---- the keys of an object

abbrev pub members_among : List (List ℕ) → json.Members → Bool
members_among names json.no_members = true
members_among names (json.member k j ms) = is_among names k && members_among names ms

twice : (b c : Bool) → b && c ≡ b && (b && c)
twice true c = refl
twice false c = refl

swap : (a b c : Bool) → a && (b && c) ≡ b && (a && c)
swap true b c = refl
swap false true c = refl
swap false false c = refl

nest : (a b c : Bool) → (a && b) && c ≡ a && (b && c)
nest true b c = refl
nest false b c = refl

all_among-put_at : (names : List (List ℕ)) (o : Ordering) (k l : List ℕ) (d e : Data) (ms : Members) → slice_cmp nat_cmp k l ≡ o → all_among names (put k d ms) ≡ is_among names k && all_among names ms
    → all_among names (match_ordering o (member k d (member l e ms)) (member l d ms) (member l e (put k d ms))) ≡ is_among names k && (is_among names l && all_among names ms)
all_among-put_at names Less k l d e ms is later = refl
all_among-put_at names Equal k l d e ms is later =
    let same : k ≡ l = (bytes_eq-Decides k l).0 (sym (is_eq-slice_cmp k l) ∙ ap is_eq is) in
    twice (is_among names l) (all_among names ms) ∙ ap (λ w. is_among names w && (is_among names l && all_among names ms)) (sym same)
all_among-put_at names Greater k l d e ms is later = ap (λ b. is_among names l && b) later ∙ swap (is_among names l) (is_among names k) (all_among names ms)

all_among-put : (names : List (List ℕ)) (k : List ℕ) (d : Data) (ms : Members) → all_among names (put k d ms) ≡ is_among names k && all_among names ms
all_among-put names k d no_members = refl
all_among-put names k d (member l e ms) = all_among-put_at names _ k l d e ms refl (all_among-put names k d ms)

all_among-put_all : (names : List (List ℕ)) (ms : json.Members) (found : Members) → all_among names (put_all ms found) ≡ members_among names ms && all_among names found
all_among-put_all names json.no_members found = refl
all_among-put_all names (json.member k j ms) found =
    all_among-put_all names ms (put k (data_of j) found) ∙ ap (λ b. members_among names ms && b) (all_among-put names k (data_of j) found)
    ∙ swap (members_among names ms) (is_among names k) (all_among names found) ∙ sym (nest (is_among names k) (members_among names ms) (all_among names found))

ended : (b : Bool) → b && true ≡ b
ended true = refl
ended false = refl

among-view : (names : List (List ℕ)) (ms : List (Bor (List ℕ) × Value Global)) → list_all (λ (m : Bor (List ℕ) × Value Global). is_among names m.0.now) ms ≡ members_among names (members_view ms)
among-view names [] = refl
among-view names (m ∷ ms) = ap (λ b. is_among names m.0.now && b) (among-view names ms)

pub has_keys-data : (names : List (List ℕ)) (j : json.Json) → has_keys names (data_of j) ≡ unwrap_or (option_map (members_among names) (text.as_object j)) false
has_keys-data names json.null = refl
has_keys-data names (json.boolean b) = refl
has_keys-data names (json.number s) = refl
has_keys-data names (json.string s) = refl
has_keys-data names (json.array js) = refl
has_keys-data names (json.object ms) = all_among-put_all names ms no_members ∙ ended (members_among names ms)

-- a test of the keys of an object's members is one of its keys
pub has_keys-members : (names : List (List ℕ)) (v : Value Global) (found : Vec (Bor (List ℕ) × Value Global) Global) → v ≡ Object found
    → list_all (λ (m : Bor (List ℕ) × Value Global). is_among names m.0.now) found.items ≡ has_keys names (view v)
has_keys-members names v found is =
    among-view names found.items
    ∙ sym (has_keys-data names (value_view v) ∙ ap (λ j. unwrap_or (option_map (members_among names) (text.as_object j)) false) (ap value_view is ∙ view-Object found))
