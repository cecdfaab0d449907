-- The options that a JSON value is, object by object. Each answers None where a key is missing, unknown or of another type,
-- or a text is another one.
use Rattle.std.specs.Prelude.{ℕ, Bool, true, false, List, [], ◌∷◌, Option, Some, None, option_map, option_and_then, codes, if◌then◌else◌}
use Rattle.std.specs.List.{list_any}
use Rattle.std.specs.Str.{bytes_eq}
use Rattle.serde_json.specs.Data.{Data}
use Rattle.serde_json.specs.Find.{as_bool, as_str}
use Rattle.json_parts.specs.Reading.{whole, list_of, required, optional, object_of}
use Rattle.drawn_scenarios.specs.declared.choices.Classes.{Classes}
use Rattle.drawn_scenarios.specs.declared.choices.FaultClass.{FaultClass}
use Rattle.drawn_scenarios.specs.declared.choices.FaultClass.TheVariants.{Benign, Symmetric, Asymmetric}
use Rattle.drawn_scenarios.specs.declared.option_parts.ClockOptionParts.{ClockOptionParts}
use Rattle.drawn_scenarios.specs.declared.option_parts.OptionParts.{OptionParts}

infixl 10 ◌>>=◌
abbrev pub ◌>>=◌ : {A B : Type 0} → Option A → (A → Option B) → Option B
o >>= f = option_and_then f o

-- ---- classes

abbrev pub class_named : List ℕ → Option FaultClass
class_named name =
    if bytes_eq name (codes "benign") then Some Benign
    else (if bytes_eq name (codes "symmetric") then Some Symmetric
    else (if bytes_eq name (codes "asymmetric") then Some Asymmetric else None))

abbrev pub class_at : Data → Option FaultClass
class_at d = option_and_then class_named (as_str d)

abbrev pub is_benign : FaultClass → Bool
is_benign Benign = true
is_benign Symmetric = false
is_benign Asymmetric = false

abbrev pub is_symmetric : FaultClass → Bool
is_symmetric Benign = false
is_symmetric Symmetric = true
is_symmetric Asymmetric = false

abbrev pub is_asymmetric : FaultClass → Bool
is_asymmetric Benign = false
is_asymmetric Symmetric = false
is_asymmetric Asymmetric = true

-- the classes that are named, in any order and how often so ever
abbrev pub classes_of : List FaultClass → Classes
classes_of named = record {
  benign = list_any is_benign named;
  symmetric = list_any is_symmetric named;
  asymmetric = list_any is_asymmetric named;
}

abbrev pub classes_at : Data → Option Classes
classes_at d = option_map classes_of (list_of class_at d)

-- ---- clocks

abbrev pub clock_names : List (List ℕ)
clock_names = codes "epsilon" ∷ codes "drift" ∷ codes "start" ∷ codes "lie" ∷ []

abbrev pub clock_fields : Data → Option ClockOptionParts
clock_fields d = do
  epsilon ← required (codes "epsilon") whole d
  drift ← required (codes "drift") whole d
  start ← required (codes "start") whole d
  lie ← required (codes "lie") whole d
  Some (record { epsilon = epsilon; drift = drift; start = start; lie = lie })

abbrev pub clock_at : Data → Option ClockOptionParts
clock_at = object_of clock_names clock_fields

-- ---- all options

abbrev pub option_names : List (List ℕ)
option_names =
    codes "nodes" ∷ codes "m" ∷ codes "periods" ∷ codes "faulty" ∷ codes "classes" ∷ codes "rate" ∷ codes "length" ∷ codes "restart"
    ∷ codes "copies" ∷ codes "clock" ∷ []

-- whether there are copies; none where the key is missing
abbrev pub copies_in : Data → Option Bool
copies_in = optional (codes "copies") false as_bool

abbrev pub option_fields : Data → Option OptionParts
option_fields d = do
  nodes ← required (codes "nodes") whole d
  m ← required (codes "m") whole d
  periods ← required (codes "periods") whole d
  faulty ← required (codes "faulty") whole d
  classes ← required (codes "classes") classes_at d
  rate ← required (codes "rate") whole d
  most ← required (codes "length") whole d
  restart ← required (codes "restart") whole d
  copies ← copies_in d
  clock ← optional (codes "clock") None (λ x. option_map Some (clock_at x)) d
  Some (record {
    nodes = nodes;
    m = m;
    periods = periods;
    faulty = faulty;
    classes = classes;
    rate = rate;
    «length» = most;
    restart = restart;
    copies = copies;
    clock = clock;
  })

abbrev pub options_read : Data → Option OptionParts
options_read = object_of option_names option_fields
