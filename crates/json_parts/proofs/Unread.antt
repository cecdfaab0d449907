-- Parts that are read one after another, and what is made of one that can't be read.
use Rattle.std.proofs.Common.{◌≡◌, ℕ, Bool, true, false, List, Option, Some, None, Result, Ok, Err, IsErrAnd, option_and_then, if◌then◌else◌, ap, sym, ◌∙◌}
use Rattle.serde_json.specs.Data.{Data}
use Rattle.json_parts.specs.Part.{Gives}
use Rattle.json_parts.specs.Reading.{has_keys, object_of}
use Rattle.json_parts.specs.declared.error.PartError.{PartError}
use Rattle.json_parts.specs.declared.error.PartError.TheVariants.{NoMemory, NoPart}

-- the first of two parts was read, or wasn't
pub then_by : {X Y : Type 0} (f : X → Option Y) {o : Option X} {x : X} {whole : Option Y} → o ≡ Some x → f x ≡ whole → option_and_then f o ≡ whole
then_by f e h = ap (option_and_then f) e ∙ h

pub none_by : {X Y : Type 0} (f : X → Option Y) {o : Option X} → o ≡ None → option_and_then f o ≡ None
none_by f e = ap (option_and_then f) e

-- an object has no other keys than these
pub keyed : {X : Type 0} (names : List (List ℕ)) (fields : Data → Option X) (d : Data) {has : Bool} {whole : Option X}
    → has ≡ has_keys names d → has ≡ true → fields d ≡ whole → object_of names fields d ≡ whole
keyed names fields d e on h = ap (λ b. if b then fields d else None) (sym e ∙ on) ∙ h

pub no_keys : {X : Type 0} (names : List (List ℕ)) (fields : Data → Option X) (d : Data) {has : Bool} → has ≡ has_keys names d → has ≡ false → object_of names fields d ≡ None
no_keys names fields d e off = ap (λ b. if b then fields d else None) (sym e ∙ off)

-- an error of a part is passed on, and where there is no part there is no whole
pub unread : {A X Y : Type 0} (seen : A → X) (whole : Option X) (part : Option Y) (r : Result A PartError) (e : PartError) → IsErrAnd r (λ y. y ≡ e) → Gives (λ (y : Y). y) part (Err e)
    → (part ≡ None → whole ≡ None) → Gives seen whole r
unread seen whole part (Ok a) e same h none = absurd same
unread seen whole part (Err NoMemory) e same h none = tt
unread seen whole part (Err NoPart) NoPart same h none = none h
unread seen whole part (Err NoPart) NoMemory same h none = cc
