-- Where a number of a task can't be read, there is no task, whatever stands before it.
use Rattle.std.proofs.Common.{◌≡◌, ℤ, List, Option, None, Some, option_and_then, refl, ap}
use Rattle.std.specs.Prelude.{codes}
use Rattle.serde_json.specs.Data.{Data}
use Rattle.json_parts.specs.Reading.{whole, list_of, required}
use Rattle.scenario.specs.Parts.{TaskParts}
use Rattle.scenario_reading.specs.Keys.{task_fields}

-- the third, fourth or fifth of some parts is missing
third : {A B C X : Type 0} (a : Option A) (b : Option B) (c : Option C) (rest : A → B → C → Option X) → c ≡ None
    → option_and_then (λ u. option_and_then (λ v. option_and_then (rest u v) c) b) a ≡ None
third None b c rest e = refl
third (Some u) None c rest e = refl
third (Some u) (Some v) c rest e = ap (option_and_then (rest u v)) e

fourth : {A B C D X : Type 0} (a : Option A) (b : Option B) (c : Option C) (d : Option D) (rest : A → B → C → D → Option X) → d ≡ None
    → option_and_then (λ u. option_and_then (λ v. option_and_then (λ w. option_and_then (rest u v w) d) c) b) a ≡ None
fourth None b c d rest e = refl
fourth (Some u) b c d rest e = third b c d (rest u) e

fifth : {A B C D E X : Type 0} (a : Option A) (b : Option B) (c : Option C) (d : Option D) (e : Option E) (rest : A → B → C → D → E → Option X) → e ≡ None
    → option_and_then (λ u. option_and_then (λ v. option_and_then (λ w. option_and_then (λ x. option_and_then (rest u v w x) e) d) c) b) a ≡ None
fifth None b c d e rest none = refl
fifth (Some u) b c d e rest none = fourth b c d e (rest u) none

pub no_need : (d : Data) → required (codes "need") whole d ≡ None → task_fields d ≡ None
no_need d e =
    third (required (codes "after") (list_of whole) d) (required (codes "nodes") (list_of whole) d) (required (codes "need") whole d)
    (λ after nodes need. option_and_then (λ least. option_and_then (λ most. option_and_then (λ run. Some (record { after = after; nodes = nodes; need = need; min = least; max = most; run = run })) (required (codes "run") (list_of whole) d)) (required (codes "max") whole d)) (required (codes "min") whole d)) e

pub no_min : (d : Data) → required (codes "min") whole d ≡ None → task_fields d ≡ None
no_min d e =
    fourth (required (codes "after") (list_of whole) d) (required (codes "nodes") (list_of whole) d) (required (codes "need") whole d) (required (codes "min") whole d)
    (λ after nodes need least. option_and_then (λ most. option_and_then (λ run. Some (record { after = after; nodes = nodes; need = need; min = least; max = most; run = run })) (required (codes "run") (list_of whole) d)) (required (codes "max") whole d)) e

pub no_max : (d : Data) → required (codes "max") whole d ≡ None → task_fields d ≡ None
no_max d e =
    fifth (required (codes "after") (list_of whole) d) (required (codes "nodes") (list_of whole) d) (required (codes "need") whole d) (required (codes "min") whole d) (required (codes "max") whole d)
    (λ after nodes need least most. option_and_then (λ run. Some (record { after = after; nodes = nodes; need = need; min = least; max = most; run = run })) (required (codes "run") (list_of whole) d)) e
