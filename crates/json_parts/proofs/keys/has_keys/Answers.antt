use Rattle.std.proofs.Common.{ℕ, List, ap, ◌∙◌, map}
use Rattle.std.specs.Borrow.{Bor}
use Rattle.std.specs.List.{list_all}
use Rattle.std.specs.declared.alloc.Global.{Global}
use Rattle.json.specs.declared.value.Value.{Value}
use Rattle.json_parts.specs.Reading.{is_among}
use Rattle.json_parts.proofs.Meaning.{has_keys-members}
use Rattle.json_parts.proofs.keys.has_keys.Goals as goal

pub returns-in-Object : goal.returns-in-Object
returns-in-Object c =
    let names = map (λ name. name.now) c.args.names.now in
    c.are_names.ensures ∙ ap (λ (ms : List (Bor (List ℕ) × Value Global)). list_all (λ (m : Bor (List ℕ) × Value Global). is_among names m.0.now) ms) c.deref.ensures.value
    ∙ has_keys-members names c.args.value.now c.in-Object.members c.in-Object.is
