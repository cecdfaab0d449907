use Rattle.std.proofs.Common.{◌≡◌, ℕ, ℤ, pos, true, false, not, List, rules, sym, ap, ◌∙◌, w64, to_z-of_z}
use Rattle.std.specs.Prelude.{FitsSigned}
use Rattle.std.specs.Ordering.{int_eq}
use Rattle.std.proofs.lemmas.Bool.{not-true}
use Rattle.json_parts.specs.Meaning.{view}
use Rattle.json_parts.specs.Reading.{has_keys}
use Rattle.node_grid.specs.TruthFacts.{not_false}
use Rattle.scenario_reading.proofs.Keys.{newer_names, older_names}
use Rattle.scenario_reading.proofs.parts.has_scenario_names.Goals as goal

pub returns-then-knows_more : goal.returns-then-knows_more
returns-then-knows_more c =
    let fits : FitsSigned w64 c.args.version = search rules in
    let knows = c.knows_more.ensures ∙ ap (λ (z : ℤ). not (int_eq z (pos 1))) (to_z-of_z fits) in
    let off : int_eq c.args.version (pos 1) ≡ false = not-true _ (sym knows ∙ c.if-knows_more.true) in
    c.has_keys.ensures ∙ ap (λ (names : List (List ℕ)). has_keys names (view c.args.value.now)) (sym (newer_names c.args.version off))

pub returns-else-knows_more : goal.returns-else-knows_more
returns-else-knows_more c =
    let fits : FitsSigned w64 c.args.version = search rules in
    let knows = c.knows_more.ensures ∙ ap (λ (z : ℤ). not (int_eq z (pos 1))) (to_z-of_z fits) in
    let on : int_eq c.args.version (pos 1) ≡ true = not_false _ (sym knows ∙ c.if-knows_more.false) in
    c.has_keys-else-knows_more.ensures ∙ ap (λ (names : List (List ℕ)). has_keys names (view c.args.value.now)) (sym (older_names c.args.version on))
