use Rattle.std.proofs.Common.{◌≡◌, [], ◌∷◌, ◌++◌, map, Option, ℤ, sym, ap, ap₂, ◌∙◌, append-nil, arith, to_z, of_z, w64}
use Rattle.std.proofs.lemmas.Int.{ints}
use Rattle.scenario.specs.Parts.{Numbers}
use Rattle.scenario.specs.Parts.Numbers.{all}
use Rattle.scenario.specs.Seen.{lie_view}
use Rattle.drawn_scenarios.specs.declared.bout.Conduct.TheVariants.{Alike, Apart}
use Rattle.drawn_scenarios.specs.Lines.{some_of, rest_of, lie, lies_by}
use Rattle.drawn_scenarios.proofs.Pushed.{two_more, lies_more}
use Rattle.drawn_scenarios.proofs.lines.push_lies.Goals as goal

pub returns-in_ok-push_lie-in-Alike : goal.returns-in_ok-push_lie-in-Alike
returns-in_ok-push_lie-in-Alike c =
    let ch = c.args.options.now.choices in
    let b = c.args.bout.now in
    let same : to_z w64 (of_z w64 c.in-Some.by) ≡ c.in-Some.by = omega (arith, ints) in
    lies_more ch b (Alike c.in-Alike.fault c.in-Alike.by) (lie b all c.in-Some.by ∷ []) _ _ c.in-Alike.is (ap (λ (o : Option ℤ). lies_by ch b (Alike c.in-Alike.fault o)) c.in-Some.is)
    (c.in_ok-push_lie-in-Alike.ensures ∙ ap (λ (z : ℤ). map lie_view c.args.lies.now.items ++ lie b all z ∷ []) same)

pub returns-in_default : goal.returns-in_default
returns-in_default c =
    let ch = c.args.options.now.choices in
    let b = c.args.bout.now in
    lies_more ch b (Alike c.in-Alike.fault c.in-Alike.by) [] _ _ c.in-Alike.is (ap (λ (o : Option ℤ). lies_by ch b (Alike c.in-Alike.fault o)) c.in_default.is) (sym (append-nil _))

pub returns-in_ok-push_lie-in-Apart-2 : goal.returns-in_ok-push_lie-in-Apart-2
returns-in_ok-push_lie-in-Apart-2 c =
    let ch = c.args.options.now.choices in
    let b = c.args.bout.now in
    let a = c.in-Apart in
    let to_some : to_z w64 (of_z w64 c.in-Some-bys.to_some) ≡ c.in-Some-bys.to_some = omega (arith, ints) in
    let to_rest : to_z w64 (of_z w64 c.in-Some-bys.to_rest) ≡ c.in-Some-bys.to_rest = omega (arith, ints) in
    let some = lie b (some_of ch b a.some) c.in-Some-bys.to_some in
    let rest = lie b (rest_of ch b a.some) c.in-Some-bys.to_rest in
    lies_more ch b (Apart a.some a.fault a.rest a.bys) (some ∷ rest ∷ []) _ _ a.is
    (ap (λ (o : Option (ℤ × ℤ)). lies_by ch b (Apart a.some a.fault a.rest o)) c.in-Some-bys.is)
    (two_more _ (map lie_view c.push_lie-in-Some-bys.new.lies.items) _ some rest
    (c.in_ok-push_lie-in-Apart.ensures ∙ ap₂ (λ (n : Numbers) (z : ℤ). map lie_view c.args.lies.now.items ++ lie b n z ∷ []) c.in_ok-to-in-Apart.ensures to_some)
    (c.in_ok-push_lie-in-Apart-2.ensures ∙ ap₂ (λ (n : Numbers) (z : ℤ). map lie_view c.push_lie-in-Some-bys.new.lies.items ++ lie b n z ∷ []) c.in_ok-to-in-Apart-2.ensures to_rest))

pub returns-in_default-bys : goal.returns-in_default-bys
returns-in_default-bys c =
    let ch = c.args.options.now.choices in
    let b = c.args.bout.now in
    let a = c.in-Apart in
    lies_more ch b (Apart a.some a.fault a.rest a.bys) [] _ _ a.is (ap (λ (o : Option (ℤ × ℤ)). lies_by ch b (Apart a.some a.fault a.rest o)) c.in_default-bys.is) (sym (append-nil _))
