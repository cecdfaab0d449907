use Rattle.std.proofs.Common.{[], ◌∷◌, Option, refl, ap, ◌∙◌}
use Rattle.scenario.specs.Parts.{Numbers}
use Rattle.scenario.specs.Parts.Numbers.{all}
use Rattle.scenario.specs.Seen.{fault_view}
use Rattle.drawn_scenarios.specs.declared.bout.Fault.{Fault}
use Rattle.drawn_scenarios.specs.declared.bout.Conduct.TheVariants.{Alike, Apart}
use Rattle.drawn_scenarios.specs.Lines.{some_of, rest_of, line, lines_by}
use Rattle.drawn_scenarios.proofs.Pushed.{part_more, two_more, lines_more}
use Rattle.drawn_scenarios.proofs.lines.push_lines.Goals as goal

pub returns-in_ok-push-in-Alike : goal.returns-in_ok-push-in-Alike
returns-in_ok-push-in-Alike c =
    let ch = c.args.options.now.choices in
    let b = c.args.bout.now in
    lines_more ch b (Alike c.in-Alike.fault c.in-Alike.lie) (line ch b all c.in-Alike.fault ∷ []) _ _ c.in-Alike.is refl
    (part_more fault_view _ _ _ (line ch b all c.in-Alike.fault) c.in_ok-push-in-Alike.ensures.items c.in_ok-line-in-Alike.ensures)

pub returns-in_ok-push-in-Apart-2 : goal.returns-in_ok-push-in-Apart-2
returns-in_ok-push-in-Apart-2 c =
    let ch = c.args.options.now.choices in
    let b = c.args.bout.now in
    let a = c.in-Apart in
    let some = line ch b (some_of ch b a.some) a.fault in
    let rest = line ch b (rest_of ch b a.some) c.in-Some.other in
    lines_more ch b (Apart a.some a.fault a.rest a.lies) (some ∷ rest ∷ []) _ _ a.is (ap (λ (o : Option Fault). lines_by ch b (Apart a.some a.fault o a.lies)) c.in-Some.is)
    (two_more _ _ _ some rest
    (part_more fault_view _ _ _ some c.in_ok-push-in-Apart.ensures.items (c.in_ok-line-in-Apart.ensures ∙ ap (λ (n : Numbers). line ch b n a.fault) c.in_ok-to-in-Apart.ensures))
    (part_more fault_view _ _ _ rest c.in_ok-push-in-Apart-2.ensures.items (c.in_ok-line-in-Apart-2.ensures ∙ ap (λ (n : Numbers). line ch b n c.in-Some.other) c.in_ok-to-in-Apart-2.ensures)))

pub returns-in_default : goal.returns-in_default
returns-in_default c =
    let ch = c.args.options.now.choices in
    let b = c.args.bout.now in
    let a = c.in-Apart in
    let some = line ch b (some_of ch b a.some) a.fault in
    lines_more ch b (Apart a.some a.fault a.rest a.lies) (some ∷ []) _ _ a.is (ap (λ (o : Option Fault). lines_by ch b (Apart a.some a.fault o a.lies)) c.in_default.is)
    (part_more fault_view _ _ _ some c.in_ok-push-in-Apart.ensures.items (c.in_ok-line-in-Apart.ensures ∙ ap (λ (n : Numbers). line ch b n a.fault) c.in_ok-to-in-Apart.ensures))
