use Rattle.std.proofs.Common.{◌≡◌, ℕ, ℤ, Bool, List, map, Vec, Global, rules, sym, ap, ◌∙◌, w64, to_z-of_z}
use Rattle.std.specs.Prelude.{FitsSigned}
use Rattle.std.specs.List.{list_all}
use Rattle.clock_skew.specs.Clock.{number_at}
use Rattle.scenario.specs.Rules.{are_close, allowed, is_close}
use Rattle.scenario.specs.Seen.{channel_view, task_view}
use Rattle.scenario.specs.declared.parts.ChannelPart.{ChannelPart}
use Rattle.scenario.proofs.parts.ChannelPart.is_close.Goals as goal

abbrev test : ℤ → List ℕ → List (Vec ℤ Global) → Bool
test delta group rows = list_all (λ row. are_close delta (map (number_at row) group)) (map (λ (row : Vec ℤ Global). row.items) rows)

pub returns-in-Copy : goal.returns-in-Copy
returns-in-Copy c =
    let delta = c.in-Copy.delta in
    let task = c.in-Copy.task in
    let tasks = map task_view c.args.tasks.now in
    let rows = c.deref-in-Copy.result.now in
    let delta_fits : FitsSigned w64 delta = search rules in
    let task_fits : FitsSigned w64 task = search rules in
    let group : c.allowed.result ≡ allowed c.args.nodes tasks task = c.allowed.ensures ∙ ap (allowed c.args.nodes tasks) (to_z-of_z task_fits) in
    let is = ap (λ (x : ChannelPart). is_close c.args.nodes tasks (channel_view x)) c.in-Copy.is in
    c.are_close_rows_among.ensures
    ∙ ap (λ (d : ℤ). test d c.allowed.result rows) (to_z-of_z delta_fits)
    ∙ ap (λ (g : List ℕ). test delta g rows) group
    ∙ ap (test delta (allowed c.args.nodes tasks task)) c.deref-in-Copy.ensures.value
    ∙ sym is
