use Rattle.std.proofs.Common.{ap, ◌∙◌, arith}
use Rattle.std.proofs.lemmas.Bool.{and_parts}
use Rattle.scenario.specs.Line.{first_of, last_of}
use Rattle.scenario.specs.Seen.{numbers_view}
use Rattle.scenario.proofs.Plans.{span_small}
use Rattle.scenario.proofs.clocking.said.Goals as goal

pub overflow_cast-result-2 : goal.overflow_cast-result-2
overflow_cast-result-2 g c =
    let p = c.args.part.now in
    let s = span_small c.args.nodes c.args.periods p.from (numbers_view p.to) p.periods.items (and_parts _ _ c.requires.said).0 in
    omega (arith, c.first_of.ensures ∙ ap first_of c.deref.ensures.value, s.0, s.1, c.requires.few_periods)

pub overflow_cast-result-3 : goal.overflow_cast-result-3
overflow_cast-result-3 g c =
    let p = c.args.part.now in
    let s = span_small c.args.nodes c.args.periods p.from (numbers_view p.to) p.periods.items (and_parts _ _ c.requires.said).0 in
    omega (arith, c.last_of.ensures ∙ ap last_of c.deref-2.ensures.value, s.1, c.requires.few_periods)
