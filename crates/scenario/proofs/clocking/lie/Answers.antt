use Rattle.std.proofs.Common.{◌≡◌, true, sym, ap, ◌∙◌, arith, lit<}
use Rattle.std.proofs.lemmas.Bool.{and_parts}
use Rattle.clock_skew.specs.Clock.{LieView, lie_of}
use Rattle.scenario.specs.Rules.{is_said}
use Rattle.scenario.specs.Seen.{numbers_view, lie_view}
use Rattle.scenario.proofs.Plans.{sender_small, span_small}
use Rattle.scenario.proofs.Lying.{said_fits}
use Rattle.scenario.proofs.clocking.lie.Goals as goal

pub is_fair-requires : goal.is_fair-requires
is_fair-requires g c =
    let p = c.args.part.now in
    let on : is_said c.args.nodes c.args.periods (lie_view p) ≡ true = sym c.is_said.ensures ∙ c.if-not-is_said.false in
    let addressed = (and_parts _ _ on).0 in
    let sender = sender_small c.args.nodes c.args.periods p.from (numbers_view p.to) p.periods.items addressed in
    let span = span_small c.args.nodes c.args.periods p.from (numbers_view p.to) p.periods.items addressed in
    let from = ap (λ (v : LieView). v.from) c.said-lie.ensures in
    let last = ap (λ (v : LieView). v.last) c.said-lie.ensures in
    (lit< tt, (lit< tt, (c.requires.nodes, (omega (arith, from, sender), (omega (arith, last, span.1, c.requires.periods), omega (arith, c.requires.periods, c.requires.few_periods))))))

pub returns-then-is_fair-clause-fits : goal.returns-then-is_fair-clause-fits
returns-then-is_fair-clause-fits g c =
    let on : is_said c.args.nodes c.args.periods (lie_view c.args.part.now) ≡ true = sym c.is_said.ensures ∙ c.if-not-is_said.false in
    sym c.if-is_fair.true
    ∙ said_fits c.args.plan.now c.args.nodes c.args.periods (lie_view c.args.part.now) (lie_of c.said-lie.result) c.is_fair.result c.requires.nodes c.requires.periods on c.said-lie.ensures c.is_fair.ensures

pub returns-else-is_fair-clause-fits : goal.returns-else-is_fair-clause-fits
returns-else-is_fair-clause-fits g c =
    let on : is_said c.args.nodes c.args.periods (lie_view c.args.part.now) ≡ true = sym c.is_said.ensures ∙ c.if-not-is_said.false in
    sym c.if-is_fair.false
    ∙ said_fits c.args.plan.now c.args.nodes c.args.periods (lie_view c.args.part.now) (lie_of c.said-lie.result) c.is_fair.result c.requires.nodes c.requires.periods on c.said-lie.ensures c.is_fair.ensures
