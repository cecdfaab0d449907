use Rattle.std.proofs.Common.{◌∷◌, map, sym, ap, ◌∙◌}
use Rattle.omh_paths.specs.Majority.{has_majority as wins}
use Rattle.relay_terms.specs.Terms.{said}
use Rattle.relay_terms.specs.TallyLaws.{one_has}
use Rattle.relay_terms.proofs.settling.candidate_wins.Goals as goal

pub returns-then-is_contested : goal.returns-then-is_contested
returns-then-is_contested g c =
    c.has_majority.ensures ∙ ap (λ x. wins g.V.PartialEq.eq (said c.args.own.now ∷ map said c.args.terms.now) (said x)) c.candidate.ensures

pub returns-else-is_contested : goal.returns-else-is_contested
returns-else-is_contested g c =
    sym (one_has g.met.V.Exact.exact (said c.args.own.now ∷ map said c.args.terms.now) (said c.args.tally.now.candidate) c.args.tally.now.lead
    (c.requires.tally.calm (sym c.is_contested.ensures ∙ c.if-is_contested.false)) c.requires.good)
