use Rattle.std.proofs.Common.{sym, ◌∙◌}
use Rattle.omh_paths.proofs.Candidates.{candidate_wins, candidate_loses}
use Rattle.omh_paths.proofs.voting.majority.Goals as goal

pub returns-then-has_majority : goal.returns-then-has_majority
returns-then-has_majority g c = candidate_wins g.met.V.Exact.exact c.args.values.now c.candidate-candidate.result c.candidate-candidate.ensures (sym c.has_majority.ensures ∙ c.if-has_majority.true)

pub returns-else-has_majority : goal.returns-else-has_majority
returns-else-has_majority g c = candidate_loses g.met.V.Exact.exact c.args.values.now c.candidate-candidate.result c.candidate-candidate.ensures (sym c.has_majority.ensures ∙ c.if-has_majority.false)
