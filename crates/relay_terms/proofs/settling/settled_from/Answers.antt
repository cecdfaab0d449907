use Rattle.std.proofs.Common.{◌≡◌, ◌∷◌, true, false, map, sym, ap, ◌∙◌}
use Rattle.omh_paths.specs.Wrapped.{is_error, unwrapped}
use Rattle.omh_paths.specs.Majority.{has_majority}
use Rattle.relay_terms.specs.Terms.{said}
use Rattle.relay_terms.specs.TallyLaws.{nothing_wins, candidate_wins, candidate_loses}
use Rattle.relay_terms.proofs.settling.settled_from.Goals as goal

pub returns-then-is_nothing : goal.returns-then-is_nothing
returns-then-is_nothing g c =
    let all = said c.args.own.now ∷ map said c.args.terms.now in
    let bad : is_error (said c.tally_of-tally.result.candidate) ≡ true =
    ap (λ x. is_error (said x)) (sym c.candidate-candidate.ensures) ∙ sym c.is_nothing.ensures ∙ c.if-is_nothing.true in
    c.nothing.ensures ∙ ap unwrapped (sym (nothing_wins g.met.V.Exact.exact all (said c.tally_of-tally.result.candidate) c.tally_of-tally.result.lead c.tally_of-tally.ensures.leads bad))

pub returns-then-candidate_wins : goal.returns-then-candidate_wins
returns-then-candidate_wins g c =
    let all = said c.args.own.now ∷ map said c.args.terms.now in
    let good : is_error (said c.tally_of-tally.result.candidate) ≡ false =
    ap (λ x. is_error (said x)) (sym c.candidate-candidate.ensures) ∙ sym c.is_nothing.ensures ∙ c.if-is_nothing.false in
    let won : has_majority g.V.PartialEq.eq all (said c.tally_of-tally.result.candidate) ≡ true = sym c.candidate_wins.ensures ∙ c.if-candidate_wins.true in
    c.unwrap.ensures ∙ ap (λ x. unwrapped (said x)) c.candidate-candidate.ensures ∙ ap unwrapped (sym (candidate_wins g.met.V.Exact.exact all (said c.tally_of-tally.result.candidate) good won))

pub returns-else-candidate_wins : goal.returns-else-candidate_wins
returns-else-candidate_wins g c =
    let all = said c.args.own.now ∷ map said c.args.terms.now in
    let lost : has_majority g.V.PartialEq.eq all (said c.tally_of-tally.result.candidate) ≡ false = sym c.candidate_wins.ensures ∙ c.if-candidate_wins.false in
    c.nothing-else-candidate_wins.ensures ∙ ap unwrapped (sym (candidate_loses g.met.V.Exact.exact all (said c.tally_of-tally.result.candidate) c.tally_of-tally.result.lead c.tally_of-tally.ensures.leads lost))
