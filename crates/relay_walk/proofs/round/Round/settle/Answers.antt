use Rattle.std.proofs.Common.{lit<, inr, inl, ◌≡◌, ◌∷◌, true, false, map, sym, ap, ◌∙◌}
use Rattle.omh_paths.specs.Wrapped.{is_error, unwrapped}
use Rattle.omh_paths.specs.Majority.{majority, has_majority as has_most}
use Rattle.relay_terms.specs.Terms.{said, term_in}
use Rattle.relay_terms.specs.TallyLaws.{nothing_wins, candidate_wins, candidate_loses}
use Rattle.relay_walk.specs.Walking.{last_in}
use Rattle.relay_walk.proofs.round.Round.settle.Goals as goal

pub returns-then-is_nothing-clause-settled : goal.returns-then-is_nothing-clause-settled
returns-then-is_nothing-clause-settled g c =
    let all = said c.args.own.now ∷ map (last_in (term_in g.V.Item.of_bytes) c.tally-tally.new.self) c.args.others.now in
    let bad : is_error (said c.tally-tally.result.candidate) ≡ true =
    ap (λ x. is_error (said x)) (sym c.candidate-candidate.ensures) ∙ sym c.is_nothing.ensures ∙ c.if-is_nothing.true in
    c.nothing.ensures ∙ ap unwrapped (sym (nothing_wins g.met.V.Exact.exact all (said c.tally-tally.result.candidate) c.tally-tally.result.lead c.tally-tally.ensures.tally.leads bad))
    ∙ ap (λ xs. unwrapped (majority g.V.PartialEq.eq (said c.args.own.now ∷ xs))) c.tally-tally.ensures.same

pub candidate_wins-requires : goal.candidate_wins-requires
candidate_wins-requires g c = (
  elim c.requires.more.sized [ inl e ↦ rw e (lit< tt) | inr e ↦ rw e (lit< tt) ],
  (
    lit< tt,
    (
      c.tally-tally.ensures.read,
      (c.tally-tally.ensures.tally, ap (λ x. is_error (said x)) (sym c.candidate-candidate.ensures) ∙ sym c.is_nothing.ensures ∙ c.if-is_nothing.false),
    ),
  ),
)

pub returns-then-candidate_wins-clause-settled : goal.returns-then-candidate_wins-clause-settled
returns-then-candidate_wins-clause-settled g c =
    let all = said c.args.own.now ∷ map (last_in (term_in g.V.Item.of_bytes) c.tally-tally.new.self) c.args.others.now in
    let good : is_error (said c.tally-tally.result.candidate) ≡ false =
    ap (λ x. is_error (said x)) (sym c.candidate-candidate.ensures) ∙ sym c.is_nothing.ensures ∙ c.if-is_nothing.false in
    let won : has_most g.V.PartialEq.eq all (said c.tally-tally.result.candidate) ≡ true = sym c.candidate_wins.ensures ∙ c.if-candidate_wins.true in
    c.unwrap.ensures ∙ ap (λ x. unwrapped (said x)) c.candidate-candidate.ensures ∙ ap unwrapped (sym (candidate_wins g.met.V.Exact.exact all (said c.tally-tally.result.candidate) good won))
    ∙ ap (λ xs. unwrapped (majority g.V.PartialEq.eq (said c.args.own.now ∷ xs))) c.tally-tally.ensures.same

pub returns-else-candidate_wins-clause-settled : goal.returns-else-candidate_wins-clause-settled
returns-else-candidate_wins-clause-settled g c =
    let all = said c.args.own.now ∷ map (last_in (term_in g.V.Item.of_bytes) c.tally-tally.new.self) c.args.others.now in
    let lost : has_most g.V.PartialEq.eq all (said c.tally-tally.result.candidate) ≡ false = sym c.candidate_wins.ensures ∙ c.if-candidate_wins.false in
    c.nothing-else-candidate_wins.ensures ∙ ap unwrapped (sym (candidate_loses g.met.V.Exact.exact all (said c.tally-tally.result.candidate) c.tally-tally.result.lead c.tally-tally.ensures.tally.leads lost))
    ∙ ap (λ xs. unwrapped (majority g.V.PartialEq.eq (said c.args.own.now ∷ xs))) c.tally-tally.ensures.same
