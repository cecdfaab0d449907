use Rattle.std.proofs.Common.{◌≡◌, ◌<◌, true, false, refl, sym, subst, ◌∙◌, arith}
use Rattle.std.proofs.lemmas.Bool.{both_ways}
use Rattle.omh_paths.specs.Wrapped.{is_error, same}
use Rattle.relay_terms.specs.Terms.{said}
use Rattle.relay_terms.specs.Tallies.{Leads, AreOne}
use Rattle.relay_terms.specs.TallyLaws.{leads_error, one_with_error, leads_first, one_first, leads_more, one_more, leads_less}
use Rattle.relay_terms.proofs.tally.Tally.add.Goals as goal

pub returns-then-is_nothing-clause-tally : goal.returns-then-is_nothing-clause-tally
returns-then-is_nothing-clause-tally g c =
    let bad : is_error (said c.args.term.now) ≡ true = sym c.is_nothing.ensures ∙ c.if-is_nothing.true in
    λ seen h. record {
      leads = leads_error g.met.V.Exact.exact seen (said c.args.self.now.candidate) (said c.args.term.now) c.args.self.now.lead h.leads bad;
      calm = λ k. one_with_error g.met.V.Exact.exact seen (said c.args.self.now.candidate) (said c.args.term.now) c.args.self.now.lead (h.calm k) bad;
    }

pub returns-then-self-eq0-clause-tally : goal.returns-then-self-eq0-clause-tally
returns-then-self-eq0-clause-tally g c =
    let good : is_error (said c.args.term.now) ≡ false = sym c.is_nothing.ensures ∙ c.if-is_nothing.false in
    λ seen h. record {
      leads = leads_first g.met.V.Exact.exact seen (said c.args.self.now.candidate) (said c.args.term.now) (subst (Leads g.V.PartialEq.eq seen (said c.args.self.now.candidate)) c.if-self-eq0.true h.leads) good;
      calm = λ k. one_first g.met.V.Exact.exact seen (said c.args.self.now.candidate) (said c.args.term.now) (subst (AreOne g.V.PartialEq.eq seen (said c.args.self.now.candidate)) c.if-self-eq0.true (h.calm k)) good;
    }

pub returns-then-is-clause-tally : goal.returns-then-is-clause-tally
returns-then-is-clause-tally g c =
    let good : is_error (said c.args.term.now) ≡ false = sym c.is_nothing.ensures ∙ c.if-is_nothing.false in
    let alike : same g.V.PartialEq.eq (said c.args.self.now.candidate) (said c.args.term.now) ≡ true = sym c.is.ensures ∙ c.if-is.true in
    λ seen h. record {
      leads = leads_more g.met.V.Exact.exact seen (said c.args.self.now.candidate) (said c.args.term.now) c.args.self.now.lead h.leads good alike;
      calm = λ k. one_more g.met.V.Exact.exact seen (said c.args.self.now.candidate) (said c.args.term.now) c.args.self.now.lead (h.calm k) good alike;
    }

pub returns-else-is-clause-tally : goal.returns-else-is-clause-tally
returns-else-is-clause-tally g c =
    let good : is_error (said c.args.term.now) ≡ false = sym c.is_nothing.ensures ∙ c.if-is_nothing.false in
    let other : same g.V.PartialEq.eq (said c.args.self.now.candidate) (said c.args.term.now) ≡ false = sym c.is.ensures ∙ c.if-is.false in
    let some : 0 < c.args.self.now.lead = omega (arith, c.if-self-eq0.false) in
    λ seen h. record {
      leads = leads_less g.met.V.Exact.exact seen (said c.args.self.now.candidate) (said c.args.term.now) c.args.self.now.lead h.leads some good other;
      calm = λ k. absurd (both_ways true k refl);
    }
