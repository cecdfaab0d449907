use Rattle.std.proofs.Common.{◌∷◌, [], ◌<◌, map, take, length, subst, ap, ◌∙◌, arith}
use Rattle.omh_paths.specs.Majority.{has_majority as wins}
use Rattle.relay_terms.specs.Terms.{said}
use Rattle.relay_terms.specs.Tallies.{IsCount}
use Rattle.relay_terms.proofs.Loops.{seen_more, seen_all}
use Rattle.relay_terms.proofs.settling.has_majority.Goals as goal

pub loop-term-init : goal.loop-term-init
loop-term-init g c = record {
  count = c.add.ensures.count [] c.of-count.ensures.count;
  value = c.add.ensures.value ∙ c.of-count.ensures.value;
  few_votes = omega (arith, c.add.ensures.few_votes, c.of-count.ensures.few_votes);
  few_support = omega (arith, c.add.ensures.few_support, c.of-count.ensures.few_support);
}

pub loop-term-preserved : goal.loop-term-preserved
loop-term-preserved g c =
    let here : c.loop-term.term-index < length c.args.terms.now = omega arith in
    record {
      count = subst (λ seen. IsCount g.V.PartialEq.eq seen c.add-in-loop-term.new.self) (seen_more (said c.args.own.now) c.args.terms.now c.loop-term.term-index c.term-item.result here c.term-item.is)
          (c.add-in-loop-term.ensures.count (said c.args.own.now ∷ map said (take c.loop-term.term-index c.args.terms.now)) c.loop-term.invariant.count);
      value = c.add-in-loop-term.ensures.value ∙ c.loop-term.invariant.value;
      few_votes = omega (arith, c.add-in-loop-term.ensures.few_votes, c.loop-term.invariant.few_votes);
      few_support = omega (arith, c.add-in-loop-term.ensures.few_support, c.loop-term.invariant.few_support);
    }

pub returns : goal.returns
returns g c =
    let all = subst (λ seen. IsCount g.V.PartialEq.eq seen c.loop-term.count) (seen_all (said c.args.own.now) c.args.terms.now c.loop-term.term-index (omega (arith, c.loop-term-test.false))) c.loop-term.invariant.count in
    c.has_majority.ensures (said c.args.own.now ∷ map said c.args.terms.now) all
    ∙ ap (λ x. wins g.V.PartialEq.eq (said c.args.own.now ∷ map said c.args.terms.now) (said x)) c.loop-term.invariant.value
