use Rattle.std.proofs.Common.{◌∷◌, ◌<◌, map, take, length, subst, arith}
use Rattle.relay_terms.specs.Terms.{said}
use Rattle.relay_terms.specs.Tallies.{IsTally}
use Rattle.relay_terms.proofs.Loops.{seen_more, seen_all}
use Rattle.relay_terms.proofs.settling.tally_of.Goals as goal

pub loop-term-preserved : goal.loop-term-preserved
loop-term-preserved g c =
    let here : c.loop-term.term-index < length c.args.terms.now = omega arith in
    record {
      tally = subst (λ seen. IsTally g.V.PartialEq.eq seen c.add.new.self) (seen_more (said c.args.own.now) c.args.terms.now c.loop-term.term-index c.term-item.result here c.term-item.is)
          (c.add.ensures.tally (said c.args.own.now ∷ map said (take c.loop-term.term-index c.args.terms.now)) c.loop-term.invariant.tally);
      few = omega (arith, c.add.ensures.few, c.loop-term.invariant.few);
    }

pub returns : goal.returns
returns g c =
    subst (λ seen. IsTally g.V.PartialEq.eq seen c.loop-term.tally) (seen_all (said c.args.own.now) c.args.terms.now c.loop-term.term-index (omega (arith, c.loop-term-test.false))) c.loop-term.invariant.tally
