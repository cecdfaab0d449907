use Rattle.std.proofs.Common.{All, arith, sym, subst}
use Rattle.std.proofs.lemmas.List.Elements.{All-push}
use Rattle.clock_skew.specs.Clock.{IsLie, lie_of}
use Rattle.worked_alike.proofs.lies.drawn_lies.Goals as goal

pub loop-preserved : goal.loop-preserved
loop-preserved c = record {
  few = omega (arith, c.in_ok-push.ensures.len, c.loop.invariant.few);
  are = subst (All (λ lie. IsLie 12 (lie_of lie))) (sym c.in_ok-push.ensures.items) (All-push (λ lie. IsLie 12 (lie_of lie)) c.loop.lies.items c.in-Some.lie c.loop.invariant.are c.in-Some.ensures);
}
