use Rattle.std.proofs.Common.{inl, inr, lit<, arith}
use Rattle.at_once.proofs.Openings.{kept_first}
use Rattle.at_once.proofs.run.Run.open.Goals as goal

pub invariant_of-result : goal.invariant_of-result
invariant_of-result g c =
    let sc = c.args.scenario.now in
    let known = c.config.ensures.scenario in
    record {
      scenario = known;
      in_run = omega arith;
      kept = kept_first sc known.system.config c.open-keeping.result c.open-keeping.ensures c.in_ok-shown.shown.made.states c.in_ok-shown.ensures.states;
      beliefs = c.in_ok-shown.ensures.beliefs;
      before = c.in_ok-shown.ensures.before;
      claims_room = c.in_ok-claims.ensures.0;
      rows_room = c.in_ok-claims.ensures.1;
      last = λ q e. absurd (omega (arith, e));
    }

pub config-requires : goal.config-requires
config-requires g c = elim g.bound-1.eight_or_sixteen [ inl e ↦ rw e (lit< tt, lit< tt) | inr e ↦ rw e (lit< tt, lit< tt) ]

pub open-requires : goal.open-requires
open-requires g c = (
  elim g.bound-1.eight_or_sixteen [ inl e ↦ rw e (lit< tt) | inr e ↦ rw e (lit< tt) ],
  elim g.bound-1.eight_or_sixteen [ inl e ↦ rw e (lit< tt) | inr e ↦ rw e (lit< tt) ],
)

pub phases-requires : goal.phases-requires
phases-requires g c = (
  elim g.bound-1.eight_or_sixteen [ inl e ↦ rw e (lit< tt) | inr e ↦ rw e (lit< tt) ],
  (
    elim g.bound-1.eight_or_sixteen [ inl e ↦ rw e (lit< tt) | inr e ↦ rw e (lit< tt) ],
    (
      elim g.bound-1.eight_or_sixteen [ inl e ↦ rw e (lit< tt) | inr e ↦ rw e (lit< tt) ],
      elim g.bound-1.eight_or_sixteen [ inl e ↦ rw e (lit< tt) | inr e ↦ rw e (lit< tt) ],
    ),
  ),
)

pub open-keeping-requires : goal.open-keeping-requires
open-keeping-requires g c = elim g.bound-1.eight_or_sixteen [ inl e ↦ rw e (lit< tt, lit< tt) | inr e ↦ rw e (lit< tt, lit< tt) ]
