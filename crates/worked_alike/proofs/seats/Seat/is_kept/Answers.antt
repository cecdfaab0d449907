use Rattle.std.proofs.Common.{arith, subst, ltb-true, ◌<◌}
use Rattle.worked_alike.proofs.Rounds.{kept_round}
use Rattle.worked_alike.proofs.seats.Seat.is_kept.Goals as goal

pub returns : goal.returns
returns c = λ on.
    let self = c.args.self.now in
    kept_round self.rounds self.round (omega (arith, self.some, self.within)) (subst (λ m. self.round < m) c.max-most.ensures (ltb-true self.round c.max-most.result on))
