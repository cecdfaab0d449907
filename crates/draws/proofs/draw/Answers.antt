use Rattle.std.proofs.Common.{ℕ, ap, ◌%◌}
use Rattle.rand_pcg.specs.Lcg.{Lcg}
use Rattle.draws.specs.Draws.{draw}
use Rattle.draws.proofs.draw.Goals as goal

pub returns-clause-drawn : goal.returns-clause-drawn
unfolding draw
returns-clause-drawn c = ap (λ (p : ℕ × Lcg). (p.0 % c.args.count, p.1)) c.next_word.ensures
