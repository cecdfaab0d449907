use Rattle.std.proofs.Common.{◌≡◌, ◌+◌, ◌++◌, map, length}
use Rattle.relay_terms.specs.Terms.{said, term_in}
use Rattle.relay_walk.specs.Laid.{laid}
use Rattle.relay_walk.specs.Walking.{IsMoved, next_in}
use Rattle.relay_walk.proofs.round.Round.keep.Given as goal

abbrev pub invariant-loop-member : goal.invariant-loop-member
invariant-loop-member g l = record {
  can : (goal.iterator-loop-member g).can_next l.member-iterator;
  ends : (goal.iterator-loop-member g).is_finite l.member-iterator;
  split : l.others ≡ l.yielded ++ l.member-iterator;
  moved : IsMoved l.yielded l.initial.self l.self;
  terms : map said l.terms ≡ laid l.at (map (next_in (term_in g.V.Item.of_bytes) l.initial.self) l.yielded) (map said l.initial.terms);
  long : length l.terms ≡ length l.initial.terms;
  end : l.end ≡ l.at + length l.yielded;
}
