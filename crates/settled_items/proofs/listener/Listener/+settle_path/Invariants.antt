use Rattle.std.proofs.Common.{◌≡◌, ◌+◌, ◌-◌, ◌++◌, map, take, length}
use Rattle.omh_paths.specs.Paths.{outside}
use Rattle.omh.specs.Omh.{term_at}
use Rattle.settled_items.specs.Listening.{listener_ear}
use Rattle.settled_items.proofs.listener.Listener.+settle_path.Given as goal

abbrev pub decreases-settle_path : goal.decreases-settle_path
decreases-settle_path g l = l.self.now.rounds + 1 - length l.path.now

abbrev pub invariant-loop-q : goal.invariant-loop-q
invariant-loop-q g l = record {
  can : (goal.iterator-loop-q g).can_next l.q-iterator;
  ends : (goal.iterator-loop-q g).is_finite l.q-iterator;
  split : outside l.self.members l.path ≡ l.yielded ++ l.q-iterator;
  end : l.end ≡ l.from + length l.yielded;
  long : length l.work ≡ length l.initial.work;
  terms : take l.end l.work ≡ take l.from l.initial.work ++ map (term_at g.V.PartialEq.eq (listener_ear l.self (g.H.Hearing.hears l.hearing)) l.path) l.yielded;
}
