use Rattle.std.proofs.Common.{◌≡◌, ◌++◌, ◌∷◌, [], map, take, length}
use Rattle.omh_paths.specs.Paths.{outside}
use Rattle.settled_items.proofs.listener.Listener.convicts.Given as goal

abbrev pub invariant-loop-q : goal.invariant-loop-q
invariant-loop-q g l = record {
  can : (goal.iterator-loop-q g).can_next l.q-iterator;
  ends : (goal.iterator-loop-q g).is_finite l.q-iterator;
  split : outside l.self.members (l.commander ∷ l.self.me ∷ []) ≡ l.yielded ++ l.q-iterator;
  end : l.end ≡ length l.yielded;
  long : length l.work ≡ 48;
  relays : take l.end l.work ≡ map (λ q. g.H.Hearing.hears l.hearing (l.commander ∷ q ∷ [])) l.yielded;
}
