use Rattle.std.proofs.Common.{ℕ, suc, ◌≡◌, ◌<◌, ◌+◌, ◌*◌, List, length, get_or}
use Rattle.std.specs.Prelude.{Option}
use Rattle.omh_paths.specs.declared.wrapped.Wrapped.{Wrapped}
use Rattle.omh_paths.specs.declared.wrapped.Wrapped.TheVariants.{Fault}
use Rattle.omh_paths.specs.Paths.{index_in}
use Rattle.omh.specs.Flat.{relay_path}
use Rattle.omh.specs.Written.{IsSmall}
use Rattle.settled_paths.specs.Passing.{passed}
use Rattle.settled_paths.specs.Levels.{AreLaid}
use Rattle.settled_paths.proofs.exchange.Exchange.lay_level.Given as goal

abbrev pub invariant-loop-k : goal.invariant-loop-k
invariant-loop-k g l = record {
  room : length l.laid ≡ length l.initial.laid;
  kept : (i : ℕ) → i < l.next → get_or l.laid i (Fault 0) ≡ get_or l.initial.laid i (Fault 0);
  few : (i : ℕ) → i < l.k * l.width → IsSmall (252 + suc l.relays) (get_or l.laid (l.next + i) (Fault 0));
  done : (own : Wrapped g.row.V.Denot) (says : ℕ → List ℕ → Option (Wrapped g.row.V.Denot)) → ((i : ℕ) (path : List ℕ) → length path ≡ l.relays + 1 → says i path ≡ g.T.Touched.says l.touched i path)
      → AreLaid l.self.members l.self.full own says (index_in l.self.members l.self.commander) l.relays l.initial.laid
      → (i : ℕ) → i < l.k * l.width → get_or l.laid (l.next + i) (Fault 0) ≡ passed l.self.full own says (relay_path l.self.members (index_in l.self.members l.self.commander) (suc l.relays) i);
}
