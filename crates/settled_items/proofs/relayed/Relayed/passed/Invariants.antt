use Rattle.std.proofs.Common.{◌≡◌, ◌≢◌, take}
use Rattle.omh_paths.specs.declared.wrapped.Wrapped.TheVariants.{Fault}
use Rattle.settled_paths.specs.Passing.{passed}
use Rattle.settled_items.specs.Relaying.{clipped}
use Rattle.settled_items.proofs.relayed.Relayed.passed.Given as goal

abbrev pub invariant-loop-k : goal.invariant-loop-k
invariant-loop-k g l = record {
  walked : l.walked ≡ take l.k l.path;
  before : l.before ≡ clipped (passed l.self.exchange.full l.self.own.now (g.T.Touched.says l.self.touched.now) (take l.k l.path));
  known : l.before ≢ Fault 255;
}
