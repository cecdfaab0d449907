use Rattle.std.proofs.Common.{◌≡◌, ◌<◌, ◌++◌}
use Rattle.std.specs.Prelude.{slice_index_or}
use Rattle.omh_paths.specs.declared.wrapped.Wrapped.TheVariants.{Fault}
use Rattle.odd_relays.specs.Telling.{telling, convicts_commander}
use Rattle.odd_relays.specs.Voices.{IsCounted, regular_relay, regular_members}
use Rattle.odd_relays.proofs.Finding.{AreFound}
use Rattle.odd_relays.proofs.item.Item.convicting_among.Given as goal

abbrev pub invariant-loop-i : goal.invariant-loop-i
invariant-loop-i g l =
    let t = telling g.S.Relays.says l.self in
    record {
      can : (goal.iterator-loop-i g).can_next l.i-iterator;
      ends : (goal.iterator-loop-i g).is_finite l.i-iterator;
      split : l.nodes ≡ l.yielded ++ l.i-iterator;
      low : l.like < g.row.N;
      counted : IsCounted g.V.PartialEq.eq (slice_index_or t.told l.like (Fault 0)) (regular_relay t) (regular_members t) l.voices;
      found : AreFound g.row.N (convicts_commander g.V.PartialEq.eq t) l.nodes l.yielded l.convicting;
    }
