use Rattle.std.proofs.Common.{◌≡◌, ◌+◌, ◌++◌}
use Rattle.std.specs.Prelude.{slice_index_or}
use Rattle.node_grid.specs.NodeSet.{without_id}
use Rattle.node_grid.specs.Count.{count}
use Rattle.omh_paths.specs.declared.wrapped.Wrapped.TheVariants.{Fault}
use Rattle.equivocation.specs.Conviction.{is_present, disagrees}
use Rattle.odd_relays.specs.Telling.{telling}
use Rattle.odd_relays.specs.Voices.{odd_members}
use Rattle.odd_relays.proofs.Voices.{odd_relay}
use Rattle.odd_relays.proofs.item.Item.convicts_beside.Given as goal

abbrev pub invariant-loop-q : goal.invariant-loop-q
invariant-loop-q g l =
    let t = telling g.S.Relays.says l.self in
    record {
      can : (goal.iterator-loop-q g).can_next l.q-iterator;
      ends : (goal.iterator-loop-q g).is_finite l.q-iterator;
      split : without_id (odd_members t) l.i ≡ l.yielded ++ l.q-iterator;
      present : l.voices.present ≡ l.regular.present + count (λ q. is_present (odd_relay t l.i q)) l.yielded;
      against : l.voices.against ≡ l.regular.against + count (λ q. disagrees g.V.PartialEq.eq (slice_index_or t.told l.i (Fault 0)) (odd_relay t l.i q)) l.yielded;
    }
