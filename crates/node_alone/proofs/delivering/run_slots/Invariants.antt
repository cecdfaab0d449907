use Rattle.std.proofs.Common.{◌≡◌, drop}
use Rattle.node_steps.specs.Period.{slots_run}
use Rattle.node_alone.specs.Log.{arrivals}
use Rattle.node_alone.specs.Stepping.{from_slot}
use Rattle.node_alone.proofs.delivering.run_slots.Given as goal

abbrev pub invariant-loop-slot : goal.invariant-loop-slot
invariant-loop-slot g l = record {
  node : l.node ≡ slots_run (arrivals l.entries l.period) l.slot l.initial.node;
  rest : drop l.next l.entries ≡ from_slot l.period l.slot l.entries;
}
