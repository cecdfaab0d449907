use Rattle.std.proofs.Common.{◌≡◌, length}
use Rattle.shared_states.specs.Places.{ArePlaced, LeadAlike}
use Rattle.shared_states.proofs.places.join_at.Given as goal

abbrev pub invariant-loop-other : goal.invariant-loop-other
invariant-loop-other g l = record {
  wide : length l.places ≡ g.row.N;
  placed : ArePlaced g.row.N l.nodes l.places;
  alike : LeadAlike l.states l.nodes l.initial.places l.places;
}
