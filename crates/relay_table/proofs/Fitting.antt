-- What is heard and settled lies within a table's rooms.
use Rattle.std.proofs.Common.{ℕ, ◌≡◌, ◌<◌, ◌≤◌, ◌+◌, ◌-◌, List, length, arith}
use Rattle.omh_paths.specs.Paths.{path_count}
use Rattle.omh.specs.Flat.{section_at}
use Rattle.relay_terms.specs.declared.term.Term.{Term}
use Rattle.relay_table.specs.Rooms.{IsHeardRoom}
use Rattle.relay_table.specs.Tabled.{IsStation, kept_nodes}
use Rattle.relay_table.proofs.Convicted.{kept-pairs}
use Rattle.relay_table.proofs.HeardView.{kept-ge}
use Rattle.relay_table.proofs.Stations.{section_fits, paths_fit}

module _ {capacity nodes rounds me : ℕ} {members others : List ℕ} (s : IsStation capacity nodes rounds me members others) where
  pub heard_fits : {V : Type 0} (len : ℕ) (heard : List (Term V)) → len < kept_nodes rounds → IsHeardRoom nodes rounds heard → section_at (length others) (len + 1) ≤ length heard
  heard_fits len heard low room = omega (arith, room.heard_ok, section_fits s (len + 1) (omega (arith, low)))

  pub heard_room : (len room : ℕ) → len ≤ rounds → room ≡ section_at (nodes - 1) (kept_nodes rounds) → section_at (length others) len ≤ room
  heard_room len room low is = omega (arith, is, section_fits s len (omega (arith, low, kept-ge rounds)))

  pub settled_room : (len room : ℕ) → 0 < len → len ≤ rounds → room ≡ section_at (nodes - 1) (kept_nodes rounds) → path_count (length others) len ≤ room
  settled_room len room some low is = omega (arith, is, paths_fit s len some (omega (arith, low, kept-ge rounds)))

  pub pairs_room : (room : ℕ) → 0 < rounds → room ≡ section_at (nodes - 1) (kept_nodes rounds) → section_at (length others) 2 ≤ room
  pairs_room room some is = omega (arith, is, section_fits s 2 (kept-pairs rounds some))
