use Rattle.std.proofs.Common.{◌≡◌, map, length}
use Rattle.omh.specs.Flat.{section_at}
use Rattle.relay_terms.specs.Terms.{said, term_in}
use Rattle.relay_table.specs.Tabled.{AreKnown}
use Rattle.relay_table.proofs.Walks.{IsHalfway}
use Rattle.relay_table.proofs.station.Station.hear.Given as goal

abbrev pub invariant-loop-k : goal.invariant-loop-k
invariant-loop-k g l = record {
  half : IsHalfway (term_in g.V.Item.of_bytes) l.self.members l.self.others l.self.me l.round (section_at (length l.self.others) l.round) (map said l.initial.heard) l.initial.frames l.k l.at l.frames (map said l.heard);
  known : AreKnown (map said l.heard);
  long : length l.heard ≡ length l.initial.heard;
}
