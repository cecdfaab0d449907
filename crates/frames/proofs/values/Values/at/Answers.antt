use Rattle.std.proofs.Common.{◌≡◌, ◌/◌, sym, ◌∙◌, length, arith, lit<, to_z, of_z, w64, rules}
use Rattle.std.proofs.lemmas.List.{length-map}
use Rattle.std.proofs.lemmas.Int.{to_z-of_z}
use Rattle.frames.specs.Reading.{pieces_of_width, content_value, content_values}
use Rattle.frames.specs.PieceLaws.{length-cut, piece_within, read_at}
use Rattle.frames.proofs.values.Values.at.Goals as goal

pub read_value-requires : goal.read_value-requires
read_value-requires c =
    let n : length (content_values c.args.self.now.bytes.now) ≡ length c.args.self.now.bytes.now / 8 = length-map (pieces_of_width 8 c.args.self.now.bytes.now) content_value ∙ length-cut 8 c.args.self.now.bytes.now in
    piece_within 8 c.args.k (length c.args.self.now.bytes.now) (lit< tt) (omega arith)

pub returns : goal.returns
returns c =
    let n : length (content_values c.args.self.now.bytes.now) ≡ length c.args.self.now.bytes.now / 8 = length-map (pieces_of_width 8 c.args.self.now.bytes.now) content_value ∙ length-cut 8 c.args.self.now.bytes.now in
    to_z-of_z w64 c.read_value.result (search rules)
    ∙ c.read_value.ensures
    ∙ sym (read_at 8 content_value c.args.self.now.bytes.now c.args.k (to_z w64 (of_z w64 c.read_value.result)) (omega arith))
