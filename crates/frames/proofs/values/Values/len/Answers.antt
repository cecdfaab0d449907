use Rattle.std.proofs.Common.{sym, ◌∙◌}
use Rattle.std.proofs.lemmas.List.{length-map}
use Rattle.frames.specs.Reading.{pieces_of_width, content_value}
use Rattle.frames.specs.PieceLaws.{length-cut}
use Rattle.frames.proofs.values.Values.len.Goals as goal

pub returns : goal.returns
returns c = sym (length-map (pieces_of_width 8 c.args.self.now.bytes.now) content_value ∙ length-cut 8 c.args.self.now.bytes.now)
