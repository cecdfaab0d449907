use Rattle.std.proofs.Common.{◌≡◌, subst, sym}
use Rattle.std.specs.Bool.{Decides}
use Rattle.frames.specs.Spelling.{header_spelling}
use Rattle.frames.proofs.Headers.{header_decided}
use Rattle.frames.proofs.encoding.is_header.Goals as goal

pub returns : goal.returns
returns c =
    subst (λ b. Decides b (c.args.bytes.now ≡ header_spelling c.args.head c.args.kind c.args.size)) (sym c.has_fields.ensures)
    (header_decided c.args.head c.args.kind c.args.size c.args.bytes.now)
