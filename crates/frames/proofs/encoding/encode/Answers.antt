use Rattle.std.proofs.Common.{◌≡◌, ℕ, List, length, ap, ◌∙◌, arith}
use Rattle.frames.specs.Content.{kind}
use Rattle.frames.specs.Spelling.{body_spelling, header_spelling}
use Rattle.frames.specs.Seen.{content}
use Rattle.frames.specs.Writing.{pasted}
use Rattle.frames.specs.PieceLaws.{pasted_front}
use Rattle.frames.proofs.encoding.encode.Goals as goal

pub returns-clause-written : goal.returns-clause-written
returns-clause-written g c =
    let head = c.args.frame.now.head in
    let body : List ℕ = body_spelling c.args.nodes (content c.args.nodes c.args.frame.now.body) in
    let front : List ℕ = header_spelling head (kind (content c.args.nodes c.args.frame.now.body)) (length body) in
    let k : c.number-kind.result ≡ kind (content c.args.nodes c.args.frame.now.body) = c.number-kind.ensures ∙ c.of.ensures c.args.nodes in
    let same : c.header.result ≡ front = c.header.ensures ∙ ap (λ n. header_spelling head n c.write_body-size.result) k ∙ ap (λ n. header_spelling head (kind (content c.args.nodes c.args.frame.now.body)) n) c.write_body-size.ensures.length in
    c.write_at.ensures ∙ ap (λ h. pasted 0 h c.write_body-size.new.out) same ∙ ap (pasted 0 front) c.write_body-size.ensures.written ∙ pasted_front front body c.args.out.now (omega (arith, c.requires.fits))
