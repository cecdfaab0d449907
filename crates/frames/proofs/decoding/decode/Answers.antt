use Rattle.frames.specs.Seen.{expected, content}
use Rattle.frames.proofs.Bodies.{exactly}
use Rattle.frames.proofs.decoding.decode.Goals as goal

pub returns-clause-reading : goal.returns-clause-reading
returns-clause-reading g c = exactly (λ f. content c.args.expect.now.nodes f.body) (expected c.args.expect.now) c.args.bytes.now c.frame_of.result c.frame_of.ensures.some c.frame_of.ensures.none
