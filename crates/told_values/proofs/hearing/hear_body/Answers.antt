use Rattle.std.proofs.Common.{refl, sym, subst}
use Rattle.frames.specs.Reading.{content_values}
use Rattle.frames.specs.Seen.{content}
use Rattle.frames.specs.declared.frame.Body.{Body}
use Rattle.protocol.specs.Arrival.{read_as, values_in}
use Rattle.told_values.specs.declared.hearing.Heard.TheVariants as code
use Rattle.told_values.specs.Heard.{IsHeard}
use Rattle.told_values.proofs.hearing.hear_body.Goals as goal

pub returns-in-Data : goal.returns-in-Data
returns-in-Data g c = λ nodes.
    subst (λ (b : Body g.row.N). IsHeard c.args.due.now.channels.now (code.Good c.read_by_place.result) (read_as (values_in (content nodes b)))) (sym c.in-Data.is)
    (content_values c.in-Data.values.bytes.now, refl, c.read_by_place.ensures)
